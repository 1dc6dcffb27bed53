-- Defines where the root item of a file is (`uresdata.h`): the first half word is the size of the header, and word 0 of
-- the data is the item.
use Rattle.std.specs.Prelude.{◌≡◌, ℕ, List}
use Rattle.rb_format.specs.Place.{word_at, half_at}
use Rattle.rb_views.specs.Trees.{data_of}
use Rattle.rb_views.specs.declared.place.RootPlace.{RootPlace}

pub record IsRootPlace (bytes : List ℕ) (place : RootPlace) : Type 0 where
  pub header : place.header ≡ half_at bytes 0
  pub word : place.word ≡ word_at (data_of bytes) 0
