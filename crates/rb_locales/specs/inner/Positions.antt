-- Defines the model of the program's positions of parts, for proofs only.
use Rattle.rb_locales.specs.Locale.{first, second, later}
use Rattle.rb_locales.specs.Locale as locale
use Rattle.rb_locales.specs.declared.casing.Position.{Position}
use Rattle.rb_locales.specs.declared.casing.Position.TheVariants.{First, Second, Later}

abbrev pub position_of : Position → locale.Position
position_of First = first
position_of Second = second
position_of Later = later
