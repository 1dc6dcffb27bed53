-- The keys of a file are the keys of trees.
use Rattle.std.proofs.Common.{ℕ, List, get_or}
use Rattle.std.specs.Bool.{Decides}
use Rattle.std.specs.List.{list_all}
use Rattle.std.proofs.lemmas.List.Sums.{AllPass-from_list_all, list_all-from_AllPass}
use Rattle.rb_tree.specs.Keys.{IsKey}
use Rattle.rb_tree.proofs.Paths.{plain_test, filled_test, both_true, both_is}
use Rattle.rb_tree.specs.Path.{is_plain, is_filled}
use Rattle.rb_format.specs.Place.{key_ok}

pub key_is : (k : List ℕ) → Decides (key_ok k) (IsKey k)
key_is k = (
  λ h.
      let two = both_true (is_filled k) (list_all is_plain k) h in
      ((filled_test k).0 two.0, λ i d l. (plain_test (get_or k i d)).0 (AllPass-from_list_all is_plain k two.1 i d l)),
  λ h. both_is (is_filled k) (list_all is_plain k) ((filled_test k).1 h.0)
      (list_all-from_AllPass is_plain k (λ i d l. (plain_test (get_or k i d)).1 (h.1 i d l))),
)
