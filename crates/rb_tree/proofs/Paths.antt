-- Proves that the test of paths decides the definition.
use Rattle.std.proofs.Common.{◌≡◌, ℕ, ◌<◌, ◌&&◌, Bool, true, false, List, length, get_or, All, refl, arith}
use Rattle.std.specs.Bool.{Decides}
use Rattle.std.specs.List.{list_all}
use Rattle.std.proofs.lemmas.Bool.Decides.{nat_tests}
use Rattle.std.proofs.lemmas.List.Sums.{AllPass-from_list_all, list_all-from_AllPass}
use Rattle.rb_tree.specs.Keys.{IsPlain}
use Rattle.rb_tree.specs.Path.{IsPath, is_path, is_plain, is_filled, segments}

pub plain_test : (b : ℕ) → Decides (is_plain b) (IsPlain b)
plain_test b = (λ h. (grind (arith, nat_tests), grind (arith, nat_tests)), λ h. grind (arith, nat_tests))

pub filled_test : (s : List ℕ) → Decides (is_filled s) (0 < length s)
filled_test s = (λ h. grind (arith, nat_tests), λ h. grind (arith, nat_tests))

all_test : {X : Type 0} (p : X → Bool) (P : X → Type 0) → ((x : X) → Decides (p x) (P x)) → (xs : List X) → Decides (list_all p xs) (All P xs)
all_test p P each xs =
    (λ h k d l. (each (get_or xs k d)).0 (AllPass-from_list_all p xs h k d l), λ h. list_all-from_AllPass p xs (λ k d l. (each (get_or xs k d)).1 (h k d l)))

pub both_true : (a b : Bool) → a && b ≡ true → (a ≡ true) × (b ≡ true)
both_true true true h = (refl, refl)
both_true true false h = absurd cc
both_true false b h = absurd cc

pub both_is : (a b : Bool) → a ≡ true → b ≡ true → a && b ≡ true
both_is true true h k = refl
both_is true false h k = k
both_is false b h k = absurd cc

pub path_test : (path : List ℕ) → Decides (is_path path) (IsPath path)
path_test path = (
  λ h.
      let two = both_true (list_all is_plain path) (list_all is_filled (segments path)) h in
      record {
        plain = (all_test is_plain IsPlain plain_test path).0 two.0;
        filled = (all_test is_filled (λ s. 0 < length s) filled_test (segments path)).0 two.1;
      },
  λ h.
      both_is (list_all is_plain path) (list_all is_filled (segments path))
      ((all_test is_plain IsPlain plain_test path).1 h.plain)
      ((all_test is_filled (λ s. 0 < length s) filled_test (segments path)).1 h.filled),
)
