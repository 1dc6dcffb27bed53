-- The texts of merged tables and arrays, entry by entry.
use Rattle.std.proofs.Common.{◌≡◌, ◌+◌, ℕ, true, List, [], ◌∷◌, ◌++◌, Some, drop, length, map, take, refl, sym, ap, subst, ◌∙◌, append_assoc}
use Rattle.std.proofs.Math.Seq.{take-append_seam, take-length}
use Rattle.std.proofs.lemmas.List.{length-append}
use Rattle.std.specs.List.{slice_get}
use Rattle.json.specs.Print.{quoted}
use Rattle.serde_json.specs.Data.{Data, array, object}
use Rattle.serde_json.specs.View.{items_of}
use Rattle.serde_json.specs.Written.{compact_text, members_text}
use Rattle.rb_json.specs.Parts.{comma_before}
use Rattle.rb_json.specs.Value.{key_text}
use Rattle.rb_json.specs.inner.Listed.{after_commas, listed}
use Rattle.rb_json.proofs.Lists.{array_taken, list_more, list_skipped}
use Rattle.rb_inherit.specs.Merged.{members_data}
use Rattle.rb_inherit.specs.inner.Written.{entry_text}

members_told : (es : List (List ℕ × Data)) → members_text true (members_data es) ≡ after_commas entry_text es ++ 125 ∷ []
members_told [] = refl
members_told (e ∷ es) =
    let name = quoted (key_text e.0) in
    let text = compact_text e.1 in
    ap (λ (t : List ℕ). 44 ∷ (name ++ 58 ∷ (text ++ t))) (members_told es)
    ∙ ap (λ (t : List ℕ). 44 ∷ t) (sym (append_assoc (name ++ 58 ∷ text) (after_commas entry_text es) (125 ∷ [])
    ∙ append_assoc name (58 ∷ text) (after_commas entry_text es ++ 125 ∷ [])))

object_told : (es : List (List ℕ × Data)) → compact_text (object (members_data es)) ≡ 123 ∷ (listed entry_text es ++ 125 ∷ [])
object_told [] = refl
object_told (e ∷ es) = ap (λ (t : List ℕ). 123 ∷ drop 1 t) (members_told (e ∷ es))

same_map : (ds : List Data) → map (λ d. d) ds ≡ ds
same_map [] = refl
same_map (d ∷ ds) = ap (λ l. d ∷ l) (same_map ds)

last_of : {A : Type 0} (xs : List A) (x : A) → Some x ≡ slice_get (xs ++ x ∷ []) (length xs)
last_of [] x = refl
last_of (y ∷ xs) x = last_of xs x

take_all : {A : Type 0} (xs : List A) (x : A) → take (length xs + 1) (xs ++ x ∷ []) ≡ xs ++ x ∷ []
take_all {A} xs x = subst (λ (n : ℕ). take n (xs ++ x ∷ []) ≡ xs ++ x ∷ []) (length-append xs (x ∷ [])) (take-length (xs ++ x ∷ []))

module _ {S : Type 0} (Takes : S → S → List ℕ → Type 0) (joined : (x y z : S) (a b : List ℕ) → Takes x y a → Takes y z b → Takes x z (a ++ b)) where
  pub entry_more : {A : Type 0} (w x y z : S) (f : A → List ℕ) (xs : List A) (i : ℕ) (item : A) → length xs ≡ i → Takes w x (listed f xs) → Takes x y (comma_before i)
      → Takes y z (f item) → Takes w z (listed f (xs ++ item ∷ []))
  entry_more {A} w x y z f xs i item e h comma k =
      subst (λ (l : List A). Takes w z (listed f l)) (take_all xs item)
      (list_more Takes joined w x y z f (xs ++ item ∷ []) (length xs) item (subst (λ (l : List A). Takes w x (listed f l)) (sym (take-append_seam xs (item ∷ []))) h)
      (subst (λ (n : ℕ). Takes x y (comma_before n)) (sym e) comma) k (last_of xs item))

  pub entries_skipped : {A : Type 0} (w x y : S) (f : A → List ℕ) (xs more : List A) → Takes w x (listed f xs) → ((bytes : List ℕ) → Takes x y bytes)
      → Takes w y (listed f (xs ++ more))
  entries_skipped {A} w x y f xs more h skips =
      list_skipped Takes joined w x y f (xs ++ more) (length xs) (subst (λ (l : List A). Takes w x (listed f l)) (sym (take-append_seam xs more)) h) skips

  pub object_taken : (w x y z : S) (es : List (List ℕ × Data)) → Takes w x (123 ∷ []) → Takes x y (listed entry_text es) → Takes y z (125 ∷ [])
      → Takes w z (compact_text (object (members_data es)))
  object_taken w x y z es a b c =
      subst (Takes w z) (sym (object_told es))
      (joined w x z (123 ∷ []) (listed entry_text es ++ 125 ∷ []) a (joined x y z (listed entry_text es) (125 ∷ []) b c))

  pub items_taken : (w x y z : S) (ds : List Data) → Takes w x (91 ∷ []) → Takes x y (listed compact_text ds) → Takes y z (93 ∷ [])
      → Takes w z (compact_text (array (items_of ds)))
  items_taken w x y z ds a b c =
      subst (λ (l : List Data). Takes w z (compact_text (array (items_of l)))) (same_map ds)
      (array_taken Takes joined w x y z (λ d. d) ds a b c)
