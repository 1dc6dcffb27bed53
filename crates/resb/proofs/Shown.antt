-- The items of a table and of an array, one after another.
use Rattle.std.proofs.Common.{◌≡◌, ◌∙◌, ◌<◌, ◌+◌, ◌++◌, ℕ, zero, suc, List, [], ◌∷◌, Some, length, take, ap, sym}
use Rattle.std.specs.Prelude.{map, option_map, slice_get}
use Rattle.std.specs.Map.{keys_of, values_of}
use Rattle.std.proofs.Math.ListN.{set}
use Rattle.std.proofs.lemmas.List.{map_push, take_more, take_more_set}
use Rattle.std.proofs.lemmas.Option.{get_or_from_slice_get, slice_get-map, slice_get_within}
use Rattle.rb_tree.specs.Resource.{Resource}
use Rattle.resb.specs.Children.{Shown, shown_child, shown_entry, shown_item, shown}
use Rattle.resb.specs.declared.children.Child.{Child}

pub entry_shown : (es : List (List ℕ × Resource)) (i : ℕ) (k : List ℕ) (t : Resource) → Some k ≡ slice_get (keys_of es) i
    → Some t ≡ slice_get (values_of es) i → Some (shown k t) ≡ slice_get (map shown_entry es) i
entry_shown [] i k t p q = cc
entry_shown (e ∷ es) zero k t p q =
    let a : k ≡ e.0 = cc in
    let b : t ≡ e.1 = cc in
    ap (λ (x : List ℕ). Some (shown x t)) a ∙ ap (λ (u : Resource). Some (shown e.0 u)) b
entry_shown (e ∷ es) (suc i) k t p q = entry_shown es i k t p q

pub item_shown : (ts : List Resource) (i : ℕ) (t : Resource) → Some t ≡ slice_get ts i → Some (shown_item t) ≡ slice_get (map shown_item ts) i
item_shown ts i t p = ap (option_map shown_item) p ∙ sym (slice_get-map shown_item ts i)

pub one_more : (xs : List Child) (ys : List Shown) (i : ℕ) (y : Child) → i < length xs → Some (shown_child y) ≡ slice_get ys i
    → map shown_child (take i xs) ≡ take i ys → map shown_child (take (i + 1) (set xs i y)) ≡ take (i + 1) ys
one_more xs ys i y inside is e =
    let s = shown_child y in
    let more : take (i + 1) ys ≡ take i ys ++ s ∷ [] = take_more ys i s (slice_get_within ys i s (sym is))
    ∙ ap (λ (z : Shown). take i ys ++ z ∷ []) (get_or_from_slice_get ys i s s (sym is)) in
    ap (λ (zs : List Child). map shown_child zs) (take_more_set xs i y inside) ∙ map_push shown_child (take i xs) y
    ∙ ap (λ (zs : List Shown). zs ++ s ∷ []) e ∙ sym more
