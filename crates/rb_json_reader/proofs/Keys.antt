use Rattle.std.proofs.Common.{ℕ, List, [], ◌∷◌, ◌++◌, All, sym, subst}
use Rattle.std.proofs.lemmas.List.{map-append}
use Rattle.std.proofs.lemmas.List.Elements.{All-push}
use Rattle.rb_tree.specs.Keys.{IsKey}
use Rattle.rb_tree.specs.Table.{keys_in}
use Rattle.rb_tree.specs.declared.tree.Tree.{Tree}

abbrev Pair : Type 0
Pair = List ℕ × Tree

-- the keys of pairs stay keys if one more is
pub keys_more : (ps : List Pair) (k : List ℕ) (t : Tree) → All IsKey (keys_in ps) → IsKey k → All IsKey (keys_in (ps ++ (k, t) ∷ []))
keys_more ps k t all good =
    let pair : Pair = (k, t) in
    subst (λ (ks : List (List ℕ)). All IsKey ks) (sym (map-append (λ (p : Pair). p.0) ps (pair ∷ []))) (All-push IsKey (keys_in ps) k all good)
