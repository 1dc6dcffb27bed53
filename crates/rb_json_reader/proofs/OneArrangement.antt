-- Trees that are arranged from one tree are equal.
use Rattle.std.proofs.Common.{◌≡◌, ◌∷◌, ℕ, List, ap, ap₂, subst, sym, ◌∙◌}
use Rattle.rb_tree.specs.Resource.{Resource, array, table, Resources, no_trees, tree_and, Members, no_entries, entry_and}
use Rattle.rb_tree.specs.Table.{IsTableOf}
use Rattle.rb_tree.proofs.OneTable.{one_table}
use Rattle.rb_json_reader.specs.Arranged.{Arranges, ItemsArrange, EntriesArrange}

mutual
  pub one_arranged : (u t v : Resource) → Arranges u t → Arranges u v → t ≡ v
  one_arranged (array us) t v a b = a.1 ∙ ap array (one_items us a.0 b.0 a.2 b.2) ∙ sym b.1
  one_arranged (table es) t v a b = one_table b.0 t v (subst (λ ps. IsTableOf ps t) (one_entries es a.0 b.0 a.1 b.1) a.3) b.3
  one_arranged _ t v a b = a ∙ sym b

  one_items : (us ts vs : Resources) → ItemsArrange us ts → ItemsArrange us vs → ts ≡ vs
  one_items no_trees ts vs a b = a ∙ sym b
  one_items (tree_and u us) ts vs a b =
      a.2 ∙ ap₂ tree_and (one_arranged u a.0 b.0 a.3 b.3) (one_items us a.1 b.1 a.4 b.4) ∙ sym b.2

  one_entries : (es : Members) (ps qs : List (List ℕ × Resource)) → EntriesArrange es ps → EntriesArrange es qs → ps ≡ qs
  one_entries no_entries ps qs a b = a ∙ sym b
  one_entries (entry_and k u es) ps qs a b =
      a.2 ∙ ap₂ (λ (t : Resource) (rest : List (List ℕ × Resource)). (k, t) ∷ rest) (one_arranged u a.0 b.0 a.3 b.3) (one_entries es a.1 b.1 a.4 b.4) ∙ sym b.2
