-- The members of merged tables, one key after another; and that each place has a value.
use Rattle.std.proofs.Common.{◌≡◌, ◌++◌, ℕ, zero, suc, List, [], ◌∷◌, Bool, true, false, Option, Some, None, map, codes, nat_lt, decimal, refl, sym, ap, subst, ◌∙◌, append_assoc, append-nil}
use Rattle.std.specs.List.{AllByRecursion}
use Rattle.std.specs.Ordering.{nat_cmp}
use Rattle.std.specs.declared.cmp.Ordering.TheVariants.{Less}
use Rattle.std.specs.Cmp.Lexicographic.{slice_cmp}
use Rattle.serde_json.specs.Data.{Data, array, object}
use Rattle.serde_json.specs.View.{items_of}
use Rattle.rb_tree.specs.Parts.{children_of, kind_of}
use Rattle.rb_tree.specs.Resource.{Resource}
use Rattle.rb_tree.specs.declared.kind.Kind.{Kind}
use Rattle.rb_tree.specs.declared.kind.Kind.TheVariants as kind
use Rattle.rb_json.specs.Value.{value_of}
use Rattle.rb_fallback.specs.Words.{look_word}
use Rattle.rb_fallback.specs.declared.fault.LookError.{LookError}
use Rattle.rb_fallback.specs.declared.fault.LookError.TheVariants as look
use Rattle.rb_inherit.specs.Merged.{AreItems, AreMembers, Ascends, Begins, Decides, Here, IsAt, IsItem, IsTree, IsValue, Joins, JoinsRefused, Layered, Merges, Part, Refused, alias_fault, all_keys, at_key, error_data, fails, item, layered, longer, members_data, nothing, tables}
use Rattle.rb_inherit.proofs.Keys.{AllNext, Below, after, ascend_after, at_later, has, if_has, keys_step}

all_append : {A : Type 0} (P : A → Type 0) (xs ys : List A) → AllByRecursion P xs → AllByRecursion P ys → AllByRecursion P (xs ++ ys)
all_append P [] ys a b = b
all_append P (x ∷ xs) ys a b = (a.0, all_append P xs ys a.1 b)

all_front : {A : Type 0} (P : A → Type 0) (xs : List A) (x : A) → AllByRecursion P (xs ++ x ∷ []) → AllByRecursion P xs
all_front P [] x h = tt
all_front P (y ∷ xs) x h = (h.0, all_front P xs x h.1)

all_last : {A : Type 0} (P : A → Type 0) (xs : List A) (x : A) → AllByRecursion P (xs ++ x ∷ []) → P x
all_last P [] x h = h.0
all_last P (y ∷ xs) x h = all_last P xs x h.1

all_map : {A : Type 0} (P Q : A → Type 0) (f : (x : A) → P x → Q x) (xs : List A) → AllByRecursion P xs → AllByRecursion Q xs
all_map P Q f [] h = tt
all_map P Q f (x ∷ xs) h = (f x h.0, all_map P Q f xs h.1)

firsts : {A B : Type 0} (xs ys : List (A × B)) → map (λ e. e.0) (xs ++ ys) ≡ map (λ e. e.0) xs ++ map (λ e. e.0) ys
firsts [] ys = refl
firsts (x ∷ xs) ys = ap (λ l. x.0 ∷ l) (firsts xs ys)

-- ---- members so far
-- of the tables `ls` the entries `es` were written, and the tables `now` have the others
pub record Merging (Is : ℕ → Here → Data → Type 0) (used : ℕ) (ls now : List Layered) (es : List (List ℕ × Data)) : Type 0 where
  pub keys : map (λ e. e.0) es ++ all_keys now ≡ all_keys ls
  pub each : AllByRecursion (λ e. IsAt Is used e.0 (at_key e.0 ls) e.1) es
  pub same : (j : List ℕ) → AllByRecursion (λ e. slice_cmp nat_cmp e.0 j ≡ Less) es → at_key j now ≡ at_key j ls
  pub bound : AllByRecursion (λ e. Below e.0 (all_keys now)) es
  pub ascend : AllByRecursion Ascends now

pub merging_none : (Is : ℕ → Here → Data → Type 0) (used : ℕ) (ls : List Layered) → AllByRecursion Ascends ls → Merging Is used ls ls []
merging_none Is used ls a = record { keys = refl; each = tt; same = λ j h. refl; bound = tt; ascend = a }

pub merging_more : (Is : ℕ → Here → Data → Type 0) (used : ℕ) (ls now : List Layered) (es : List (List ℕ × Data)) (k : List ℕ) (d : Data)
    → Merging Is used ls now es → AllNext k now → has k now ≡ true → IsAt Is used k (at_key k now) d
    → Merging Is used ls (map (after k) now) (es ++ (k, d) ∷ [])
merging_more Is used ls now es k d m n h is =
    let rest = all_keys (map (after k) now) in
    let step = keys_step k now n in
    let first : all_keys now ≡ k ∷ rest = step.0 ∙ ap (λ (b : Bool). if_has b k rest) h in
    let bound = subst (λ (ks : List (List ℕ)). AllByRecursion (λ e. Below e.0 ks) es) first m.bound in
    let less : AllByRecursion (λ e. slice_cmp nat_cmp e.0 k ≡ Less) es =
    all_map (λ (e : List ℕ × Data). Below e.0 (k ∷ rest)) (λ (e : List ℕ × Data). slice_cmp nat_cmp e.0 k ≡ Less) (λ e b. b.0) es bound in
    let there : IsAt Is used k (at_key k ls) d = subst (λ (ps : List Part). IsAt Is used k ps d) (m.same k less) is in
    record {
      keys = ap (λ (l : List (List ℕ)). l ++ rest) (firsts es ((k, d) ∷ []))
          ∙ (append_assoc (map (λ e. e.0) es) (k ∷ []) rest ∙ (ap (λ (l : List (List ℕ)). map (λ e. e.0) es ++ l) (sym first) ∙ m.keys));
      each = all_append (λ (e : List ℕ × Data). IsAt Is used e.0 (at_key e.0 ls) e.1) es ((k, d) ∷ []) m.each (there, tt);
      same = λ j a.
          at_later k j now (all_last (λ (e : List ℕ × Data). slice_cmp nat_cmp e.0 j ≡ Less) es (k, d) a)
          ∙ m.same j (all_front (λ (e : List ℕ × Data). slice_cmp nat_cmp e.0 j ≡ Less) es (k, d) a);
      bound = all_append (λ (e : List ℕ × Data). Below e.0 rest) es ((k, d) ∷ [])
          (all_map (λ (e : List ℕ × Data). Below e.0 (k ∷ rest)) (λ (e : List ℕ × Data). Below e.0 rest) (λ e b. b.1) es bound) (step.1, tt);
      ascend = ascend_after k now m.ascend;
    }

pub merging_all : (Is : ℕ → Here → Data → Type 0) (used : ℕ) (ls now : List Layered) (es : List (List ℕ × Data)) → Merging Is used ls now es → all_keys now ≡ []
    → AreMembers Is used ls es
merging_all Is used ls now es m e = record {
  keys = sym (append-nil (map (λ f. f.0) es)) ∙ (ap (λ (l : List (List ℕ)). map (λ f. f.0) es ++ l) (sym e) ∙ m.keys);
  each = m.each;
}

-- ---- each place has a value
joined_some : (b : Bool) (k : Kind) (p : Part) (Rest : List Layered → Type 0) → ((rest : List Layered) × Rest rest) → (more : List Layered) × Joins b k p Rest more
joined_some true k p Rest r = ([], refl)
joined_some false kind.Table p Rest r = (layered p ∷ r.0, (r.0, (refl, r.1)))
joined_some false kind.Alias p Rest r = ([], by (alias_fault p.tree))
  where
    by : (o : Option LookError) → JoinsRefused o []
    by None = tt
    by (Some e) = refl
joined_some false _ p Rest r = ([], refl)

merged_some : (used : ℕ) (ps : List Part) → (more : List Layered) × Merges used ps more
merged_some used [] = ([], refl)
merged_some used (p ∷ ps) = joined_some (nat_lt p.most used) (kind_of p.tree) p (λ rest. Merges used ps rest) (merged_some used ps)

begun_some : (b : Bool) (k : Kind) (p : Part) (Rest : List Layered → Type 0) → ((rest : List Layered) × Rest rest) → (h : Here) × Begins b k p Rest h
begun_some true k p Rest r = (fails look.PathTooLong, refl)
begun_some false kind.Table p Rest r = (tables (layered p ∷ r.0), (r.0, (refl, r.1)))
begun_some false kind.Alias p Rest r = by (alias_fault p.tree)
  where
    by : (o : Option LookError) → (h : Here) × Refused o h
    by None = (nothing, tt)
    by (Some e) = (fails e, refl)
begun_some false _ p Rest r = (item p, refl)

decided_some : (used : ℕ) (ps : List Part) → (h : Here) × Decides used ps h
decided_some used [] = (nothing, refl)
decided_some used (p ∷ ps) = begun_some (nat_lt p.most used) (kind_of p.tree) p (λ rest. Merges used ps rest) (merged_some used ps)

abbrev pub Total : (ℕ → Here → Data → Type 0) → Type 0
Total Is = (used : ℕ) (h : Here) → (d : Data) × Is used h d

at_some : (Is : ℕ → Here → Data → Type 0) → Total Is → (used : ℕ) (k : List ℕ) (ps : List Part) → (d : Data) × IsAt Is used k ps d
at_some Is total used k ps =
    let h = decided_some (longer used k) ps in
    let d = total (longer used k) h.0 in
    (d.0, (h.0, (h.1, d.1)))

pub members_some : (Is : ℕ → Here → Data → Type 0) → Total Is → (used : ℕ) (ls : List Layered) (ks : List (List ℕ))
    → (es : List (List ℕ × Data)) × ((map (λ e. e.0) es ≡ ks) × AllByRecursion (λ e. IsAt Is used e.0 (at_key e.0 ls) e.1) es)
members_some Is total used ls [] = ([], (refl, tt))
members_some Is total used ls (k ∷ ks) =
    let d = at_some Is total used k (at_key k ls) in
    let rest = members_some Is total used ls ks in
    ((k, d.0) ∷ rest.0, (ap (λ (l : List (List ℕ)). k ∷ l) rest.1.0, (d.1, rest.1.1)))

pub items_some : (Is : ℕ → Here → Data → Type 0) → Total Is → (used most i : ℕ) (ts : List Resource) → (ds : List Data) × AreItems Is used most i ts ds
items_some Is total used most i [] = ([], refl)
items_some Is total used most i (t ∷ ts) =
    let d = at_some Is total used (decimal i) (record { tree = t; most = most } ∷ []) in
    let rest = items_some Is total used most (suc i) ts in
    (d.0 ∷ rest.0, (d.1, rest.1))

-- with the members that the outlet skips
pub merging_rest : (Is : ℕ → Here → Data → Type 0) (used : ℕ) (ls now : List Layered) (es more : List (List ℕ × Data)) → Merging Is used ls now es
    → map (λ e. e.0) more ≡ all_keys now → AllByRecursion (λ e. IsAt Is used e.0 (at_key e.0 ls) e.1) more → AreMembers Is used ls (es ++ more)
merging_rest Is used ls now es more m e a = record {
  keys = firsts es more ∙ (ap (λ (l : List (List ℕ)). map (λ f. f.0) es ++ l) e ∙ m.keys);
  each = all_append (λ (f : List ℕ × Data). IsAt Is used f.0 (at_key f.0 ls) f.1) es more m.each a;
}

item_some : (Is : ℕ → Here → Data → Type 0) → Total Is → (used : ℕ) (k : Kind) (p : Part) → (d : Data) × IsItem Is used k p d
item_some Is total used kind.Array p =
    let ds = items_some Is total used p.most 0 (children_of p.tree) in
    (array (items_of ds.0), (ds.0, (refl, ds.1)))
item_some Is total used kind.Table p = (value_of p.tree, tt)
item_some Is total used kind.Alias p = (value_of p.tree, tt)
item_some Is total used _ p = (value_of p.tree, refl)

value_some : (Is : ℕ → Here → Data → Type 0) → Total Is → (used : ℕ) (h : Here) → (d : Data) × IsValue Is used h d
value_some Is total used nothing = (error_data (codes "Missing"), refl)
value_some Is total used (fails e) = (error_data (look_word e), refl)
value_some Is total used (item p) = item_some Is total used (kind_of p.tree) p
value_some Is total used (tables ls) =
    let es = members_some Is total used ls (all_keys ls) in
    (object (members_data es.0), (es.0, (refl, λ a. record { keys = es.1.0; each = es.1.1 })))

pub tree_some : (n : ℕ) → Total (IsTree n)
unfolding IsTree
tree_some zero = λ used h. (error_data (codes "TooDeep"), refl)
tree_some (suc n) = λ used h. value_some (λ u g e. IsTree n u g e) (tree_some n) used h
