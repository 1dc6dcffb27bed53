-- A tree has one file.
use Rattle.std.proofs.Common.{◌≡◌, ℕ, zero, suc, ◌<◌, Bool, List, [], ◌∷◌, length, get_or, refl, sym, ap, subst, ◌∙◌, arith, inl, inr, ◌⊎◌}
use Rattle.std.specs.Prelude.{Contains}
use Rattle.std.specs.List.{AllByRecursion}
use Rattle.std.specs.Ordering.{nat_cmp, ordering_reverse}
use Rattle.std.specs.declared.cmp.Ordering.TheVariants.{Less, Greater}
use Rattle.std.specs.Cmp.Lexicographic.{slice_cmp}
use Rattle.std.specs.List.Sorted.{IsStrictlySortedBy}
use Rattle.std.proofs.lemmas.Cmp.{nat_list_cmp_total, nat_list_eq_equiv}
use Rattle.rb_tree.specs.Resource.{Resource}
use Rattle.rb_writer.specs.Written.{file_of, IsWriterFile}
use Rattle.rb_writer.proofs.Once.{other}

below : List ℕ → List ℕ → Type 0
below x y = slice_cmp nat_cmp x y ≡ Less

never_itself : {A : Type 0} (x : List ℕ) → below x x → A
unfolding below
never_itself x h = let no = other x x h in let same = nat_list_eq_equiv.refl x in absurd cc

never_both : {A : Type 0} (x y : List ℕ) → below x y → below y x → A
unfolding below
never_both x y h g =
    let back : Less ≡ Greater = sym h ∙ nat_list_cmp_total.antisymm x y ∙ ap ordering_reverse g in
    absurd cc

-- the first of some keys is below the others
less_in : (x : List ℕ) (ks : List (List ℕ)) (i : ℕ) (q : List ℕ) → AllByRecursion (λ y. slice_cmp nat_cmp x y ≡ Less) ks → i < length ks → get_or ks i q ≡ q
    → below x q
unfolding below
less_in x [] i q a h e = absurd (omega arith)
less_in x (k ∷ ks) zero q a h e = subst (λ (y : List ℕ). slice_cmp nat_cmp x y ≡ Less) e a.0
less_in x (k ∷ ks) (suc i) q a h e = less_in x ks i q a.1 (omega arith) e

first_or : (x : List ℕ) (xs : List (List ℕ)) (q : List ℕ) → Contains (x ∷ xs) q → (x ≡ q) ⊎ Contains xs q
first_or x xs q (zero, h, e) = inl e
first_or x xs q (suc i, h, e) = inr (i, omega arith, e)

first_in : (x : List ℕ) (xs : List (List ℕ)) → Contains (x ∷ xs) x
first_in x xs = (0, omega arith, refl)

later : (x : List ℕ) (xs : List (List ℕ)) (q : List ℕ) → Contains xs q → Contains (x ∷ xs) q
later x xs q c = let low = c.1 in (suc c.0, omega arith, c.2)

-- two lists of keys that ascend and have the same keys start with the same one
same_first : (x y : List ℕ) (xs ys : List (List ℕ)) → IsStrictlySortedBy (slice_cmp nat_cmp) (x ∷ xs) → IsStrictlySortedBy (slice_cmp nat_cmp) (y ∷ ys)
    → ((k : List ℕ) → Contains (x ∷ xs) k → Contains (y ∷ ys) k) → ((k : List ℕ) → Contains (y ∷ ys) k → Contains (x ∷ xs) k) → x ≡ y
unfolding IsStrictlySortedBy
same_first x y xs ys a b f g = elim (first_or y ys x (f x (first_in x xs))) [
  | inl same ↦ sym same
  | inr above ↦ elim (first_or x xs y (g y (first_in y ys))) [
    | inl same ↦ same
    | inr beyond ↦ never_both x y (less_in x xs beyond.0 y a.0 beyond.1 beyond.2) (less_in y ys above.0 x b.0 above.1 above.2)
  ]
]

-- what is among the keys and above the first is among the others
rest_in : (x : List ℕ) (xs ys : List (List ℕ)) → IsStrictlySortedBy (slice_cmp nat_cmp) (x ∷ xs) → ((k : List ℕ) → Contains (x ∷ xs) k → Contains (x ∷ ys) k)
    → (k : List ℕ) → Contains xs k → Contains ys k
unfolding IsStrictlySortedBy
rest_in x xs ys a f k c = elim (first_or x ys k (f k (later x xs k c))) [
  | inl same ↦ never_itself x (subst (below x) (sym same) (less_in x xs c.0 k a.0 c.1 c.2))
  | inr rest ↦ rest
]

nothing_in : {A : Type 0} (q : List ℕ) → Contains {X = List ℕ} [] q → A
nothing_in q c = let low = c.1 in absurd (omega arith)

same_keys : (xs ys : List (List ℕ)) → IsStrictlySortedBy (slice_cmp nat_cmp) xs → IsStrictlySortedBy (slice_cmp nat_cmp) ys
    → ((k : List ℕ) → Contains xs k → Contains ys k) → ((k : List ℕ) → Contains ys k → Contains xs k) → xs ≡ ys
unfolding IsStrictlySortedBy
same_keys [] [] a b f g = refl
same_keys [] (y ∷ ys) a b f g = nothing_in y (g y (first_in y ys))
same_keys (x ∷ xs) [] a b f g = nothing_in x (f x (first_in x xs))
same_keys (x ∷ xs) (y ∷ ys) a b f g =
    let same : x ≡ y = same_first x y xs ys a b f g in
    let to : (k : List ℕ) → Contains (x ∷ xs) k → Contains (x ∷ ys) k = subst
    (λ (z : List ℕ). (k : List ℕ) → Contains (x ∷ xs) k → Contains (z ∷ ys) k) (sym same) f in
    let back : (k : List ℕ) → Contains (y ∷ ys) k → Contains (y ∷ xs) k = subst
    (λ (z : List ℕ). (k : List ℕ) → Contains (y ∷ ys) k → Contains (z ∷ xs) k) same g in
    let rest : xs ≡ ys = same_keys xs ys a.1 b.1 (rest_in x xs ys a to) (rest_in y ys xs b back) in
    rw (same, rest) refl

pub one_file : (t : Resource) (b : Bool) (file other : List ℕ) → IsWriterFile t b file → IsWriterFile t b other → file ≡ other
one_file t b file other f g =
    let keys : f.keys ≡ g.keys = same_keys f.keys g.keys f.are_keys.ascend g.are_keys.ascend (λ k c. g.are_keys.all k (f.are_keys.only k c))
    (λ k c. f.are_keys.all k (g.are_keys.only k c)) in
    f.bytes ∙ ap (λ (ks : List (List ℕ)). file_of ks t b) keys ∙ sym g.bytes
