-- Lists of the values of a function, place by place.
use Rattle.std.proofs.Common.{◌≡◌, ℕ, zero, suc, ◌+◌, ◌<◌, ◌≤◌, Bool, true, false, List, [], ◌∷◌}
use Rattle.std.proofs.Common.{length, drop, map, nat_eq, Option, Some, None, refl, sym, ap, ◌∙◌, arith}
use Rattle.std.specs.Prelude.{slice_get, slice_index, is_some, IsSome}
use Rattle.std.specs.Cmp.Lexicographic.{pointwise}
use Rattle.std.specs.Map.{lookup}
use Rattle.std.proofs.lemmas.Slice.Eq.{bytes_eq-Decides}
use Rattle.rb_format.specs.Place.{values}
use Rattle.rb_format.specs.Denotation.{where_holds, ◌>>?◌}

pub values_length : {X : Type 0} (f : ℕ → X) (i n : ℕ) → length (values f i n) ≡ n
values_length f i zero = refl
values_length f i (suc n) = ap suc (values_length f (suc i) n)

pub values_get : {X : Type 0} (f : ℕ → X) (i n k : ℕ) → k < n → slice_get (values f i n) k ≡ Some (f (i + k))
values_get f i zero k h = absurd (omega arith)
values_get f i (suc n) zero h = let z : i + 0 ≡ i = omega arith in rw z refl
values_get f i (suc n) (suc k) h = let s : i + suc k ≡ suc i + k = omega arith in rw s (values_get f (suc i) n k (omega arith))

pub values_index : (f : ℕ → ℕ) (i n k : ℕ) → k < n → slice_index (values f i n) k ≡ f (i + k)
values_index f i zero k h = absurd (omega arith)
values_index f i (suc n) zero h = let z : i + 0 ≡ i = omega arith in rw z refl
values_index f i (suc n) (suc k) h = let s : i + suc k ≡ suc i + k = omega arith in rw s (values_index f (suc i) n k (omega arith))

-- the same from 0 on
pub values_at : {X : Type 0} (f : ℕ → X) (n k : ℕ) → k < n → slice_get (values f 0 n) k ≡ Some (f k)
values_at f n k h = let z : 0 + k ≡ k = omega arith in values_get f 0 n k h ∙ ap (λ (i : ℕ). Some (f i)) z

pub values_map : {X Y : Type 0} (g : X → Y) (f : ℕ → X) (i n : ℕ) → map g (values f i n) ≡ values (λ k. g (f k)) i n
values_map g f i zero = refl
values_map g f i (suc n) = ap (λ (xs : List _). g (f i) ∷ xs) (values_map g f (suc i) n)

pub values_drop : {X : Type 0} (f : ℕ → X) (i n k : ℕ) → k < n → drop k (values f i n) ≡ f (i + k) ∷ drop (k + 1) (values f i n)
values_drop f i zero k h = absurd (omega arith)
values_drop f i (suc n) zero h = let z : i + 0 ≡ i = omega arith in rw z refl
values_drop f i (suc n) (suc k) h =
    let s : i + suc k ≡ suc i + k = omega arith in
    let u : suc k + 1 ≡ suc (k + 1) = omega arith in
    rw (s, u) (values_drop f (suc i) n k (omega arith))

-- ---- a lookup among pairs

key_same : (q k : List ℕ) → q ≡ k → pointwise nat_eq q k ≡ true
key_same q k e = (bytes_eq-Decides q k).1 e

key_other : (q k : List ℕ) (b : Bool) → pointwise nat_eq q k ≡ b → (k ≡ q → ⊥) → b ≡ false
key_other q k false e ne = refl
key_other q k true e ne = absurd (ne (sym ((bytes_eq-Decides q k).0 e)))

-- the first pair with a key is found
pub lookup_hit : {T : Type 0} (q : List ℕ) (key : ℕ → List ℕ) (value : ℕ → T) (i n m : ℕ) → m < n → key (i + m) ≡ q → ((j : ℕ) → j < m → key (i + j) ≡ q → ⊥)
    → lookup (pointwise nat_eq q) (values (λ k. (key k, value k)) i n) ≡ Some (value (i + m))
lookup_hit q key value i zero m h e ne = absurd (omega arith)
lookup_hit q key value i (suc n) zero h e ne =
    let z : i + 0 ≡ i = omega arith in
    let same : key i ≡ q = rw z at e in
    rw (z, key_same q (key i) (sym same)) refl
lookup_hit q key value i (suc n) (suc m) h e ne =
    let z : i + 0 ≡ i = omega arith in
    let s : i + suc m ≡ suc i + m = omega arith in
    let first : key i ≡ q → ⊥ = λ d. ne 0 (omega arith) (ap key z ∙ d) in
    rw (key_other q (key i) _ refl first, s) (lookup_hit q key value (suc i) n m (omega arith) (ap key (sym s) ∙ e)
    (λ j l d. let t : i + suc j ≡ suc i + j = omega arith in ne (suc j) (omega arith) (ap key t ∙ d)))

-- if no pair has the key, none is found
pub lookup_miss : {T : Type 0} (q : List ℕ) (key : ℕ → List ℕ) (value : ℕ → T) (i n : ℕ) → ((j : ℕ) → j < n → key (i + j) ≡ q → ⊥)
    → lookup (pointwise nat_eq q) (values (λ k. (key k, value k)) i n) ≡ None
lookup_miss q key value i zero ne = refl
lookup_miss q key value i (suc n) ne =
    let z : i + 0 ≡ i = omega arith in
    let first : key i ≡ q → ⊥ = λ d. ne 0 (omega arith) (ap key z ∙ d) in
    rw (key_other q (key i) _ refl first) (lookup_miss q key value (suc i) n
    (λ j l d. let t : i + suc j ≡ suc i + j = omega arith in ne (suc j) (omega arith) (ap key t ∙ d)))

-- the same from 0 on
pub lookup_found : {T : Type 0} (q : List ℕ) (key : ℕ → List ℕ) (value : ℕ → T) (n m : ℕ) → m < n → key m ≡ q → ((j : ℕ) → j < m → key j ≡ q → ⊥)
    → lookup (pointwise nat_eq q) (values (λ k. (key k, value k)) 0 n) ≡ Some (value m)
lookup_found q key value n m h e ne =
    let z : 0 + m ≡ m = omega arith in
    lookup_hit q key value 0 n m h (ap key z ∙ e) (λ j l d. let y : 0 + j ≡ j = omega arith in ne j l (ap key (sym y) ∙ d)) ∙ ap (λ (k : ℕ). Some (value k)) z

pub lookup_absent : {T : Type 0} (q : List ℕ) (key : ℕ → List ℕ) (value : ℕ → T) (n : ℕ) → ((j : ℕ) → j < n → key j ≡ q → ⊥)
    → lookup (pointwise nat_eq q) (values (λ k. (key k, value k)) 0 n) ≡ None
lookup_absent q key value n ne = lookup_miss q key value 0 n (λ j l d. let y : 0 + j ≡ j = omega arith in ne j l (ap key (sym y) ∙ d))

-- the second part of a pair
pub first_at : {T : Type 0} (key : ℕ → List ℕ) (value : ℕ → T) (n m : ℕ) → m < n
    → slice_get (map (λ (e : List ℕ × T). e.0) (values (λ k. (key k, value k)) 0 n)) m ≡ Some (key m)
first_at {T} key value n m h = ap (λ (ks : List (List ℕ)). slice_get ks m) (values_map (λ (e : List ℕ × T). e.0) (λ (k : ℕ). (key k, value k)) 0 n)
    ∙ values_at key n m h

pub second_at : {T : Type 0} (key : ℕ → List ℕ) (value : ℕ → T) (n m : ℕ) → m < n
    → slice_get (map (λ (e : List ℕ × T). e.1) (values (λ k. (key k, value k)) 0 n)) m ≡ Some (value m)
second_at {T} key value n m h = ap (λ (ts : List T). slice_get ts m) (values_map (λ (e : List ℕ × T). e.1) (λ (k : ℕ). (key k, value k)) 0 n)
    ∙ values_at value n m h

-- what is left of the list begins with the next value
pub values_left : {X : Type 0} (f : ℕ → X) (n k : ℕ) → k < n → drop k (values f 0 n) ≡ f k ∷ drop (k + 1) (values f 0 n)
values_left f n k h = let z : 0 + k ≡ k = omega arith in values_drop f 0 n k h ∙ ap (λ (j : ℕ). f j ∷ drop (k + 1) (values f 0 n)) z

-- ---- options, a step at a time

pub some_is : {A : Type 0} (o : Option A) → IsSome o → (x : A) × (o ≡ Some x)
some_is (Some x) h = (x, refl)
some_is None h = absurd cc

pub is_some_from : {A : Type 0} (o : Option A) (x : A) → o ≡ Some x → IsSome o
is_some_from o x e = ap is_some e

pub some_eq : {A : Type 0} (x y : A) → ◌≡◌ {A = Option A} (Some x) (Some y) → x ≡ y
some_eq x y e = cc

pub then_some : {A B : Type 0} (o : Option A) (f : A → Option B) (y : B) → (o >>? f) ≡ Some y → (x : A) × (o ≡ Some x) × (f x ≡ Some y)
then_some (Some x) f y e = (x, refl, e)
then_some None f y e = absurd cc

pub where_some : {A : Type 0} (b : Bool) (o : Option A) (x : A) → where_holds b o ≡ Some x → (b ≡ true) × (o ≡ Some x)
where_some true o x e = (refl, e)
where_some false o x e = absurd cc

pub where_true : {A : Type 0} (b : Bool) (o : Option A) → b ≡ true → where_holds b o ≡ o
where_true true o e = refl
where_true false o e = absurd cc
