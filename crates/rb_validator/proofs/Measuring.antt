-- Keys by their lengths.
use Rattle.std.proofs.Common.{◌≡◌, ℕ, zero, suc, ◌+◌, ◌-◌, ◌*◌, ◌<◌, ◌≤◌, Bool, true, false, cond, ltb, List, [], ◌∷◌, length, get_or}
use Rattle.std.proofs.Common.{take, drop, Option, Some, None, refl, sym, ap, subst, ◌∙◌, arith}
use Rattle.std.specs.Prelude.{◌==◌, ◌&&◌, nat_lt}
use Rattle.std.proofs.lemmas.Bool.{ltb-true, ltb-false, lt-ltb, le-ltb}
use Rattle.std.proofs.lemmas.Bool.Decides.{nat_tests}
use Rattle.std.proofs.lemmas.List.{length-drop, length-take, drop_all, drop-take, drop-drop, get_or_past}
use Rattle.std.proofs.Math.Seq.{drop-cons}
use Rattle.rb_tree.specs.Path.{is_plain}
use Rattle.rb_format.specs.declared.layout.Layout.{Layout}
use Rattle.rb_format.specs.Place.{key}
use Rattle.rb_validator.specs.inner.KnownKeys.{key_run, key_or_none}
use Rattle.rb_validator.specs.inner.Ranks.{key_from}
use Rattle.rb_validator.specs.inner.Lengths.{AreCounted, place_of, length_at}
use Rattle.rb_format.proofs.KeyFronts.{front, cons_to, nonempty}
use Rattle.rb_validator.proofs.Fronts.{run_long, placed}

abbrev pub IsLong : List ℕ → ℕ → Option (List ℕ) → Type 0
IsLong lengths p None = get_or lengths p 0 ≡ 0
IsLong lengths p (Some s) = get_or lengths p 0 ≡ suc (length s)

abbrev count_of : ℕ → ℕ → ℕ → Bool
count_of b n rest = cond (b == 0) (n == 1) (cond (is_plain b && nat_lt 0 rest) (n == rest + 1) (n == 0))

count_nul : (b n rest : ℕ) → count_of b n rest ≡ true → (b == 0) ≡ true → n ≡ 1
count_nul b n rest h e = grind (arith, nat_tests)

count_none : (b n rest : ℕ) → count_of b n rest ≡ true → (b == 0) ≡ false → (is_plain b && nat_lt 0 rest) ≡ false → n ≡ 0
count_none b n rest h e f = let g : (n == 0) ≡ true = rw (e, f) at h in grind (arith, nat_tests, g)

next_length : (b n rest : ℕ) → count_of b n rest ≡ true → 2 ≤ n → n ≡ rest + 1
next_length b n rest h l = grind (arith, nat_tests)

count_some : (b n rest : ℕ) → count_of b n rest ≡ true → (b == 0) ≡ false → (is_plain b && nat_lt 0 rest) ≡ true → n ≡ rest + 1
count_some b n rest h e f = let g : (n == rest + 1) ≡ true = rw (e, f) at h in grind (arith, nat_tests, g)

-- a place with a byte, from what is known of the next
long_here : (lengths : List ℕ) (p b : ℕ) (f : Option (List ℕ)) → count_of b (get_or lengths p 0) (get_or lengths (suc p) 0) ≡ true
    → IsLong lengths (suc p) f → IsLong lengths p (cond (b == 0) (Some []) (cond (is_plain b) (cons_to b f) None))
long_here lengths p b f n h = by f (b == 0) (is_plain b) refl refl h
  where
    by : (f : Option (List ℕ)) (z t : Bool) → (b == 0) ≡ z → is_plain b ≡ t → IsLong lengths (suc p) f
        → IsLong lengths p (cond z (Some []) (cond t (cons_to b f) None))
    by f true t e g h = count_nul b (get_or lengths p 0) (get_or lengths (suc p) 0) n e
    by None false true e g h =
        let l : nat_lt 0 (get_or lengths (suc p) 0) ≡ false = le-ltb 0 (get_or lengths (suc p) 0) (omega arith) in
        count_none b (get_or lengths p 0) (get_or lengths (suc p) 0) n e (rw (g, l) refl)
    by (Some s) false true e g h =
        let l : nat_lt 0 (get_or lengths (suc p) 0) ≡ true = lt-ltb 0 (get_or lengths (suc p) 0) (omega arith) in
        let w = count_some b (get_or lengths p 0) (get_or lengths (suc p) 0) n e (rw (g, l) refl) in
        omega arith
    by f false false e g h = count_none b (get_or lengths p 0) (get_or lengths (suc p) 0) n e (rw g refl)

long_all : (run lengths : List ℕ) → AreCounted run lengths → (d : List ℕ) (p : ℕ) → drop p run ≡ d → IsLong lengths p (front d)
long_all run lengths n [] p e =
    let l : length (drop p run) ≡ 0 = ap length e in
    let long = n.long in
    get_or_past lengths p 0 (omega (arith, length-drop p run))
long_all run lengths n (b ∷ d) p e =
    let l : length (drop p run) ≡ suc (length d) = ap length e in
    let long : p < length run = omega (arith, length-drop p run) in
    let whole : drop p run ≡ get_or run p 0 ∷ drop (suc p) run = drop-cons run p 0 long in
    let both : b ∷ d ≡ get_or run p 0 ∷ drop (suc p) run = sym e ∙ whole in
    let here : get_or run p 0 ≡ b = cc in
    let there : drop (suc p) run ≡ d = cc in
    let next : p + 1 ≡ suc p = omega arith in
    let node : count_of (get_or run p 0) (get_or lengths p 0) (get_or lengths (suc p) 0) ≡ true = rw next at (n.each p long) in
    let node_b : count_of b (get_or lengths p 0) (get_or lengths (suc p) 0) ≡ true = rw here at node in
    long_here lengths p b (front d) node_b (long_all run lengths n d (suc p) there)

-- ---- the bytes of a key

take_prefix : (n m : ℕ) (d : List ℕ) → n ≤ m → take n (take m d) ≡ take n d
take_prefix zero m d l = refl
take_prefix (suc n) zero d l = absurd (omega arith)
take_prefix (suc n) (suc m) [] l = refl
take_prefix (suc n) (suc m) (x ∷ d) l = ap (λ (t : List ℕ). x ∷ t) (take_prefix n m d (omega arith))

record IsFront (d s : List ℕ) : Type 0 where
  short : length s < length d
  is : take (length s) d ≡ s

front_take : (d s : List ℕ) → front d ≡ Some s → IsFront d s
front_take [] s e = absurd cc
front_take (b ∷ d) s e = by (λ r g. front_take d r g) (b == 0) (is_plain b) (front d) refl e
  where
    by : ((r : List ℕ) → front d ≡ Some r → IsFront d r) → (z t : Bool) (f : Option (List ℕ)) → front d ≡ f
        → cond z (Some []) (cond t (cons_to b f) None) ≡ Some s → IsFront (b ∷ d) s
    by h true t f g e = let i : [] ≡ s = cc in subst (λ (x : List ℕ). IsFront (b ∷ d) x) i (record { short = omega arith; is = refl })
    by h false true None g e = absurd cc
    by h false true (Some r) g e =
        let w = h r g in
        let l = w.short in
        let i : b ∷ r ≡ s = cc in
        subst (λ (x : List ℕ). IsFront (b ∷ d) x) i (record { short = omega arith; is = ap (λ (t : List ℕ). b ∷ t) w.is })
    by h false false f g e = absurd cc

-- ---- keys of a body

none_of : (lengths : List ℕ) (p : ℕ) (f : Option (List ℕ)) → IsLong lengths p f → get_or lengths p 0 < 2 → nonempty f ≡ None
none_of lengths p None h l = refl
none_of lengths p (Some []) h l = refl
none_of lengths p (Some (b ∷ s)) h l = absurd (omega arith)

record IsSome (lengths : List ℕ) (p : ℕ) (f : Option (List ℕ)) : Type 0 where
  bytes : List ℕ
  is : f ≡ Some bytes
  key : nonempty f ≡ Some bytes
  count : get_or lengths p 0 ≡ suc (length bytes)

some_of : (lengths : List ℕ) (p : ℕ) (f : Option (List ℕ)) → IsLong lengths p f → 2 ≤ get_or lengths p 0 → IsSome lengths p f
some_of lengths p None h l = absurd (omega arith)
some_of lengths p (Some []) h l = absurd (omega arith)
some_of lengths p (Some (b ∷ s)) h l = record { bytes = b ∷ s; is = refl; key = refl; count = h }

pub inside_some : (lengths : List ℕ) (p m : ℕ) → length lengths ≡ m → 0 < get_or lengths p 0 → p < m
inside_some lengths p m e l = by (ltb p m) refl
  where
    by : (t : Bool) → ltb p m ≡ t → p < m
    by true g = ltb-true p m g
    by false g = let a = ltb-false p m g in let past = get_or_past lengths p 0 (omega arith) in absurd (omega arith)

inside_of : (lengths : List ℕ) (p m : ℕ) → length lengths ≡ m → 2 ≤ get_or lengths p 0 → p < m
inside_of lengths p m e l = inside_some lengths p m e (omega arith)

pub measured_none : (y : Layout) (body lengths : List ℕ) (k : ℕ) → AreCounted (key_run y body) lengths → length_at y lengths k < 2 → key y body k ≡ None
measured_none y body lengths k c l =
    let s = placed y body lengths k c.long in
    let listed = s.count in
    s.read ∙ none_of lengths s.place _ (long_all (key_run y body) lengths c _ s.place refl) (omega arith)

pub record IsMeasured (y : Layout) (body lengths : List ℕ) (k : ℕ) : Type 0 where
  pub low : k + (length_at y lengths k - 1) ≤ length body
  pub is : key y body k ≡ Some (take (length_at y lengths k - 1) (drop k body))

pub measured_some : (y : Layout) (body lengths : List ℕ) (k : ℕ) → 4 * y.keys_top ≤ length body → AreCounted (key_run y body) lengths
    → 2 ≤ length_at y lengths k → IsMeasured y body lengths k
measured_some y body lengths k room c l =
    let run = key_run y body in
    let first = 4 * (1 + y.indexes) in
    let m = 4 * y.keys_top - 4 * (1 + y.indexes) in
    let s = placed y body lengths k c.long in
    let p = s.place in
    let listed = s.count in
    let high : 2 ≤ get_or lengths p 0 = omega arith in
    let inside : p < length run = inside_of lengths p (length run) c.long high in
    let at : first + p ≡ k = s.at inside in
    let long = run_long y body in
    let some = some_of lengths p _ (long_all run lengths c _ p refl) high in
    let w = front_take (drop p run) some.bytes some.is in
    let short = w.short in
    let count = some.count in
    let n : length some.bytes ≡ length_at y lengths k - 1 = omega arith in
    let parts : p + (m - p) ≡ m = omega arith in
    let cut : drop p run ≡ take (m - p) (drop p (drop first body)) = rw parts at (drop-take p (m - p) (drop first body)) in
    let there : drop p (drop first body) ≡ drop k body = drop-drop p first body ∙ ap (λ (x : ℕ). drop x body) at in
    let whole : drop p run ≡ take (m - p) (drop k body) = cut ∙ ap (take (m - p)) there in
    let fits : length some.bytes ≤ m - p = omega (arith, length-drop p run) in
    let bytes : some.bytes ≡ take (length some.bytes) (drop k body) = sym w.is ∙ ap (take (length some.bytes)) whole
    ∙ take_prefix (length some.bytes) (m - p) (drop k body) fits in
    record {
      low = omega (arith, length-drop p run);
      is = s.read ∙ some.key ∙ ap Some (bytes ∙ ap (λ (x : ℕ). take x (drop k body)) n);
    }

-- ---- the key from a place

-- the key at an offset, by the length at its place
pub record IsAt (y : Layout) (body lengths : List ℕ) (k : ℕ) : Type 0 where
  pub either : key_or_none (key y body k) ≡ key_from (key_run y body) lengths (place_of y (key_run y body) k)
  pub none : get_or lengths (place_of y (key_run y body) k) 0 < 2 → key y body k ≡ None
  pub some : 2 ≤ get_or lengths (place_of y (key_run y body) k) 0
      → key y body k ≡ Some (key_from (key_run y body) lengths (place_of y (key_run y body) k))

key_many : (lengths d : List ℕ) (p : ℕ) → IsLong lengths p (front d) → 2 ≤ get_or lengths p 0
    → nonempty (front d) ≡ Some (take (get_or lengths p 0 - 1) d)
key_many lengths d p long l =
    let some = some_of lengths p _ long l in
    let w = front_take d some.bytes some.is in
    let count = some.count in
    let n : length some.bytes ≡ get_or lengths p 0 - 1 = omega arith in
    some.key ∙ ap Some (sym w.is ∙ ap (λ (x : ℕ). take x d) n)

key_place : (lengths d : List ℕ) (p : ℕ) (k : Option (List ℕ)) → k ≡ nonempty (front d) → IsLong lengths p (front d)
    → key_or_none k ≡ take (get_or lengths p 0 - 1) d
key_place lengths d p k e long = by (ltb (get_or lengths p 0) 2) refl
  where
    by : (t : Bool) → ltb (get_or lengths p 0) 2 ≡ t → key_or_none k ≡ take (get_or lengths p 0 - 1) d
    by true f =
        let l = ltb-true (get_or lengths p 0) 2 f in
        let zero : get_or lengths p 0 - 1 ≡ 0 = omega arith in
        ap key_or_none (e ∙ none_of lengths p _ long l) ∙ sym (ap (λ (x : ℕ). take x d) zero)
    by false f = ap key_or_none (e ∙ key_many lengths d p long (ltb-false (get_or lengths p 0) 2 f))

pub key_at : (y : Layout) (body lengths : List ℕ) (k : ℕ) → AreCounted (key_run y body) lengths → IsAt y body lengths k
key_at y body lengths k c =
    let run = key_run y body in
    let s = placed y body lengths k c.long in
    let long : IsLong lengths s.place (front (drop s.place run)) = long_all run lengths c _ s.place refl in
    record {
      either = rw s.is (key_place lengths (drop s.place run) s.place (key y body k) s.read long);
      none = rw s.is (λ l. s.read ∙ none_of lengths s.place _ long l);
      some = rw s.is (λ l. s.read ∙ key_many lengths (drop s.place run) s.place long l);
    }

-- the length at a later place of a key
pub length_on : (run lengths : List ℕ) → AreCounted run lengths → (k p : ℕ) → k < get_or lengths p 0 → get_or lengths (p + k) 0 + k ≡ get_or lengths p 0
length_on run lengths c zero p h = let e : p + 0 ≡ p = omega arith in rw e (omega arith)
length_on run lengths c (suc k) p h =
    let here : p < length run = inside_of lengths p (length run) c.long (omega arith) in
    let n = next_length (get_or run p 0) (get_or lengths p 0) (get_or lengths (p + 1) 0) (c.each p here) (omega arith) in
    let on = length_on run lengths c k (p + 1) (omega arith) in
    let e : p + 1 + k ≡ p + suc k = omega arith in
    let there : get_or lengths (p + 1 + k) 0 ≡ get_or lengths (p + suc k) 0 = ap (λ (x : ℕ). get_or lengths x 0) e in
    omega arith

-- the remaining key after this many bytes
pub key_on : (run lengths : List ℕ) → AreCounted run lengths → (k p : ℕ) → k < get_or lengths p 0
    → drop k (key_from run lengths p) ≡ key_from run lengths (p + k)
key_on run lengths c k p h =
    let on = length_on run lengths c k p h in
    let whole : k + (get_or lengths p 0 - 1 - k) ≡ get_or lengths p 0 - 1 = omega arith in
    let rest : get_or lengths p 0 - 1 - k ≡ get_or lengths (p + k) 0 - 1 = omega arith in
    let cut : drop k (take (get_or lengths p 0 - 1) (drop p run)) ≡ take (get_or lengths p 0 - 1 - k) (drop k (drop p run)) =
    rw whole at (drop-take k (get_or lengths p 0 - 1 - k) (drop p run)) in
    cut ∙ ap (take (get_or lengths p 0 - 1 - k)) (drop-drop k p run) ∙ ap (λ (x : ℕ). take x (drop (p + k) run)) rest

pub key_done : (run lengths : List ℕ) (k p : ℕ) → get_or lengths p 0 ≤ suc k → drop k (key_from run lengths p) ≡ []
key_done run lengths k p h = drop_all k (key_from run lengths p) (omega (arith, length-take (get_or lengths p 0 - 1) (drop p run)))

-- a key with bytes
pub record HasBytes (run lengths : List ℕ) (p : ℕ) : Type 0 where
  pub first : ℕ
  pub more : List ℕ
  pub is : key_from run lengths p ≡ first ∷ more

pub key_bytes : (run lengths : List ℕ) → AreCounted run lengths → (p : ℕ) → 2 ≤ get_or lengths p 0 → HasBytes run lengths p
key_bytes run lengths c p h =
    let here : p < length run = inside_of lengths p (length run) c.long h in
    let n : get_or lengths p 0 - 1 ≡ suc (get_or lengths p 0 - 2) = omega arith in
    record {
      first = get_or run p 0;
      more = take (get_or lengths p 0 - 2) (drop (suc p) run);
      is = ap (take (get_or lengths p 0 - 1)) (drop-cons run p 0 here) ∙ ap (λ (x : ℕ). take x (get_or run p 0 ∷ drop (suc p) run)) n;
    }
