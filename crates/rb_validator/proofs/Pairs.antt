-- Keys that are good, pair by pair.
use Rattle.std.proofs.Common.{◌≡◌, ◌⊎◌, ℕ, zero, suc, ◌+◌, ◌-◌, ◌*◌, ◌<◌, ◌≤◌, Bool, true, false, cond, List, [], length, get_or, Option, Some, None}
use Rattle.std.proofs.Common.{Result, Ok, Err, refl, sym, ap, subst, ◌∙◌, arith, inl, inr, take, drop, set, get_or-set_other, get_or-set_same}
use Rattle.std.specs.Ordering.{nat_cmp, is_lt}
use Rattle.std.specs.Cmp.Lexicographic.{slice_cmp}
use Rattle.std.proofs.lemmas.Bool.{cases_eq}
use Rattle.std.proofs.lemmas.List.{get_or_past}
use Rattle.rb_format.specs.declared.fault.FileFault.{FileFault}
use Rattle.rb_format.specs.declared.fault.FileFault.TheVariants.{Key, KeyOrder}
use Rattle.rb_format.specs.declared.layout.Layout.{Layout}
use Rattle.rb_format.specs.declared.geometry.KeyPlaces.{KeyPlaces}
use Rattle.rb_format.specs.declared.geometry.KeyPlaces.TheVariants.{Halves, Words}
use Rattle.rb_format.specs.Geometry.{key_offset}
use Rattle.rb_format.specs.Place.{key, half_at, word_at}
use Rattle.rb_validator.specs.declared.keys.known.KnownKeys.{KnownKeys}
use Rattle.rb_format.specs.inner.FirstFault.{◌>>=◌, fault_of, key_or_fault, next_key, keys}
use Rattle.rb_format.proofs.Faults.{keys_on, keys_stop, keys_end}
use Rattle.rb_validator.specs.inner.KnownKeys.{key_run, key_or_none, previous_key, last_key, IsGood, AreGood, AreFrom, IsPair, IsLinked, IsRedirected, IsSound}
use Rattle.rb_validator.specs.inner.Lengths.{AreCounted, place_of, previous_place}
use Rattle.rb_validator.specs.inner.Ranks.{key_from}
use Rattle.rb_validator.proofs.Measuring.{key_at}

-- ---- a count that was raised

pub counted_more : (y : Layout) (body : List ℕ) (m : KnownKeys) (n : ℕ) → IsSound y body m → n ≤ 25 * length body → IsSound y body (record m { compared = n })
counted_more y body m n s l =
    record { lengths = s.lengths; ranks = s.ranks; halves = s.halves; words = s.words; few = l; short = s.short }

-- ---- one key

abbrev pub if_below : Bool → List ℕ → Result (List ℕ) FileFault
if_below t k = cond t (Ok k) (Err KeyOrder)

abbrev pub step_of : Option (List ℕ) → List ℕ → Result (List ℕ) FileFault
step_of o last = key_or_fault o >>= λ k. if_below (is_lt (slice_cmp nat_cmp last k)) k

pub next_is : (y : Layout) (body last : List ℕ) (o : ℕ) → next_key y body last o ≡ step_of (key y body o) last
unfolding next_key
next_is y body last o = refl

step_good : (o : Option (List ℕ)) (last : List ℕ) → fault_of (step_of o last) ≡ None → step_of o last ≡ Ok (key_or_none o)
step_good None last e = absurd cc
step_good (Some k) last e = by (is_lt (slice_cmp nat_cmp last k)) e
  where
    by : (t : Bool) → fault_of (if_below t k) ≡ None → if_below t k ≡ Ok k
    by true e = refl
    by false e = absurd cc

pub next_good : (y : Layout) (body last : List ℕ) (o : ℕ) → fault_of (next_key y body last o) ≡ None → next_key y body last o ≡ Ok (key_or_none (key y body o))
unfolding next_key
next_good y body last o e = step_good (key y body o) last e

pub next_ok : (y : Layout) (body last k : List ℕ) (o : ℕ) → next_key y body last o ≡ Ok k → k ≡ key_or_none (key y body o)
next_ok y body last k o e = let f : fault_of (next_key y body last o) ≡ None = ap fault_of e in let g = next_good y body last o f in cc

pub next_err : (y : Layout) (body last : List ℕ) (o : ℕ) (d : FileFault) → fault_of (next_key y body last o) ≡ Some d → next_key y body last o ≡ Err d
next_err y body last o d e = by (next_key y body last o) e
  where
    by : (r : Result (List ℕ) FileFault) → fault_of r ≡ Some d → r ≡ Err d
    by (Ok x) e = absurd cc
    by (Err c) e = cc

-- ---- by ranks

none_fault : (o : Option (List ℕ)) (last : List ℕ) → o ≡ None → Some Key ≡ fault_of (step_of o last)
none_fault o last e = rw e refl

less_fault : (o : Option (List ℕ)) (last s : List ℕ) → o ≡ Some s → is_lt (slice_cmp nat_cmp last s) ≡ true → None ≡ fault_of (step_of o last)
less_fault o last s e f = rw (e, f) refl

more_fault : (o : Option (List ℕ)) (last s : List ℕ) → o ≡ Some s → is_lt (slice_cmp nat_cmp last s) ≡ false → Some KeyOrder ≡ fault_of (step_of o last)
more_fault o last s e f = rw (e, f) refl

-- the key before, of which the offset is given
previous_from : (y : Layout) (body lengths : List ℕ) (before : Option ℕ) → AreCounted (key_run y body) lengths
    → previous_key y body before ≡ key_from (key_run y body) lengths (previous_place y (key_run y body) before)
previous_from y body lengths None c =
    let run = key_run y body in
    let long = c.long in
    let zero : get_or lengths (length run) 0 - 1 ≡ 0 = omega (arith, get_or_past lengths (length run) 0 (omega arith)) in
    sym (ap (λ (x : ℕ). take x (drop (length run) run)) zero)
previous_from y body lengths (Some k) c = (key_at y body lengths k c).either

pub ranked_none : (y : Layout) (body lengths last : List ℕ) (o : ℕ) → AreCounted (key_run y body) lengths
    → get_or lengths (place_of y (key_run y body) o) 0 < 2 → Some Key ≡ fault_of (next_key y body last o)
ranked_none y body lengths last o c l = rw (next_is y body last o) (none_fault (key y body o) last ((key_at y body lengths o c).none l))

ranked_test : (y : Layout) (body lengths : List ℕ) (before : Option ℕ) (o : ℕ) (t : Bool) → AreCounted (key_run y body) lengths
    → t ≡ is_lt (slice_cmp nat_cmp (key_from (key_run y body) lengths (previous_place y (key_run y body) before))
    (key_from (key_run y body) lengths (place_of y (key_run y body) o)))
    → is_lt (slice_cmp nat_cmp (previous_key y body before) (key_from (key_run y body) lengths (place_of y (key_run y body) o))) ≡ t
ranked_test y body lengths before o t c e =
    ap (λ (x : List ℕ). is_lt (slice_cmp nat_cmp x (key_from (key_run y body) lengths (place_of y (key_run y body) o))))
    (previous_from y body lengths before c) ∙ sym e

pub ranked_less : (y : Layout) (body lengths : List ℕ) (before : Option ℕ) (o : ℕ) → AreCounted (key_run y body) lengths
    → 2 ≤ get_or lengths (place_of y (key_run y body) o) 0
    → true ≡ is_lt (slice_cmp nat_cmp (key_from (key_run y body) lengths (previous_place y (key_run y body) before))
    (key_from (key_run y body) lengths (place_of y (key_run y body) o)))
    → None ≡ fault_of (next_key y body (previous_key y body before) o)
ranked_less y body lengths before o c l e = rw (next_is y body (previous_key y body before) o)
    (less_fault (key y body o) (previous_key y body before) _ ((key_at y body lengths o c).some l) (ranked_test y body lengths before o true c e))

pub ranked_more : (y : Layout) (body lengths : List ℕ) (before : Option ℕ) (o : ℕ) → AreCounted (key_run y body) lengths
    → 2 ≤ get_or lengths (place_of y (key_run y body) o) 0
    → false ≡ is_lt (slice_cmp nat_cmp (key_from (key_run y body) lengths (previous_place y (key_run y body) before))
    (key_from (key_run y body) lengths (place_of y (key_run y body) o)))
    → Some KeyOrder ≡ fault_of (next_key y body (previous_key y body before) o)
ranked_more y body lengths before o c l e = rw (next_is y body (previous_key y body before) o)
    (more_fault (key y body o) (previous_key y body before) _ ((key_at y body lengths o c).some l) (ranked_test y body lengths before o false c e))

-- ---- many keys

-- the fault of all keys is that of the keys after the good ones
good_from : (y : Layout) (body : List ℕ) (place : ℕ → ℕ) (n i : ℕ) → i ≤ n → AreGood y body place i
    → fault_of (keys y body place (last_key y body place i) i (n - i)) ≡ fault_of (keys y body place [] 0 n)
good_from y body place n zero l g = let e : n - 0 ≡ n = omega arith in rw e refl
good_from y body place n (suc i) l g =
    let before = good_from y body place n i (omega arith) (λ j h. g j (omega arith)) in
    let e : n - i ≡ suc (n - suc i) = omega arith in
    keys_on y body place (last_key y body place i) i (n - i) (suc i) (n - suc i) (key_or_none (key y body (place i))) _ e refl (g i (omega arith)) before

pub good_all : (y : Layout) (body : List ℕ) (place : ℕ → ℕ) (n m : ℕ) → n ≤ m → AreGood y body place m → None ≡ fault_of (keys y body place [] 0 n)
good_all y body place n m l g =
    let e : n - n ≡ 0 = omega arith in
    keys_end y body place (last_key y body place n) n (n - n) _ e (good_from y body place n n (omega arith) (λ j h. g j (omega arith)))

pub good_stop : (y : Layout) (body : List ℕ) (place : ℕ → ℕ) (n i : ℕ) (d : FileFault) → i < n → AreGood y body place i
    → next_key y body (last_key y body place i) (place i) ≡ Err d → fault_of (keys y body place [] 0 n) ≡ Some d
good_stop y body place n i d l g e =
    let f : n - i ≡ suc (n - suc i) = omega arith in
    sym (keys_stop y body place (last_key y body place i) i (n - i) (n - suc i) d _ f e (good_from y body place n i (omega arith) g))

-- ---- links

-- key offsets, counted from the top of the keys
pub from_halves : (y : Layout) (body : List ℕ) (places p : KeyPlaces) (first : ℕ) → AreFrom y places p → p ≡ Halves first → (i : ℕ)
    → key_offset body places i ≡ half_at body (2 * y.keys_top + (first + i))
from_halves y body places p first h e i = by places (subst (AreFrom y places) e h)
  where
    by : (places : KeyPlaces) → AreFrom y places (Halves first) → key_offset body places i ≡ half_at body (2 * y.keys_top + (first + i))
    by (Halves a) h = let n : a + i ≡ 2 * y.keys_top + (first + i) = omega arith in ap (half_at body) n
    by (Words a) h = absurd h

pub from_words : (y : Layout) (body : List ℕ) (places p : KeyPlaces) (first : ℕ) → AreFrom y places p → p ≡ Words first → (i : ℕ)
    → key_offset body places i ≡ word_at body (y.keys_top + (first + i))
from_words y body places p first h e i = by places (subst (AreFrom y places) e h)
  where
    by : (places : KeyPlaces) → AreFrom y places (Words first) → key_offset body places i ≡ word_at body (y.keys_top + (first + i))
    by (Halves a) h = absurd h
    by (Words a) h = let n : a + i ≡ y.keys_top + (first + i) = omega arith in ap (word_at body) n

pub pair_good : (y : Layout) (body : List ℕ) (offset place : ℕ → ℕ) (first : ℕ) → ((i : ℕ) → place i ≡ offset (first + i)) → (i : ℕ)
    → IsPair y body offset (first + i) → IsGood y body place (suc i)
pair_good y body offset place first at i h =
    let e : first + suc i ≡ suc (first + i) = omega arith in
    let next : place (suc i) ≡ offset (suc (first + i)) = at (suc i) ∙ ap offset e in
    rw (next, at i) h

pub good_pair : (y : Layout) (body : List ℕ) (offset place : ℕ → ℕ) (first : ℕ) → ((i : ℕ) → place i ≡ offset (first + i)) → (i : ℕ)
    → IsGood y body place (suc i) → IsPair y body offset (first + i)
good_pair y body offset place first at i h =
    let e : first + suc i ≡ suc (first + i) = omega arith in
    let next : place (suc i) ≡ offset (suc (first + i)) = at (suc i) ∙ ap offset e in
    rw (sym next, sym (at i)) h

-- what a link says of the keys after so many
pub linked_good : (y : Layout) (body links : List ℕ) (offset place : ℕ → ℕ) (first m r : ℕ) → ((i : ℕ) → place i ≡ offset (first + i))
    → IsLinked y body offset links → r ≡ get_or links (first + m) 0 - (first + m) → (i : ℕ) → suc m ≤ i → i < suc m + r → IsGood y body place i
linked_good y body links offset place first m r at h e zero a b = absurd (omega arith)
linked_good y body links offset place first m r at h e (suc i) a b = pair_good y body offset place first at i
    (h (first + m) (first + i) (omega arith) (omega arith))

-- good keys as a link
pub redirected_linked : (y : Layout) (body old new : List ℕ) (offset place : ℕ → ℕ) (first n : ℕ) → ((i : ℕ) → place i ≡ offset (first + i))
    → IsLinked y body offset old → AreGood y body place n → ((p : ℕ) → IsRedirected old new first (first + (n - 1)) p) → IsLinked y body offset new
redirected_linked y body old new offset place first n at h g d p q a b = by (d p)
  where
    by : IsRedirected old new first (first + (n - 1)) p → IsPair y body offset q
    by (inl e) = h p q a (omega arith)
    by (inr x) =
        let l = x.0 in let e = x.1 in
        let is : first + (q - first) ≡ q = omega arith in
        subst (IsPair y body offset) is (good_pair y body offset place first at (q - first) (g (suc (q - first)) (omega arith)))

pub redirected_put : (old links : List ℕ) (first to place end : ℕ) → first ≤ place → end ≡ to → place < length links
    → ((p : ℕ) → IsRedirected old links first to p) → (p : ℕ) → IsRedirected old (set links place end) first to p
redirected_put old links first to place end l is low d p = by (cases_eq p place) (d p)
  where
    by : ((p ≡ place) ⊎ (p ≡ place → ⊥)) → IsRedirected old links first to p → IsRedirected old (set links place end) first to p
    by (inl e) w = inr (omega arith, ap (λ (x : ℕ). get_or (set links place end) x 0) e ∙ get_or-set_same links place end 0 low ∙ is)
    by (inr ne) (inl a) = inl (get_or-set_other links place p end 0 ne ∙ a)
    by (inr ne) (inr x) = inr (x.0, get_or-set_other links place p end 0 ne ∙ x.1)
