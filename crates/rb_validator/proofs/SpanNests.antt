-- Spans with a common end: those between two of equal height.
use Rattle.std.proofs.Common.{◌≡◌, ◌≢◌, ℕ, ◌+◌, ◌-◌, ◌*◌, ◌/◌, ◌%◌, ◌<◌, ◌≤◌, max, Bool, true, false, cond, leb, List, length, set, Result, Ok}
use Rattle.std.proofs.Common.{Err, refl, sym, ap, subst, ◌∙◌, arith, inl, inr}
use Rattle.std.specs.Prelude.{◌⊎◌, ◌==◌, slice_index, if◌then◌else◌}
use Rattle.std.proofs.lemmas.List.{get_or-set_same, get_or-set_other}
use Rattle.std.proofs.lemmas.Bool.{cases_eq, leb-true, leb-false}
use Rattle.rb_tree.specs.Resource.{Resource, Resources, trees_height}
use Rattle.rb_format.specs.declared.fault.FileFault.{FileFault}
use Rattle.rb_format.specs.declared.fault.FileFault.TheVariants.{TooDeep}
use Rattle.rb_format.specs.declared.layout.Layout.{Layout}
use Rattle.rb_format.specs.Place.{word_at}
use Rattle.rb_format.specs.inner.FirstFault.{result_map, limited}
use Rattle.rb_format.proofs.Steps.{ok_is}
use Rattle.rb_validator.specs.inner.Marks.{IsKnown, run_of, IsRun}
use Rattle.rb_validator.specs.inner.Nested.{AreNested, IsAnchored, IsBetween, IsWidened}
use Rattle.rb_validator.proofs.Entering.{above}
use Rattle.rb_validator.proofs.SpanHeights.{run_stop, run_rest, run_again}

-- ---- a part of a run

record Parts (y : Layout) (body : List ℕ) (e from m n mid h : ℕ) : Type 0 where
  low : Resources
  high : Resources
  is_low : run_of y body e from m ≡ Ok low
  is_high : run_of y body e mid (n - m) ≡ Ok high
  height : max (trees_height low) (trees_height high) ≡ h

parts : (y : Layout) (body : List ℕ) (e from m n mid : ℕ) (ts : Resources) → m ≤ n → mid ≡ from + m → run_of y body e from n ≡ Ok ts
    → Parts y body e from m n mid (trees_height ts)
parts y body e from m n mid ts l q f = by_low (run_of y body e from m) refl
  where
    by_high : (us : Resources) → run_of y body e from m ≡ Ok us → (r : Result Resources FileFault) → run_of y body e mid (n - m) ≡ r
        → Ok (trees_height ts) ≡ above (trees_height us) r → Parts y body e from m n mid (trees_height ts)
    by_high us g (Ok vs) k a = record {
      low = us;
      high = vs;
      is_low = g;
      is_high = k;
      height = sym (ok_is (trees_height ts) (max (trees_height us) (trees_height vs)) a);
    }
    by_high us g (Err d) k a = absurd cc

    by_low : (r : Result Resources FileFault) → run_of y body e from m ≡ r → Parts y body e from m n mid (trees_height ts)
    by_low (Ok us) g = by_high us g (run_of y body e mid (n - m)) refl
        (ap (result_map trees_height) (sym f) ∙ run_rest y body e from m n mid us l q g)
    by_low (Err d) g = let a : ◌≡◌ {A = Result Resources FileFault} (Ok ts) (Err d) = sym f ∙ run_stop y body e from m n d l g in absurd cc

record Part (y : Layout) (body : List ℕ) (e from n h : ℕ) : Type 0 where
  items : Resources
  is : run_of y body e from n ≡ Ok items
  low : trees_height items ≤ h

part : (y : Layout) (body : List ℕ) (e a p c k : ℕ) (ts : Resources) → a ≤ c → c + k ≤ a + p → run_of y body e a p ≡ Ok ts
    → Part y body e c k (trees_height ts)
part y body e a p c k ts l h f =
    let first = parts y body e a (c - a) p c ts (omega arith) (omega arith) f in
    let second = parts y body e c k (p - (c - a)) (c + k) first.high (omega arith) refl first.is_high in
    let outer = first.height in
    let inner = second.height in
    record { items = second.low; is = second.is_low; low = omega arith }

limited_is : (e h x : ℕ) → ◌≡◌ {A = Result ℕ FileFault} (Ok x) (limited e h h) → x ≡ h
limited_is e h x f = by (leb h e) f
  where
    by : (b : Bool) → ◌≡◌ {A = Result ℕ FileFault} (Ok x) (cond b (Ok h) (Err TooDeep)) → x ≡ h
    by true g = ok_is x h g
    by false g = absurd cc

-- a run between two of equal height
pub run_between : (y : Layout) (body cells : List ℕ) (a p b q c k h : ℕ) → IsRun y body cells a p h → IsRun y body cells b q h
    → a ≤ c → c + k ≤ a + p → c ≤ b → b + q ≤ c + k → IsRun y body cells c k h
run_between y body cells a p b q c k h r s l m n o =
    let whole = part y body r.level a p c k r.items l m r.is in
    let inner = part y body r.level c k b q whole.items n o whole.is in
    let same : trees_height inner.items ≡ h = limited_is r.level h (trees_height inner.items)
    (ap (result_map trees_height) (sym inner.is) ∙ run_again y body cells r.level b q h s) in
    let high = r.high in
    let under = whole.low in
    let over = inner.low in
    record {
      items = whole.items;
      level = r.level;
      is = whole.is;
      high = omega arith;
      known =
          λ i j. let e : a + (c - a + i) ≡ c + i = omega arith in
          subst (λ (x : ℕ). IsKnown cells (word_at body x)) e (r.known (c - a + i) (omega arith));
    }

-- ---- the spans of a slot

record IsWithin (f k g m : ℕ) : Type 0 where
  start : g ≤ f
  stop : f + k ≤ g + m

within : (slot f k g m : ℕ) → IsAnchored slot f k → IsAnchored slot g m → k ≤ m → IsWithin f k g m
within slot f k g m a b l = by (slot % 2 == 0) a b
  where
    by : (t : Bool) → (if t then f else f + k) ≡ 64 * (slot / 2) → (if t then g else g + m) ≡ 64 * (slot / 2) → IsWithin f k g m
    by true a b = record { start = omega arith; stop = omega arith }
    by false a b = record { start = omega arith; stop = omega arith }

-- what was stored of one slot, and one more span of it
wider : (y : Layout) (body cells lows highs heights : List ℕ) (slot first count height low high f k : ℕ) → AreNested y body cells lows highs heights
    → IsRun y body cells first count height → height ≢ 0 → IsAnchored slot first count → IsAnchored slot f k → low ≤ k → k ≤ high
    → ((low ≡ count) × (high ≡ count)) ⊎ IsWidened lows highs heights slot count height low high → IsRun y body cells f k height
wider y body cells lows highs heights slot first count height low high f k n r z a b l h e = elim e [
  | inl q ↦
      let here : k ≡ count = (let s = q.0 in let t = q.1 in omega arith) in
      let c = within slot f k first count b a (omega arith) in
      let d = within slot first count f k a b (omega arith) in
      run_between y body cells first count first count f k height r r c.start c.stop d.start d.stop
  | inr w ↦ by_low w (leb (slice_index lows slot) k) refl
]
  where
    kept : (w : IsWidened lows highs heights slot count height low high) (g m : ℕ) → IsAnchored slot g m → slice_index lows slot ≤ m
        → m ≤ slice_index highs slot → IsRun y body cells g m height
    kept w g m c i j = subst (IsRun y body cells g m) w.same (n slot g m (λ x. z (sym w.same ∙ x)) c i j)

    longest : (w : IsWidened lows highs heights slot count height low high) → IsRun y body cells w.first (slice_index highs slot) height
    longest w = kept w w.first (slice_index highs slot) w.there w.some (omega arith)

    by_high : (w : IsWidened lows highs heights slot count height low high) → slice_index lows slot ≤ k → (t : Bool)
        → leb k (slice_index highs slot) ≡ t → IsRun y body cells f k height
    by_high w i true j = kept w f k b i (leb-true k (slice_index highs slot) j)
    by_high w i false j =
        let over = leb-false k (slice_index highs slot) j in
        let most = w.most in
        let c = within slot f k first count b a (omega arith) in
        let d = within slot w.first (slice_index highs slot) f k w.there b (omega arith) in
        run_between y body cells first count w.first (slice_index highs slot) f k height r (longest w) c.start c.stop d.start d.stop

    by_low : (w : IsWidened lows highs heights slot count height low high) → (t : Bool) → leb (slice_index lows slot) k ≡ t
        → IsRun y body cells f k height
    by_low w true j = by_high w (leb-true (slice_index lows slot) k j) (leb k (slice_index highs slot)) refl
    by_low w false j =
        let under = leb-false (slice_index lows slot) k j in
        let least = w.least in
        let some = w.some in
        let c = within slot f k w.first (slice_index highs slot) b w.there (omega arith) in
        let d = within slot first count f k a b (omega arith) in
        run_between y body cells w.first (slice_index highs slot) first count f k height (longest w) r c.start c.stop d.start d.stop

pub nested_put : (y : Layout) (body cells lows highs heights : List ℕ) (slot first count height low high : ℕ) → AreNested y body cells lows highs heights
    → IsRun y body cells first count height → IsAnchored slot first count
    → ((low ≡ count) × (high ≡ count)) ⊎ IsWidened lows highs heights slot count height low high → slot < length lows → slot < length highs
    → slot < length heights → AreNested y body cells (set lows slot low) (set highs slot high) (set heights slot height)
nested_put y body cells lows highs heights slot first count height low high n r a e l m o = λ at f k z b i j. elim (cases_eq at slot) [
  | inl q ↦ here at f k q z b i j
  | inr d ↦
      let s : slice_index (set heights slot height) at ≡ slice_index heights at = get_or-set_other heights slot at height 0 d in
      let u : slice_index (set lows slot low) at ≡ slice_index lows at = get_or-set_other lows slot at low 0 d in
      let v : slice_index (set highs slot high) at ≡ slice_index highs at = get_or-set_other highs slot at high 0 d in
      rw s (n at f k (λ x. z (s ∙ x)) b (rw u at i) (rw v at j))
]
  where
    here : (at f k : ℕ) → at ≡ slot → slice_index (set heights slot height) at ≢ 0 → IsAnchored at f k → slice_index (set lows slot low) at ≤ k
        → k ≤ slice_index (set highs slot high) at → IsRun y body cells f k (slice_index (set heights slot height) at)
    here at f k q z b i j =
        let s : slice_index (set heights slot height) at ≡ height = rw q (get_or-set_same heights slot height 0 o) in
        let u : slice_index (set lows slot low) at ≡ low = rw q (get_or-set_same lows slot low 0 l) in
        let v : slice_index (set highs slot high) at ≡ high = rw q (get_or-set_same highs slot high 0 m) in
        let c : IsAnchored slot f k = subst (λ (x : ℕ). IsAnchored x f k) q b in
        rw s (wider y body cells lows highs heights slot first count height low high f k n r (λ x. z (s ∙ x)) a c (rw u at i) (rw v at j) e)
