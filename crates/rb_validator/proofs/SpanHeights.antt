-- SpanCache of items that are split, and those that were looked at before.
use Rattle.std.proofs.Common.{◌≡◌, ◌≢◌, ℕ, zero, suc, ◌+◌, ◌-◌, ◌<◌, ◌≤◌, max, Bool, true, false, cond, leb, List, [], length, set, Result, Ok}
use Rattle.std.proofs.Common.{Err, refl, sym, ap, subst, ◌∙◌, arith, inl, inr}
use Rattle.std.specs.Prelude.{◌⊎◌, slice_index}
use Rattle.std.proofs.lemmas.List.{get_or-set_same, get_or-set_other}
use Rattle.std.proofs.lemmas.Bool.{cases_eq, le-leb, lt-leb}
use Rattle.std.proofs.lemmas.Bool.Decides.{nat_tests}
use Rattle.rb_tree.specs.Resource.{Resource, Resources, no_trees, tree_and, height, trees_height}
use Rattle.rb_format.specs.declared.fault.FileFault.{FileFault}
use Rattle.rb_format.specs.declared.fault.FileFault.TheVariants.{TooDeep}
use Rattle.rb_format.specs.declared.layout.Layout.{Layout}
use Rattle.rb_format.specs.Place.{word_at}
use Rattle.rb_format.specs.inner.FirstFault.{◌>>=◌, result_map, limited, read, trees}
use Rattle.rb_format.proofs.Steps.{bind_ok, ok_is}
use Rattle.rb_format.proofs.Levels.{read-limited, trees-limited}
use Rattle.rb_validator.specs.inner.Marks.{IsKnown, Leads, run_of, IsRunKnown, IsRun}
use Rattle.rb_validator.specs.inner.CachedSpans.{CachedSpans, AreRuns, IsSpanAt, SaysNothing}
use Rattle.rb_validator.specs.inner.Leaves.{AreLeaves}
use Rattle.rb_validator.specs.inner.Nested.{AreNested, IsBetween}
use Rattle.rb_validator.proofs.Cells.{known_set}
use Rattle.rb_validator.proofs.Ways.{leads_map}
use Rattle.rb_validator.proofs.Entering.{above, items_none}

-- ---- where items are counted from

shift : (child : ℕ → Result Resource FileFault) (item : ℕ → ℕ) (from i n : ℕ) → trees child (λ j. item (from + j)) i n ≡ trees child item (from + i) n
unfolding trees
shift child item from i zero = refl
shift child item from i (suc n) =
    let e : from + suc i ≡ suc (from + i) = omega arith in
    let r : trees child (λ j. item (from + j)) (suc i) n ≡ trees child item (suc (from + i)) n = shift child item from (suc i) n
    ∙ ap (λ (x : ℕ). trees child item x n) e in
    ap (λ (r : Result Resources FileFault). child (item (from + i)) >>= λ t. r >>= λ ts. Ok (tree_and t ts)) r

pub run_shift : (y : Layout) (body : List ℕ) (e from n : ℕ) → trees (λ w. read y body e w) (λ i. word_at body (from + i)) 0 n ≡ run_of y body e from n
run_shift y body e from n =
    let z : from + 0 ≡ from = omega arith in
    shift (λ w. read y body e w) (word_at body) from 0 n ∙ ap (λ (x : ℕ). trees (λ w. read y body e w) (word_at body) x n) z

-- a height of the items from 0 on is one of the run
pub run_height : (y : Layout) (body : List ℕ) (e from n : ℕ) (h : Result ℕ FileFault) → h ≡ result_map trees_height (run_of y body e from n)
    → h ≡ result_map trees_height (trees (λ w. read y body e w) (λ i. word_at body (from + i)) 0 n)
run_height y body e from n h q = q ∙ ap (result_map trees_height) (sym (run_shift y body e from n))

-- ---- two parts of a run

pub trees_ok : (r : Result Resources FileFault) (h : ℕ) → Ok h ≡ result_map trees_height r → (ts : Resources) × (r ≡ Ok ts) × (trees_height ts ≡ h)
trees_ok (Ok ts) h e = (ts, refl, sym (ok_is h (trees_height ts) e))
trees_ok (Err d) h e = absurd cc

trees_err : (r : Result Resources FileFault) (d : FileFault) → result_map trees_height r ≡ Err d → r ≡ Err d
trees_err (Ok ts) d e = absurd cc
trees_err (Err c) d e = cc

rest_max : (r s : Result Resources FileFault) (t : Resource) (h : ℕ) → result_map trees_height r ≡ above h s
    → result_map trees_height (r >>= λ us. Ok (tree_and t us)) ≡ above (max (height t) h) s
rest_max (Ok us) (Ok vs) t h e =
    let same : trees_height us ≡ max h (trees_height vs) = ok_is (trees_height us) (max h (trees_height vs)) e in
    let m : max (height t) (trees_height us) ≡ max (max (height t) h) (trees_height vs) = omega arith in
    ap Ok m
rest_max (Ok us) (Err c) t h e = absurd cc
rest_max (Err d) (Ok vs) t h e = absurd cc
rest_max (Err d) (Err c) t h e = cc

-- the first part has its trees: the second decides
split_rest : (child : ℕ → Result Resource FileFault) (item : ℕ → ℕ) (i m n : ℕ) (ts : Resources) → trees child item i m ≡ Ok ts
    → result_map trees_height (trees child item i (m + n)) ≡ above (trees_height ts) (trees child item (i + m) n)
unfolding trees
split_rest child item i zero n ts e =
    let s : no_trees ≡ ts = ok_is no_trees ts e in
    let a : i + 0 ≡ i = omega arith in
    let b : 0 + n ≡ n = omega arith in
    subst (λ (x : Resources). result_map trees_height (trees child item i (0 + n)) ≡ above (trees_height x) (trees child item (i + 0) n)) s
    (rw (a, b) (sym (items_none (trees child item i n))))
split_rest child item i (suc m) n ts e =
    let a = bind_ok (child (item i)) (λ t. trees child item (suc i) m >>= λ us. Ok (tree_and t us)) ts e in
    let b = bind_ok (trees child item (suc i) m) (λ us. Ok (tree_and a.0 us)) ts a.2 in
    let same : tree_and a.0 b.0 ≡ ts = ok_is (tree_and a.0 b.0) ts b.2 in
    let p : suc m + n ≡ suc (m + n) = omega arith in
    let q : i + suc m ≡ suc i + m = omega arith in
    let first : result_map trees_height (trees child item i (suc (m + n))) ≡ result_map trees_height
    (trees child item (suc i) (m + n) >>= λ us. Ok (tree_and a.0 us)) =
    ap (λ (r : Result Resource FileFault). result_map trees_height (r >>= λ t. trees child item (suc i) (m + n) >>= λ us. Ok (tree_and t us))) a.1 in
    let rest = rest_max (trees child item (suc i) (m + n)) (trees child item (suc i + m) n) a.0 (trees_height b.0)
    (split_rest child item (suc i) m n b.0 b.1) in
    subst (λ (x : Resources). result_map trees_height (trees child item i (suc m + n)) ≡ above (trees_height x) (trees child item (i + suc m) n)) same
    (rw (p, q) (first ∙ rest))

split_err : (child : ℕ → Result Resource FileFault) (item : ℕ → ℕ) (i m n : ℕ) (d : FileFault) → trees child item i m ≡ Err d
    → trees child item i (m + n) ≡ Err d
unfolding trees
split_err child item i zero n d e = absurd cc
split_err child item i (suc m) n d e =
    let p : suc m + n ≡ suc (m + n) = omega arith in
    rw p (by_child (λ c q. split_err child item (suc i) m n c q) (child (item i)) e)
  where
    by_rest : (t : Resource) (s : Result Resources FileFault) → ((c : FileFault) → s ≡ Err c → trees child item (suc i) (m + n) ≡ Err c)
        → (s >>= λ us. Ok (tree_and t us)) ≡ Err d → (trees child item (suc i) (m + n) >>= λ us. Ok (tree_and t us)) ≡ Err d
    by_rest t (Ok us) ih f = absurd cc
    by_rest t (Err c) ih f = ap (λ (r : Result Resources FileFault). r >>= λ us. Ok (tree_and t us)) (ih c refl) ∙ f

    by_child : ((c : FileFault) → trees child item (suc i) m ≡ Err c → trees child item (suc i) (m + n) ≡ Err c) → (r : Result Resource FileFault)
        → (r >>= λ t. trees child item (suc i) m >>= λ us. Ok (tree_and t us)) ≡ Err d
        → (r >>= λ t. trees child item (suc i) (m + n) >>= λ us. Ok (tree_and t us)) ≡ Err d
    by_child ih (Ok t) f = by_rest t (trees child item (suc i) m) ih f
    by_child ih (Err c) f = f

-- the same bound for a file's words
pub run_stop : (y : Layout) (body : List ℕ) (e from m n : ℕ) (d : FileFault) → m ≤ n → run_of y body e from m ≡ Err d → run_of y body e from n ≡ Err d
run_stop y body e from m n d l f =
    let s : m + (n - m) ≡ n = omega arith in
    subst (λ (x : ℕ). run_of y body e from x ≡ Err d) s (split_err (λ w. read y body e w) (word_at body) from m (n - m) d f)

pub run_rest : (y : Layout) (body : List ℕ) (e from m n mid : ℕ) (ts : Resources) → m ≤ n → mid ≡ from + m → run_of y body e from m ≡ Ok ts
    → result_map trees_height (run_of y body e from n) ≡ above (trees_height ts) (run_of y body e mid (n - m))
run_rest y body e from m n mid ts l q f =
    let s : m + (n - m) ≡ n = omega arith in
    let r = split_rest (λ w. read y body e w) (word_at body) from m (n - m) ts f in
    rw q (subst (λ (x : ℕ). result_map trees_height (run_of y body e from x) ≡ above (trees_height ts) (run_of y body e (from + m) (n - m))) s r)

above_err : (r : Result Resources FileFault) (h : ℕ) (d : FileFault) → Err d ≡ result_map trees_height r → above h r ≡ Err d
above_err (Ok ts) h d e = absurd cc
above_err (Err c) h d e = cc

above_ok : (r : Result Resources FileFault) (h k : ℕ) → Ok k ≡ result_map trees_height r → above h r ≡ Ok (max h k)
above_ok (Ok ts) h k e = let s : k ≡ trees_height ts = ok_is k (trees_height ts) e in rw s refl
above_ok (Err c) h k e = absurd cc

-- the first part is refused
pub run_low_err : (y : Layout) (body : List ℕ) (e from m n : ℕ) (d : FileFault) → m ≤ n → Err d ≡ result_map trees_height (run_of y body e from m)
    → Err d ≡ result_map trees_height (run_of y body e from n)
run_low_err y body e from m n d l f = sym (ap (result_map trees_height) (run_stop y body e from m n d l (trees_err (run_of y body e from m) d (sym f))))

-- the second part is refused
pub run_high_err : (y : Layout) (body : List ℕ) (e from m n mid h : ℕ) (d : FileFault) → m ≤ n → mid ≡ from + m
    → Ok h ≡ result_map trees_height (run_of y body e from m) → Err d ≡ result_map trees_height (run_of y body e mid (n - m))
    → Err d ≡ result_map trees_height (run_of y body e from n)
run_high_err y body e from m n mid h d l q f g =
    let t = trees_ok (run_of y body e from m) h f in
    sym (run_rest y body e from m n mid t.0 l q t.1 ∙ above_err (run_of y body e mid (n - m)) (trees_height t.0) d g)

-- both have their trees
pub run_both : (y : Layout) (body : List ℕ) (e from m n mid h k : ℕ) → m ≤ n → mid ≡ from + m → Ok h ≡ result_map trees_height (run_of y body e from m)
    → Ok k ≡ result_map trees_height (run_of y body e mid (n - m)) → Ok (max h k) ≡ result_map trees_height (run_of y body e from n)
run_both y body e from m n mid h k l q f g =
    let t = trees_ok (run_of y body e from m) h f in
    sym (run_rest y body e from m n mid t.0 l q t.1 ∙ above_ok (run_of y body e mid (n - m)) (trees_height t.0) k g ∙ ap (λ (x : ℕ). Ok (max x k)) t.2)

-- ---- a run that was looked at

choice_height : (b : Bool) (ts : Resources) → result_map trees_height (cond {A = Result Resources FileFault} b (Ok ts) (Err TooDeep)) ≡ cond b
    (Ok (trees_height ts)) (Err TooDeep)
choice_height true ts = refl
choice_height false ts = refl

-- it has its trees wherever their height fits
again : (y : Layout) (body : List ℕ) (d e from n : ℕ) (ts : Resources) → run_of y body d from n ≡ Ok ts
    → run_of y body e from n ≡ limited e (trees_height ts) ts
again y body d e from n ts f = trees-limited e (λ w. read y body d w) (λ w. read y body e w) (λ w s q. read-limited y body d e w s q) (word_at body) from n ts f

pub run_again : (y : Layout) (body cells : List ℕ) (left from n h : ℕ) → IsRun y body cells from n h
    → result_map trees_height (run_of y body left from n) ≡ limited left h h
run_again y body cells left from n h r =
    ap (result_map trees_height) (again y body r.level left from n r.items r.is) ∙ choice_height (leb (trees_height r.items) left) r.items
    ∙ ap (λ (x : ℕ). limited left x x) r.high

pub run_fits : (y : Layout) (body cells : List ℕ) (left from n h : ℕ) → IsRun y body cells from n h → h ≤ left
    → Ok h ≡ result_map trees_height (run_of y body left from n)
run_fits y body cells left from n h r l = let t : leb h left ≡ true = le-leb h left l in sym (run_again y body cells left from n h r ∙ rw t refl)

pub run_passed : (y : Layout) (body cells : List ℕ) (left from n h : ℕ) → IsRun y body cells from n h → left < h
    → Err TooDeep ≡ result_map trees_height (run_of y body left from n)
run_passed y body cells left from n h r l = let t : leb h left ≡ false = lt-leb h left l in sym (run_again y body cells left from n h r ∙ rw t refl)

-- ---- open pairs

pub leads_low : (y : Layout) (body cells : List ℕ) (from m n : ℕ) → m ≤ n → Leads y body cells (λ e. run_of y body e from n ≡ Err TooDeep)
    → Leads y body cells (λ e. run_of y body e from m ≡ Err TooDeep)
leads_low y body cells from m n l g = leads_map y body cells _ _ (λ e q. run_stop y body e from m n TooDeep l q) g

pub leads_high : (y : Layout) (body cells : List ℕ) (left from m n mid h : ℕ) → m ≤ n → mid ≡ from + m
    → Ok h ≡ result_map trees_height (run_of y body left from m) → Leads y body cells (λ e. run_of y body e from n ≡ Err TooDeep)
    → Leads y body cells (λ e. run_of y body e mid (n - m) ≡ Err TooDeep)
leads_high y body cells left from m n mid h l q f g =
    let t = trees_ok (run_of y body left from m) h f in
    leads_map y body cells _ _ (λ e z. by_test e t.0 (leb (trees_height t.0) e) (again y body left e from m t.0 t.1) z) g
  where
    by_test : (e : ℕ) (ts : Resources) (b : Bool) → run_of y body e from m ≡ cond b (Ok ts) (Err TooDeep) → run_of y body e mid (n - m) ≡ Err TooDeep
        → run_of y body e from n ≡ Err TooDeep
    by_test e ts true a z = trees_err (run_of y body e from n) TooDeep
        (run_rest y body e from m n mid ts l q a ∙ above_err (run_of y body e mid (n - m)) (trees_height ts) TooDeep (sym (ap (result_map trees_height) z)))
    by_test e ts false a z = run_stop y body e from m n TooDeep l a

pub leads_shift : (y : Layout) (body cells : List ℕ) (from n : ℕ) → Leads y body cells
    (λ e. trees (λ w. read y body e w) (λ i. word_at body (from + i)) 0 n ≡ Err TooDeep) → Leads y body cells (λ e. run_of y body e from n ≡ Err TooDeep)
leads_shift y body cells from n g = leads_map y body cells _ _ (λ e q. run_shift y body e from n ∙ q) g

-- ---- what is known

pub known_both : (body cells : List ℕ) (from m n mid : ℕ) → mid ≡ from + m → IsRunKnown body cells from m → IsRunKnown body cells mid (n - m)
    → IsRunKnown body cells from n
known_both body cells from m n mid q f g i l = by_order (leb (suc i) m) refl
  where
    by_order : (b : Bool) → leb (suc i) m ≡ b → IsKnown cells (word_at body (from + i))
    by_order true e = f i (grind (arith, nat_tests))
    by_order false e =
        let p : m ≤ i = grind (arith, nat_tests) in
        let s : mid + (i - m) ≡ from + i = omega arith in
        subst (λ (x : ℕ). IsKnown cells (word_at body x)) s (g (i - m) (omega arith))

run_map : (y : Layout) (body cells after : List ℕ) (from n h : ℕ) → ((w : ℕ) → IsKnown cells w → IsKnown after w) → IsRun y body cells from n h
    → IsRun y body after from n h
run_map y body cells after from n h f r = record {
  items = r.items;
  level = r.level;
  is = r.is;
  high = r.high;
  known =
      λ i l. f (word_at body (from + i)) (r.known i l);
}

pub runs_set : (y : Layout) (body cells : List ℕ) (p v : ℕ) (runs : CachedSpans) → v ≢ 0 → p < length cells → AreRuns y body cells runs
    → AreRuns y body (set cells p v) runs
runs_set y body cells p v runs f l h = record {
  kept = λ slot from n z s. run_map y body cells (set cells p v) from n (slice_index runs.heights slot) (λ w k. known_set cells p v w f l k)
      (h.kept slot from n z s);
  leaves = h.leaves;
  nested = λ slot from n z a i j. run_map y body cells (set cells p v) from n (slice_index runs.nested slot) (λ w k. known_set cells p v w f l k)
      (h.nested slot from n z a i j);
}

-- no run is known
kept_none : (y : Layout) (body cells : List ℕ) (runs : CachedSpans) → SaysNothing runs.heights → (slot from n : ℕ) → slice_index runs.heights slot ≢ 0
    → IsSpanAt runs slot from n → IsRun y body cells from n (slice_index runs.heights slot)
kept_none y body cells runs h slot from n f s = absurd (f (h slot))

nested_none : (y : Layout) (body cells lows highs heights : List ℕ) → SaysNothing heights → AreNested y body cells lows highs heights
nested_none y body cells lows highs heights h slot from n f a i j = absurd (f (h slot))

pub runs_none : (y : Layout) (body cells : List ℕ) (runs : CachedSpans) → SaysNothing runs.heights → runs.leaves ≡ [] → SaysNothing runs.nested
    → AreRuns y body cells runs
runs_none y body cells runs h e g = record {
  kept = kept_none y body cells runs h;
  leaves = subst (AreLeaves y body) (sym e) (λ u w a b. absurd (omega arith));
  nested = nested_none y body cells runs.lows runs.highs runs.nested g;
}

pub kept_run : (y : Layout) (body cells : List ℕ) (runs : CachedSpans) (slot from n h : ℕ) → AreRuns y body cells runs → h ≢ 0
    → ((h ≡ slice_index runs.heights slot) × IsSpanAt runs slot from n) ⊎ IsBetween runs.lows runs.highs runs.nested from n h → IsRun y body cells from n h
kept_run y body cells runs slot from n h k f e = elim e [
  | inl q ↦ subst (IsRun y body cells from n) (sym q.0) (k.kept slot from n (λ z. f (q.0 ∙ z)) q.1)
  | inr b ↦ subst (IsRun y body cells from n) (sym b.is) (k.nested b.slot from n (λ z. f (b.is ∙ z)) b.at b.low b.high)
]

-- the parts make the run
pub made_run : (y : Layout) (body cells : List ℕ) (left from n h : ℕ) → Ok h ≡ result_map trees_height (run_of y body left from n)
    → IsRunKnown body cells from n → IsRun y body cells from n h
made_run y body cells left from n h e k = let t = trees_ok (run_of y body left from n) h e in
    record { items = t.0; level = left; is = t.1; high = t.2; known = k }

put_run : (y : Layout) (body cells : List ℕ) (runs : CachedSpans) (slot from n h : ℕ) → AreRuns y body cells runs → IsRun y body cells from n h
    → IsSpanAt runs slot from n → slot < length runs.heights → (at first count : ℕ) → slice_index (set runs.heights slot h) at ≢ 0
    → IsSpanAt runs at first count → IsRun y body cells first count (slice_index (set runs.heights slot h) at)
put_run y body cells runs slot from n h k r s l at first count f z = elim (cases_eq at slot) [
  | inl q ↦
      let here : slice_index (set runs.heights slot h) at ≡ h = subst (λ (x : ℕ). slice_index (set runs.heights slot h) x ≡ h) (sym q)
      (get_or-set_same runs.heights slot h 0 l) in
      let same = subst (λ (x : ℕ). IsSpanAt runs x first count) q z in
      let a : from ≡ first = s.start ∙ sym same.start in
      let b : n ≡ count = s.long ∙ sym same.long in
      rw (here, sym a, sym b) r
  | inr ne ↦
      let there : slice_index (set runs.heights slot h) at ≡ slice_index runs.heights at = get_or-set_other runs.heights slot at h 0 ne in
      rw there (k.kept at first count (λ e. f (there ∙ e)) z)
]

pub runs_kept : (y : Layout) (body cells : List ℕ) (runs after : CachedSpans) (slot from n h : ℕ) → AreRuns y body cells runs → IsRun y body cells from n h
    → (AreNested y body cells runs.lows runs.highs runs.nested → IsRun y body cells from n h → AreNested y body cells after.lows after.highs after.nested)
    → after ≡ record runs { heights = after.heights; lows = after.lows; highs = after.highs; nested = after.nested }
    → (after.heights ≡ runs.heights) ⊎ (IsSpanAt runs slot from n × (slot < length runs.heights) × (after.heights ≡ set runs.heights slot h))
    → AreRuns y body cells after
runs_kept y body cells runs after slot from n h k r g o e = rw o (record {
  kept = by e;
  leaves = k.leaves;
  nested = g k.nested r;
})
  where
    by : (after.heights ≡ runs.heights) ⊎ (IsSpanAt runs slot from n × (slot < length runs.heights) × (after.heights ≡ set runs.heights slot h))
        → (at first count : ℕ) → slice_index after.heights at ≢ 0
        → IsSpanAt (record runs { heights = after.heights; lows = after.lows; highs = after.highs; nested = after.nested }) at first count
        → IsRun y body cells first count (slice_index after.heights at)
    by e at first count f z =
        let there : IsSpanAt runs at first count = record { start = z.start; long = z.long } in
        elim e [
          | inl q ↦ rw q (k.kept at first count (λ x. f (ap (λ (l : List ℕ). slice_index l at) q ∙ x)) there)
          | inr q ↦ let same = q.2 in rw same (put_run y body cells runs slot from n h k r q.0 q.1 at first count
              (λ x. f (ap (λ (l : List ℕ). slice_index l at) same ∙ x)) there)
        ]

pub runs_ready : (y : Layout) (body cells : List ℕ) (runs after : CachedSpans) → AreRuns y body cells runs
    → (after ≡ runs) ⊎ (SaysNothing after.heights × SaysNothing after.nested × AreLeaves y body after.leaves) → AreRuns y body cells after
runs_ready y body cells runs after h e = elim e [
  | inl q ↦ rw q h
  | inr q ↦ record {
    kept = kept_none y body cells after q.0;
    leaves = q.2;
    nested = nested_none y body cells after.lows after.highs after.nested q.1;
  }
]
