-- Marks that lie in bytes: what is read, and what a written byte changes.
use Rattle.std.proofs.Common.{◌≡◌, ◌≢◌, ◌⊎◌, ℕ, ◌+◌, ◌-◌, ◌*◌, ◌/◌, ◌%◌, ◌<◌, ◌≤◌, List, length, get_or, set, Bool, cond, eqb}
use Rattle.std.proofs.Common.{replicate, refl, sym, ap, subst, ◌∙◌, arith, inl, inr, get_or-set_other, get_or-set_same}
use Rattle.std.proofs.Math.ListN.{get_or-eq_default}
use Rattle.std.proofs.lemmas.Bool.{cases_eq, cases_lt, eq-eqb, ne_eqb}
use Rattle.std.proofs.lemmas.List.{ext_get_or, length-set, length-replicate}
use Rattle.std.proofs.lemmas.List.FromFn.{get_or-map-range_with_len, length-map-range_with_len}
use Rattle.rb_format.specs.declared.kind.ItemKind.{ItemKind}
use Rattle.rb_validator.specs.inner.Marks.{slot, cell}
use Rattle.rb_validator.specs.inner.Packed.{other, mark_in, cells_of, IsPacked}
use Rattle.rb_validator.proofs.Cells.{slot_low}
use Rattle.rb_validator.proofs.Marked.{all_zero}

-- ---- one mark

pub mark_none : (first rest : List ℕ) (o s : ℕ) → get_or first o 0 ≡ 0 → mark_in first rest o s ≡ 0
mark_none first rest o s e = rw e refl

pub mark_first : (first rest : List ℕ) (o s : ℕ) → get_or first o 0 ≢ 0 → get_or first o 0 / 66 ≡ s → mark_in first rest o s ≡ get_or first o 0 % 66
mark_first first rest o s f e = rw (ne_eqb (get_or first o 0) 0 f, eq-eqb (get_or first o 0 / 66) s e) refl

pub mark_other : (first rest : List ℕ) (o s : ℕ) → get_or first o 0 ≢ 0 → get_or first o 0 / 66 ≢ s
    → mark_in first rest o s ≡ get_or rest (other o s (get_or first o 0 / 66)) 0
mark_other first rest o s f n = rw (ne_eqb (get_or first o 0) 0 f, ne_eqb (get_or first o 0 / 66) s n) refl

-- the same bytes are the same mark
mark_same : (first rest after later : List ℕ) (o s : ℕ) → get_or after o 0 ≡ get_or first o 0
    → (get_or first o 0 ≢ 0 → get_or first o 0 / 66 ≢ s
    → get_or later (other o s (get_or first o 0 / 66)) 0 ≡ get_or rest (other o s (get_or first o 0 / 66)) 0)
    → mark_in after later o s ≡ mark_in first rest o s
mark_same first rest after later o s e f = elim (cases_eq (get_or first o 0) 0) [
  | inl z ↦ mark_none after later o s (e ∙ z) ∙ sym (mark_none first rest o s z)
  | inr n ↦ elim (cases_eq (get_or first o 0 / 66) s) [
    | inl q ↦ mark_first after later o s (λ z. n (sym e ∙ z)) (rw e q) ∙ ap (λ (x : ℕ). x % 66) e ∙ sym (mark_first first rest o s n q)
    | inr m ↦ mark_other after later o s (λ z. n (sym e ∙ z)) (λ q. m (ap (λ (x : ℕ). x / 66) (sym e) ∙ q))
        ∙ ap (λ (x : ℕ). get_or later (other o s (x / 66)) 0) e ∙ f n m ∙ sym (mark_other first rest o s n m)
  ]
]

-- ---- all of them

pub length_cells : (first rest : List ℕ) → length (cells_of first rest) ≡ 3 * length first
length_cells first rest = length-map-range_with_len (λ n. mark_in first rest (n / 3) (n % 3)) 0 (3 * length first)

cells_at : (first rest : List ℕ) (n : ℕ) → n < 3 * length first → get_or (cells_of first rest) n 0 ≡ mark_in first rest (n / 3) (n % 3)
cells_at first rest n h = get_or-map-range_with_len (λ n. mark_in first rest (n / 3) (n % 3)) 0 (3 * length first) n n 0 h (omega arith)

cell_inside : (first rest : List ℕ) (k : ItemKind) (o : ℕ) → cell k o < length (cells_of first rest) → o < length first
cell_inside first rest k o h = let e = length_cells first rest in omega arith

cell_is_mark : (first rest : List ℕ) (k : ItemKind) (o : ℕ) → cell k o < length (cells_of first rest)
    → get_or (cells_of first rest) (cell k o) 0 ≡ mark_in first rest o (slot k)
cell_is_mark first rest k o h =
    let l = slot_low k in
    let e = length_cells first rest in
    let q : cell k o / 3 ≡ o = omega arith in
    let r : cell k o % 3 ≡ slot k = omega arith in
    cells_at first rest (cell k o) (omega arith) ∙ ap (λ (x : ℕ). mark_in first rest x (cell k o % 3)) q ∙ ap (λ (x : ℕ). mark_in first rest o x) r

-- one mark is written
cells_set : (first rest after later : List ℕ) (o s v : ℕ) → length after ≡ length first → s < 3 → o < length first → mark_in after later o s ≡ v
    → ((q r : ℕ) → r < 3 → 3 * q + r ≢ 3 * o + s → mark_in after later q r ≡ mark_in first rest q r)
    → cells_of after later ≡ set (cells_of first rest) (3 * o + s) v
cells_set first rest after later o s v e l i here there =
    let p = 3 * o + s in
    let old = length_cells first rest in
    let new = length_cells after later in
    let long : length (cells_of after later) ≡ length (set (cells_of first rest) p v) =
    new ∙ ap (λ (x : ℕ). 3 * x) e ∙ sym old ∙ sym (length-set (cells_of first rest) p v) in
    ext_get_or 0 (cells_of after later) (set (cells_of first rest) p v) long (λ n h.
    let small : n < 3 * length first = omega arith in
    let now = cells_at after later n (omega arith) in
    elim (cases_eq n p) [
      | inl q ↦
          let a : n / 3 ≡ o = omega arith in
          let b : n % 3 ≡ s = omega arith in
          let is : mark_in after later (n / 3) (n % 3) ≡ v = rw (a, b) here in
          now ∙ is ∙ sym (subst (λ (x : ℕ). get_or (set (cells_of first rest) p v) x 0 ≡ v) (sym q)
          (get_or-set_same (cells_of first rest) p v 0 (omega arith)))
      | inr ne ↦
          let apart : 3 * (n / 3) + n % 3 ≢ p = λ z. ne (omega arith) in
          now ∙ there (n / 3) (n % 3) (omega arith) apart ∙ sym (cells_at first rest n small) ∙ sym (get_or-set_other (cells_of first rest) p n v 0 ne)
    ])

-- the first mark of an offset
pub first_set : (first rest : List ℕ) (room o s v : ℕ) → IsPacked first rest room → s < 3 → o < length first → 0 < v → v < 66
    → ((get_or first o 0 ≡ 0) ⊎ (get_or first o 0 / 66 ≡ s)) → cells_of (set first o (66 * s + v)) rest ≡ set (cells_of first rest) (3 * o + s) v
first_set first rest room o s v packed l i f g h =
    let after = set first o (66 * s + v) in
    let is : get_or after o 0 ≡ 66 * s + v = get_or-set_same first o (66 * s + v) 0 i in
    let full : get_or after o 0 ≢ 0 = λ z. absurd (omega arith) in
    let tag : get_or after o 0 / 66 ≡ s = omega arith in
    let mark : get_or after o 0 % 66 ≡ v = omega arith in
    cells_set first rest after rest o s v (length-set first o (66 * s + v)) l i (mark_first after rest o s full tag ∙ mark)
    (λ q r m ne. elim (cases_eq q o) [
      | inl e ↦
          let apart : r ≢ s = λ z. ne (omega arith) in
          let a : mark_in after rest o r ≡ get_or rest (other o r s) 0 = mark_other after rest o r full (λ z. apart (sym z ∙ tag))
          ∙ ap (λ (x : ℕ). get_or rest (other o r x) 0) tag in
          let b : get_or rest (other o r s) 0 ≡ mark_in first rest o r = elim h [
            | inl z ↦ packed.none o ((r + 2 - s) % 3) z (omega arith) ∙ sym (mark_none first rest o r z)
            | inr t ↦ elim (cases_eq (get_or first o 0) 0) [
              | inl z ↦ packed.none o ((r + 2 - s) % 3) z (omega arith) ∙ sym (mark_none first rest o r z)
              | inr n ↦ ap (λ (x : ℕ). get_or rest (other o r x) 0) (sym t) ∙ sym (mark_other first rest o r n (λ z. apart (sym z ∙ t)))
            ]
          ] in
          subst (λ (x : ℕ). mark_in after rest x r ≡ mark_in first rest x r) (sym e) (a ∙ b)
      | inr d ↦ mark_same first rest after rest q r (get_or-set_other first o q (66 * s + v) 0 d) (λ n t. refl)
    ])

-- a further mark of an offset
pub rest_set : (first rest : List ℕ) (room o s v : ℕ) → IsPacked first rest room → s < 3 → o < length first → length rest ≡ 2 * length first
    → get_or first o 0 ≢ 0 → get_or first o 0 / 66 ≢ s
    → cells_of first (set rest (other o s (get_or first o 0 / 66)) v) ≡ set (cells_of first rest) (3 * o + s) v
rest_set first rest room o s v packed l i e full ne =
    let t = get_or first o 0 / 66 in
    let j = other o s t in
    let low = packed.low o in
    let later = set rest j v in
    let inside : j < length rest = omega arith in
    cells_set first rest first later o s v refl l i (mark_other first later o s full ne ∙ get_or-set_same rest j v 0 inside)
    (λ q r m apart. mark_same first rest first later q r refl (λ n d.
    let b = packed.low q in
    get_or-set_other rest j (other q r (get_or first q 0 / 66)) v 0 (λ z. elim (cases_eq q o) [
      | inl same ↦
          let u : get_or first q 0 ≡ get_or first o 0 = ap (λ (x : ℕ). get_or first x 0) same in
          absurd (omega arith)
      | inr differs ↦ absurd (omega arith)
    ])))

pub rest_packed : (first rest : List ℕ) (room o s v : ℕ) → IsPacked first rest room → s < 3 → length rest ≡ 2 * length first
    → get_or first o 0 ≢ 0 → get_or first o 0 / 66 ≢ s → IsPacked first (set rest (other o s (get_or first o 0 / 66)) v) room
rest_packed first rest room o s v packed l e full ne =
    let t = get_or first o 0 / 66 in
    let j = other o s t in
    let low = packed.low o in
    record {
      small = packed.small;
      low = packed.low;
      none = λ q i z m. get_or-set_other rest j (2 * q + i) v 0 (λ w. elim (cases_eq q o) [
        | inl same ↦ full (ap (λ (x : ℕ). get_or first x 0) (sym same) ∙ z)
        | inr differs ↦ absurd (omega arith)
      ]) ∙ packed.none q i z m;
      long = inl (length-set rest j v ∙ e);
    }

-- room for further marks is cleared
none_is_zero : (rest : List ℕ) (n : ℕ) → length rest ≡ 0 → get_or rest n 0 ≡ 0
none_is_zero rest n e = get_or-eq_default rest 0 (omega arith)

cleared_cells : (first rest : List ℕ) (n : ℕ) → length rest ≡ 0 → cells_of first (replicate n 0) ≡ cells_of first rest
cleared_cells first rest n e =
    let all = length_cells first (replicate n 0) in
    let long : length (cells_of first (replicate n 0)) ≡ length (cells_of first rest) = all ∙ sym (length_cells first rest) in
    ext_get_or 0 (cells_of first (replicate n 0)) (cells_of first rest) long (λ i h.
    cells_at first (replicate n 0) i (omega arith)
    ∙ mark_same first rest first (replicate n 0) (i / 3) (i % 3) refl (λ f g. all_zero n _ ∙ sym (none_is_zero rest _ e))
    ∙ sym (cells_at first rest i (omega arith)))

-- what is there once it is
pub record IsReady (first rest later : List ℕ) (after : ℕ) : Type 0 where
  pub packed : IsPacked first later after
  pub long : length later ≡ 2 * length first
  pub same : cells_of first later ≡ cells_of first rest

pub ready : (first rest later : List ℕ) (room after : ℕ) → IsPacked first rest room
    → later ≡ cond (eqb (length rest) 0) (replicate (2 * length first) 0) rest → IsReady first rest later after
ready first rest later room after packed e = elim (cases_eq (length rest) 0) [
  | inl z ↦
      let is : later ≡ replicate (2 * length first) 0 = e ∙ ap (λ (b : Bool). cond b (replicate (2 * length first) 0) rest) (eq-eqb (length rest) 0 z) in
      let long : length later ≡ 2 * length first = ap length is ∙ length-replicate (2 * length first) 0 in
      record {
        packed = record {
          small = packed.small;
          low = packed.low;
          none = λ q i f m. rw is (all_zero (2 * length first) (2 * q + i));
          long = inl long;
        };
        long = long;
        same = ap (λ (x : List ℕ). cells_of first x) is ∙ cleared_cells first rest (2 * length first) z;
      }
  | inr n ↦
      let is : later ≡ rest = e ∙ ap (λ (b : Bool). cond b (replicate (2 * length first) 0) rest) (ne_eqb (length rest) 0 n) in
      let full : length rest ≡ 2 * length first = elim packed.long [
        | inl l ↦ l
        | inr l ↦ absurd (n l.0)
      ] in
      record {
        packed = record {
          small = packed.small;
          low = packed.low;
          none = λ q i f m. rw is (packed.none q i f m);
          long = inl (ap length is ∙ full);
        };
        long = ap length is ∙ full;
        same = ap (λ (x : List ℕ). cells_of first x) is;
      }
]

-- nothing is written
pub fresh_cells : (first rest : List ℕ) (n : ℕ) → ((o : ℕ) → get_or first o 0 ≡ 0) → get_or (cells_of first rest) n 0 ≡ 0
fresh_cells first rest n z = by_place (cases_lt n (3 * length first))
  where
    by_place : (n < 3 * length first) ⊎ (3 * length first ≤ n) → get_or (cells_of first rest) n 0 ≡ 0
    by_place (inl l) = cells_at first rest n l ∙ mark_none first rest (n / 3) (n % 3) (z (n / 3))
    by_place (inr m) =
        let e = length_cells first rest in
        let past : length (cells_of first rest) ≤ n = omega arith in
        get_or-eq_default (cells_of first rest) 0 past

pub fresh_packed : (first rest : List ℕ) (room : ℕ) → length first < 4294967296 → ((o : ℕ) → get_or first o 0 ≡ 0) → length rest ≡ 0
    → 2 * length first ≤ room → IsPacked first rest room
fresh_packed first rest room l z e r = record {
  small = l;
  low = λ o. rw (z o) (omega arith);
  none = λ o i f m. none_is_zero rest (2 * o + i) e;
  long = inr (e, r);
}

-- ---- as the code reads and writes

pub read_at : (first rest cells : List ℕ) (k : ItemKind) (o : ℕ) → cells_of first rest ≡ cells → cell k o < length cells
    → mark_in first rest o (slot k) ≡ get_or cells (cell k o) 0
read_at first rest cells k o e = subst (λ (x : List ℕ). cell k o < length x → mark_in first rest o (slot k) ≡ get_or x (cell k o) 0) e
    (λ h. sym (cell_is_mark first rest k o h))

pub inside_at : (first rest cells : List ℕ) (k : ItemKind) (o : ℕ) → cells_of first rest ≡ cells → cell k o < length cells → o < length first
inside_at first rest cells k o e = subst (λ (x : List ℕ). cell k o < length x → o < length first) e (λ h. cell_inside first rest k o h)

-- a mark is set beside the one that its offset has
pub set_beside : (first rest later cells : List ℕ) (room after o s v place n code : ℕ) (k : ItemKind) → IsPacked first rest room → cells_of first rest ≡ cells
    → cell k o < length cells → s ≡ slot k → code ≡ get_or first o 0 → (code ≢ 0) × (code / 66 ≢ s) → n ≡ length first
    → later ≡ cond (eqb (length rest) 0) (replicate (2 * n) 0) rest → place ≡ other o s (code / 66)
    → IsPacked first (set later place v) after × (cells_of first (set later place v) ≡ set cells (cell k o) v)
set_beside first rest later cells room after o s v place n code k packed view inside is read apart len filled at =
    let i = inside_at first rest cells k o view inside in
    let same = read in
    let l = slot_low k in
    let r = ready first rest later room after packed (filled ∙ ap (λ (x : ℕ). cond (eqb (length rest) 0) (replicate (2 * x) 0) rest) len) in
    let full : get_or first o 0 ≢ 0 = λ z. apart.0 (same ∙ z) in
    let other_slot : get_or first o 0 / 66 ≢ s = λ z. apart.1 (ap (λ (x : ℕ). x / 66) same ∙ z) in
    let there : other o s (get_or first o 0 / 66) ≡ place = ap (λ (x : ℕ). other o s (x / 66)) (sym same) ∙ sym at in (
      subst (λ (x : ℕ). IsPacked first (set later x v) after) there (rest_packed first later after o s v r.packed (omega arith) r.long full other_slot),
      subst (λ (x : ℕ). cells_of first (set later x v) ≡ set (cells_of first later) (3 * o + s) v) there
          (rest_set first later after o s v r.packed (omega arith) i r.long full other_slot)
          ∙ ap (λ (x : List ℕ). set x (3 * o + s) v) (r.same ∙ view) ∙ ap (λ (x : ℕ). set cells (3 * o + x) v) is,
    )
