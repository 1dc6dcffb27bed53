-- Marks that are written, and what is kept.
use Rattle.std.proofs.Common.{◌≡◌, ◌≢◌, ℕ, zero, suc, ◌+◌, ◌*◌, ◌/◌, ◌%◌, ◌<◌, ◌≤◌, Bool, true, false, cond, eqb, List, length, get_or, set, refl, sym, subst}
use Rattle.std.proofs.Common.{◌∙◌, arith, inl, inr, get_or-set_other, get_or-set_same}
use Rattle.std.proofs.lemmas.Bool.{cases_eq}
use Rattle.std.proofs.lemmas.List.{length-set}
use Rattle.rb_format.specs.declared.kind.ItemKind.{ItemKind}
use Rattle.rb_format.specs.declared.kind.ItemKind.TheVariants.{String, Binary, Table, Alias, LongTable, Int, Array, Ints}
use Rattle.rb_format.specs.declared.layout.Layout.{Layout}
use Rattle.rb_format.specs.Item.{offset_of}
use Rattle.rb_validator.specs.inner.Marks.{slot, cell, mark_at, IsKnown, IsDone, Keeps, Follows, Leads}
use Rattle.rb_format.specs.Geometry.{has_children}
use Rattle.rb_validator.specs.Visits.{kind_at, IsPlace}

pub slot_low : (k : ItemKind) → slot k ≤ 2
slot_low String = omega arith
slot_low Binary = omega arith
slot_low Table = omega arith
slot_low Alias = omega arith
slot_low LongTable = omega arith
slot_low Int = omega arith
slot_low Array = omega arith
slot_low Ints = omega arith

pub cell_low : (k : ItemKind) (o top : ℕ) → o < top → cell k o < 3 * top
cell_low k o top h = let l = slot_low k in omega arith

slot_is : (j k : ItemKind) → has_children j ≡ true → has_children k ≡ true → slot j ≡ slot k → j ≡ k
slot_is Table Table g h e = refl
slot_is Table LongTable g h e = absurd (omega arith)
slot_is Table Array g h e = absurd (omega arith)
slot_is LongTable Table g h e = absurd (omega arith)
slot_is LongTable LongTable g h e = refl
slot_is LongTable Array g h e = absurd (omega arith)
slot_is Array Table g h e = absurd (omega arith)
slot_is Array LongTable g h e = absurd (omega arith)
slot_is Array Array g h e = refl
slot_is String k g h e = absurd cc
slot_is Binary k g h e = absurd cc
slot_is Alias k g h e = absurd cc
slot_is Int k g h e = absurd cc
slot_is Ints k g h e = absurd cc
slot_is Table String g h e = absurd cc
slot_is Table Binary g h e = absurd cc
slot_is Table Alias g h e = absurd cc
slot_is Table Int g h e = absurd cc
slot_is Table Ints g h e = absurd cc
slot_is LongTable String g h e = absurd cc
slot_is LongTable Binary g h e = absurd cc
slot_is LongTable Alias g h e = absurd cc
slot_is LongTable Int g h e = absurd cc
slot_is LongTable Ints g h e = absurd cc
slot_is Array String g h e = absurd cc
slot_is Array Binary g h e = absurd cc
slot_is Array Alias g h e = absurd cc
slot_is Array Int g h e = absurd cc
slot_is Array Ints g h e = absurd cc

-- each pair has its own cell
pub cell_is : (j k : ItemKind) (o p : ℕ) → has_children j ≡ true → has_children k ≡ true → cell j o ≡ cell k p → (j ≡ k) × (o ≡ p)
cell_is j k o p g h e =
    let a = slot_low j in let b = slot_low k in
    let q : slot j ≡ slot k = omega arith in
    (slot_is j k g h q, omega arith)

-- ---- what stays

pub follows_same : (cells : List ℕ) → Follows cells cells
follows_same cells = record { stays = λ n h. refl; closes = λ n e. λ f. absurd (omega arith) }

pub follows_then : (cells mid after : List ℕ) → Follows cells mid → Follows mid after → Follows cells after
follows_then cells mid after f g = record {
  stays = λ n h. g.stays n (λ e. h (sym (f.stays n h) ∙ e)) ∙ f.stays n h;
  closes = λ n e. elim (cases_eq (get_or mid n 0) 0) [
    | inl z ↦ g.closes n z
    | inr m ↦ λ q. f.closes n e (sym (g.stays n m) ∙ q)
  ];
}

pub known_after : (cells after : List ℕ) (w : ℕ) → Follows cells after → IsKnown cells w → IsKnown after w
known_after cells after w f h = λ k e i p. λ z. h k e i p (sym (f.stays (cell k (offset_of w)) (h k e i p)) ∙ z)

pub leads_after : (y : Layout) (body cells after : List ℕ) (Q : ℕ → Type 0) → Follows cells after → Leads y body cells Q → Leads y body after Q
leads_after y body cells after Q f l = record { at = λ k o h e d. l.at k o h (was (cell k o) e) d }
  where
    was : (n : ℕ) → get_or after n 0 ≡ 65 → get_or cells n 0 ≡ 65
    was n e = elim (cases_eq (get_or cells n 0) 0) [
      | inl z ↦ absurd (f.closes n z e)
      | inr m ↦ sym (f.stays n m) ∙ e
    ]

-- ---- a cell is written

set_kept : (cells : List ℕ) (p v n : ℕ) → v ≢ 0 → p < length cells → get_or cells n 0 ≢ 0 → get_or (set cells p v) n 0 ≢ 0
set_kept cells p v n f l h = elim (cases_eq n p) [
  | inl q ↦ λ z. f (sym (get_or-set_same cells p v 0 l) ∙ subst (λ (x : ℕ). get_or (set cells p v) x 0 ≡ 0) q z)
  | inr ne ↦ λ z. h (sym (get_or-set_other cells p n v 0 ne) ∙ z)
]

pub known_set : (cells : List ℕ) (p v w : ℕ) → v ≢ 0 → p < length cells → IsKnown cells w → IsKnown (set cells p v) w
known_set cells p v w f l h = λ k e i q. set_kept cells p v (cell k (offset_of w)) f l (h k e i q)

done_set : (y : Layout) (body cells : List ℕ) (p v : ℕ) (k : ItemKind) (o h : ℕ) → v ≢ 0 → p < length cells → IsDone y body cells k o h
    → IsDone y body (set cells p v) k o h
done_set y body cells p v k o h f l d = record {
  tree = d.tree;
  level = d.level;
  is = d.is;
  high = d.high;
  known =
      λ i q. known_set cells p v _ f l (d.known i q);
}

pub keeps_set : (y : Layout) (body cells : List ℕ) (k : ItemKind) (o v : ℕ) → Keeps y body cells → has_children k ≡ true → cell k o < length cells → v ≢ 0
    → (v ≢ 65 → IsDone y body (set cells (cell k o) v) k o v) → IsPlace body k o → Keeps y body (set cells (cell k o) v)
keeps_set y body cells k o v keeps i l f done place = record {
  long = length-set cells (cell k o) v ∙ keeps.long;
  done = λ j p g m n. elim (cases_eq (cell j p) (cell k o)) [
    | inl q ↦
        let same = cell_is j k p o g i q in
        let here : mark_at (set cells (cell k o) v) j p ≡ v = subst (λ (x : ℕ). get_or (set cells (cell k o) v) x 0 ≡ v) (sym q)
        (get_or-set_same cells (cell k o) v 0 l) in
        let d = done (λ z. n (here ∙ z)) in
        rw (here, same.0, same.1) d
    | inr ne ↦
        let was : mark_at (set cells (cell k o) v) j p ≡ mark_at cells j p = get_or-set_other cells (cell k o) (cell j p) v 0 ne in
        rw was (done_set y body cells (cell k o) v j p (mark_at cells j p) f l (keeps.done j p g (λ z. m (was ∙ z)) (λ z. n (was ∙ z))))
  ];
  place = λ j p g m. elim (cases_eq (cell j p) (cell k o)) [
    | inl q ↦ let same = cell_is j k p o g i q in rw (same.0, same.1) place
    | inr ne ↦
        let was : mark_at (set cells (cell k o) v) j p ≡ mark_at cells j p = get_or-set_other cells (cell k o) (cell j p) v 0 ne in
        keeps.place j p g (λ z. m (was ∙ z))
  ];
}

-- an entry as a whole: a cell is opened, others are written, and then its height
pub follows_entry : (cells after : List ℕ) (p h : ℕ) → p < length cells → length after ≡ length cells → get_or cells p 0 ≡ 0 → h ≢ 65
    → Follows (set cells p 65) after → Follows cells (set after p h)
follows_entry cells after p h l long fresh low f = record {
  stays = λ n m.
      let ne : n ≢ p = λ q. m (subst (λ (x : ℕ). get_or cells x 0 ≡ 0) (sym q) fresh) in
      let open_same : get_or (set cells p 65) n 0 ≡ get_or cells n 0 = get_or-set_other cells p n 65 0 ne in
      get_or-set_other after p n h 0 ne ∙ f.stays n (λ z. m (sym open_same ∙ z)) ∙ open_same;
  closes = λ n z. elim (cases_eq n p) [
    | inl q ↦ λ e. low (sym (get_or-set_same after p h 0 (rw long l)) ∙ subst (λ (x : ℕ). get_or (set after p h) x 0 ≡ 65) q e)
    | inr ne ↦ λ e. f.closes n (get_or-set_other cells p n 65 0 ne ∙ z) (sym (get_or-set_other after p n h 0 ne) ∙ e)
  ];
}

-- ---- cells by number

pub cell_at : (n : ℕ) → cell (kind_at n) (n / 3) ≡ n
cell_at n = by_rest n (n / 3) (n % 3) (omega arith) (omega arith)
  where
    by_rest : (n q r : ℕ) → n ≡ 3 * q + r → r < 3 → 3 * q + slot (cond (eqb r 0) Table (cond (eqb r 1) LongTable Array)) ≡ n
    by_rest n q zero e l = omega arith
    by_rest n q (suc zero) e l = omega arith
    by_rest n q (suc (suc zero)) e l = omega arith
    by_rest n q (suc (suc (suc r))) e l = absurd (omega arith)

pub kind_inner : (n : ℕ) → has_children (kind_at n) ≡ true
kind_inner n = by_tests (eqb (n % 3) 0) (eqb (n % 3) 1)
  where
    by_tests : (a b : Bool) → has_children (cond a Table (cond b LongTable Array)) ≡ true
    by_tests true b = refl
    by_tests false true = refl
    by_tests false false = refl
