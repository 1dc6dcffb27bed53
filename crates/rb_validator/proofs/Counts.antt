-- Proves that the marked cells are those of the places.
use Rattle.std.proofs.Common.{◌≡◌, ◌≢◌, ℕ, zero, suc, ◌*◌, ◌/◌, ◌<◌, ◌≤◌, true, List, [], ◌∷◌, length, get_or, refl, sym, subst, arith, inl, inr}
use Rattle.std.proofs.lemmas.Bool.{cases_eq, eq-eqb, ne_eqb}
use Rattle.rb_format.specs.declared.kind.ItemKind.{ItemKind}
use Rattle.rb_format.specs.declared.kind.ItemKind.TheVariants.{String, Binary, Table, Alias, LongTable, Int, Array, Ints}
use Rattle.rb_format.specs.declared.layout.Layout.{Layout}
use Rattle.rb_format.specs.Place.{word_at}
use Rattle.rb_format.specs.Item.{offset_of}
use Rattle.rb_validator.specs.inner.Marks.{cell, mark_at, marked, IsKnown, Keeps}
use Rattle.rb_format.specs.Geometry.{has_children, child_count}
use Rattle.rb_validator.specs.Visits.{kind_at, IsChild, IsWay, IsPlace, IsPlaceAt, IsCount}
use Rattle.rb_validator.proofs.Cells.{cell_at, kind_inner}

pub count_le : (P : ℕ → Type 0) (n c : ℕ) → IsCount P n c → c ≤ n
count_le P zero c h = omega arith
count_le P (suc n) c h = elim h [
  | inl q ↦ let d = count_le P n q.1.0 q.1.2 in let e : c ≡ suc q.1.0 = q.1.1 in omega arith
  | inr q ↦ let d = count_le P n c q.1 in omega arith
]

-- marked cells are counted if the marked ones are those with the property
pub count_marked : (P : ℕ → Type 0) (cells : List ℕ) (n : ℕ) → ((i : ℕ) → get_or cells i 0 ≢ 0 → P i) → ((i : ℕ) → P i → get_or cells i 0 ≢ 0)
    → IsCount P n (marked cells n)
count_marked P cells zero f g = refl
count_marked P cells (suc n) f g = elim (cases_eq (get_or cells n 0) 0) [
  | inl z ↦ inr ((λ p. g n p z), rw (eq-eqb (get_or cells n 0) 0 z) (count_marked P cells n f g))
  | inr m ↦ inl (f n m, (marked cells n, rw (ne_eqb (get_or cells n 0) 0 m) refl, count_marked P cells n f g))
]

pub inner_count : (body : List ℕ) (k : ItemKind) (o i : ℕ) → i < child_count body k o → has_children k ≡ true
inner_count body String o i h = absurd (omega arith)
inner_count body Binary o i h = absurd (omega arith)
inner_count body Table o i h = refl
inner_count body Alias o i h = absurd (omega arith)
inner_count body LongTable o i h = refl
inner_count body Int o i h = absurd (omega arith)
inner_count body Array o i h = refl
inner_count body Ints o i h = absurd (omega arith)

-- with no open cell, all items that some way leads to are known
way_known : (y : Layout) (body cells : List ℕ) → Keeps y body cells → ((n : ℕ) → get_or cells n 0 ≢ 65) → IsKnown cells (word_at body 0)
    → (before : List ℕ) (item : ℕ) → IsWay body before item → IsKnown cells item
way_known y body cells keeps closed root [] item e = subst (λ (x : ℕ). IsKnown cells x) (sym e) root
way_known y body cells keeps closed root (b ∷ before) item w =
    let ch : IsChild body b item = w.0 in
    let up = way_known y body cells keeps closed root before b w.1 in
    let inner = inner_count body ch.kind (offset_of b) ch.i ch.counted in
    let d = keeps.done ch.kind (offset_of b) inner (up ch.kind ch.is_kind inner ch.full) (closed (cell ch.kind (offset_of b))) in
    subst (λ (x : ℕ). IsKnown cells x) (sym ch.is) (d.known ch.i ch.counted)

place_marked : (y : Layout) (body cells : List ℕ) → Keeps y body cells → ((n : ℕ) → get_or cells n 0 ≢ 65) → IsKnown cells (word_at body 0)
    → (k : ItemKind) (o : ℕ) → IsPlace body k o → mark_at cells k o ≢ 0
place_marked y body cells keeps closed root k o p =
    let known = way_known y body cells keeps closed root p.before p.item p.way in
    let full : 0 < offset_of p.item = rw p.is_offset p.full in
    subst (λ (x : ℕ). mark_at cells k x ≢ 0) p.is_offset (known k p.is_kind p.inner full)

-- the marks that are left are as many as there are places
pub count_places : (y : Layout) (body cells : List ℕ) → Keeps y body cells → ((n : ℕ) → get_or cells n 0 ≢ 65) → IsKnown cells (word_at body 0)
    → IsCount (IsPlaceAt body) (3 * y.top) (marked cells (length cells))
count_places y body cells keeps closed root =
    rw keeps.long (count_marked (IsPlaceAt body) cells (3 * y.top)
    (λ i m. keeps.place (kind_at i) (i / 3) (kind_inner i) (subst (λ (x : ℕ). get_or cells x 0 ≢ 0) (sym (cell_at i)) m))
    (λ i p. subst (λ (x : ℕ). get_or cells x 0 ≢ 0) (cell_at i) (place_marked y body cells keeps closed root (kind_at i) (i / 3) p)))
