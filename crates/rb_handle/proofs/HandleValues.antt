-- Shows the machine values of a `Handle`: a pointer, the allocator, which takes no bytes, and whether it is open.
use Rattle.std.proofs.Common.{◌≡◌, ℕ, List, [], ◌∷◌, ◌++◌, Option, Some, None, refl, subst}
use mathlib.Core.Bool.{Bool, true, false}
use lib.Dec.{lit<}
use seplogic.Ra.Ura.{Ura}
use mir.Syntax.{impl, tnil, dnil}
use mir.Raw.{raw as bare}
use mir.Val.{Val, vptr, vbool, vstruct, vcons, vnil, of_list, has_ty}
use base.Fml.{Fml}
use base.Logic.{never, fst∗}
use types.Logic.{Logic, sem}
use types.Kit.{Item, Goal, Seq, Step, step, ‵, ◌$◌, move, drop, fsplit, fjoin, fpick, fpack, feq_i, feq_l}
use denote.RattleType.{RattleType, Valss}
use denote.Builtin.{RawPtr, bool}
use denote.Memory.{lone}
use denote.RawPtr.{Ptr, block_ptr, null_ptr, ptr_val, in_a_block}
use denote.Steps.{nothing}
use denote.Param.{layout}
use denote.Param.Laws.{Laws}
use denote.Struct.Struct.{within}
use denote.Struct.Owning.{shape, to}
use Rattle.core.proofs.alloc.Calls.{Al, handle_tells}
use Rattle.core.proofs.cell.Inside.{Good}
use Rattle.std_alloc.specs.Box.Ownership.{box_owns}
use Rattle.std_alloc.proofs.ResultValues.{and_tt}
use Rattle.std.specs.contracts.alloc.Global as heap
use Rattle.std.proofs.alloc.Global.TheLaws as heap_laws
use Rattle.std.specs.contracts.impls.GlobalAllocator.TheImpl.{ghosts}
use Rattle.rb_handle.specs.Handle.{counted, handle_owns}
use Rattle.rb_handle.specs.contracts.handle.Handle as handle
use Rattle.rb_handle.proofs.PartsValues.{boxed}

abbrev pub Heap : RattleType
Heap = heap.the_row

abbrev pub laws : Laws Heap
laws = heap_laws.the_row_laws

abbrev pub Row : RattleType
Row = handle.the_row

abbrev allocator : Al
allocator = record { row = Heap; laws = laws; g = ghosts; d = impl [] tnil dnil; drops = impl [] tnil dnil }

abbrev pub triple : Val → Val → Val → Val
triple at alloc is_open = vstruct (vcons at (vcons alloc (vcons is_open vnil)))

abbrev pub owned : ℕ → ℕ → Heap.Denot → counted.Denot → Fml
owned block offset alloc count = boxed counted Heap laws ghosts alloc block offset count

module _ {M : Type 1} {𝓤 : Ura M} {𝓛 : Logic 𝓤} {K : Type 0} {Γ : List (Item 𝓤)} {G : Goal 𝓤 𝓛.H} where
  open_or_closed : K → (is_open : Bool) (at : Ptr) (alloc : Heap.Denot) (engine : Option counted.Denot)
      → ((block offset : ℕ) (count : counted.Denot) → engine ≡ Some count → is_open ≡ true → at ≡ block_ptr block offset → Seq K 𝓛 (‵ (owned block offset alloc count) ∷ Γ) G)
      → (engine ≡ None → is_open ≡ false → Seq K 𝓛 Γ G)
      → Seq K 𝓛 (‵ (handle_owns is_open at alloc engine) ∷ Γ) G
  open_or_closed t is_open at alloc (Some count) is_some is_none = let owns_at : Ptr → Fml = λ p. box_owns (ghosts.dealloc_token alloc) counted p count in
      fsplit t $ feq_l t (λ o. in_a_block t at owns_at (fst∗ 𝓤 (never 𝓤) (sem 𝓛 (ghosts.dealloc_token alloc (bare (lone counted.mir)) null_ptr)))
      (λ block offset is_block. is_some block offset count refl o is_block))
  open_or_closed t is_open at alloc None is_some is_none = feq_l t (λ o. is_none refl o)

module _ {M : Type 1} {𝓤 : Ura M} {𝓛 : Logic 𝓤} {K : Type 0} {Γ : List (Item 𝓤)} {G : Goal 𝓤 𝓛.H} where
  pub handle_out : K → (h : Row.Denot) (vs : List Val)
      → ((block offset : ℕ) (v : Val) (count : counted.Denot) → h.engine ≡ Some count → vs ≡ triple (vptr block offset) v (vbool true) ∷ [] → Good (layout Heap) v
      → Seq K 𝓛 (‵ (owned block offset h.alloc count) ∷ ‵ (Heap.own_val h.alloc (v ∷ [])) ∷ Γ) G)
      → ((v : Val) → h.engine ≡ None → vs ≡ triple (ptr_val h.at) v (vbool false) ∷ [] → Good (layout Heap) v → Seq K 𝓛 (‵ (Heap.own_val h.alloc (v ∷ [])) ∷ Γ) G)
      → Seq K 𝓛 (‵ (Row.own_val h vs) ∷ Γ) G
  handle_out t h vs is_some is_none =
      fsplit t $ fpick t (λ words. fsplit t $ feq_l t (λ is_triple. fsplit t $ feq_l t (λ is_pointer. fsplit t $ handle_tells allocator t h.alloc words.1.0 (λ v is_alloc good.
      move t (1 ∷ []) $ fsplit t $ feq_l t (λ is_bool. drop t $ move t (1 ∷ []) $
      let read : vs ≡ triple (ptr_val h.at) v (vbool h.is_open) ∷ [] =
      subst (λ (bs : List Val). vs ≡ vstruct (of_list (ptr_val h.at ∷ v ∷ (bs ++ []))) ∷ []) is_bool
      (subst (λ (allocs : List Val). vs ≡ vstruct (of_list (ptr_val h.at ∷ (allocs ++ (words.1.1.0 ++ [])))) ∷ []) is_alloc
      (subst (λ (ps : List Val). vs ≡ vstruct (of_list (ps ++ (words.1.0 ++ (words.1.1.0 ++ [])))) ∷ []) is_pointer is_triple)) in
      open_or_closed t h.is_open h.at h.alloc h.engine
      (λ block offset count e o is_block. is_some block offset v count e (subst (λ (p : Ptr). vs ≡ triple (ptr_val p) v (vbool true) ∷ []) is_block
      (subst (λ (y : Bool). vs ≡ triple (ptr_val h.at) v (vbool y) ∷ []) o read)) good)
      (λ e o. is_none v e (subst (λ (y : Bool). vs ≡ triple (ptr_val h.at) v (vbool y) ∷ []) o read) good))))))

  -- the fields beside what they own
  fields_in : K → (at : Ptr) (v : Val) (is_open : Bool) (alloc : Heap.Denot) (engine : Option counted.Denot)
      → Step K 𝓛 (‵ (Row.own_val (record { at = at; alloc = alloc; is_open = is_open; engine = engine }) (triple (ptr_val at) v (vbool is_open) ∷ [])) ∷ Γ) G
      (‵ (handle_owns is_open at alloc engine) ∷ ‵ (Heap.own_val alloc (v ∷ [])) ∷ Γ) G
  fields_in t at v is_open alloc engine = step (λ next. let word : Val = triple (ptr_val at) v (vbool is_open) in let h : Row.Denot = record { at = at; alloc = alloc; is_open = is_open; engine = engine } in
      nothing t $ feq_i t (List Val) (vbool is_open ∷ []) (vbool is_open ∷ []) refl $ fjoin t $ move t (2 ∷ 0 ∷ []) $ fjoin t $ feq_i t (List Val) (ptr_val at ∷ []) (ptr_val at ∷ []) refl $ fjoin t $
      feq_i t (List Val) (word ∷ []) (word ∷ []) refl $ fjoin t $
      fpack t (Valss (RawPtr ∷ Heap ∷ bool ∷ [])) (within (shape handle.the_type) (to handle.the_type h) (word ∷ [])) (ptr_val at ∷ [], (v ∷ [], (vbool is_open ∷ [], tt))) $ fjoin t $ next)

module _ {M : Type 1} {𝓤 : Ura M} {𝓛 : Logic 𝓤} {K : Type 0} {Γ : List (Item 𝓤)} {G : Goal 𝓤 𝓛.H} where
  pub open_in : K → (block offset : ℕ) (v : Val) (alloc : Heap.Denot) (count : counted.Denot)
      → Step K 𝓛 (‵ (Row.own_val (record { at = block_ptr block offset; alloc = alloc; is_open = true; engine = Some count }) (triple (vptr block offset) v (vbool true) ∷ [])) ∷ Γ) G
      (‵ (owned block offset alloc count) ∷ ‵ (Heap.own_val alloc (v ∷ [])) ∷ Γ) G
  open_in t block offset v alloc count = step (λ next. feq_i t Bool true true refl $ fjoin t $ fields_in t (block_ptr block offset) v true alloc (Some count) $ next)

  pub closed_in : K → (at : Ptr) (v : Val) (alloc : Heap.Denot)
      → Step K 𝓛 (‵ (Row.own_val (record { at = at; alloc = alloc; is_open = false; engine = None }) (triple (ptr_val at) v (vbool false) ∷ [])) ∷ Γ) G (‵ (Heap.own_val alloc (v ∷ [])) ∷ Γ) G
  closed_in t at v alloc = step (λ next. feq_i t Bool false false refl $ fields_in t at v false alloc None $ next)

pub handle_good : (at : Ptr) (v : Val) (is_open : Bool) → Good (layout Heap) v → Good (layout Row) (triple (ptr_val at) v (vbool is_open))
handle_good (block_ptr b o) v is_open good = (and_tt (has_ty (layout Heap) v) good.0, (tt, (good.1, (tt, tt))))
handle_good null_ptr v is_open good = (and_tt (has_ty (layout Heap) v) good.0, (record { fits = lit< tt }, (good.1, (tt, tt))))
