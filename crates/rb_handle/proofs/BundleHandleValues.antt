-- Shows the machine values of a `BundleHandle`: a pointer, the allocator, which takes no bytes, and whether it is open.
use Rattle.std.proofs.Common.{◌≡◌, ℕ, List, [], ◌∷◌, ◌++◌, Option, Some, None, refl, subst}
use mathlib.Core.Bool.{Bool, true, false}
use lib.Dec.{lit<}
use seplogic.Ra.Ura.{Ura}
use mir.Syntax.{impl, tnil, dnil}
use mir.Raw.{raw as bare}
use mir.Val.{Val, vptr, vbool, vstruct, vcons, vnil, of_list, has_ty}
use base.Fml.{Fml}
use base.Logic.{never, fst∗}
use types.Logic.{Logic, sem}
use types.Kit.{Item, Goal, Seq, Step, step, ‵, ◌$◌, move, drop, fsplit, fjoin, fpick, fpack, feq_i, feq_l}
use denote.RattleType.{RattleType, Valss}
use denote.Builtin.{RawPtr, bool}
use denote.Memory.{lone}
use denote.RawPtr.{Ptr, block_ptr, null_ptr, ptr_val, in_a_block}
use denote.Steps.{nothing}
use denote.Param.{layout}
use denote.Param.Laws.{Laws}
use denote.Struct.Struct.{within}
use denote.Struct.Owning.{shape, to}
use Rattle.core.proofs.alloc.Calls.{Al, handle_tells}
use Rattle.core.proofs.cell.Inside.{Good}
use Rattle.std_alloc.specs.Box.Ownership.{box_owns}
use Rattle.std_alloc.proofs.ResultValues.{and_tt}
use Rattle.std.specs.contracts.alloc.Global as heap
use Rattle.std.proofs.alloc.Global.TheLaws as heap_laws
use Rattle.std.specs.contracts.impls.GlobalAllocator.TheImpl.{ghosts}
use Rattle.rb_handle.specs.BundleHandle.{stored, bundle_owns}
use Rattle.rb_handle.specs.contracts.bundle_handle.BundleHandle as handle
use Rattle.rb_handle.proofs.PartsValues.{boxed}

abbrev pub Heap : RattleType
Heap = heap.the_row

abbrev pub laws : Laws Heap
laws = heap_laws.the_row_laws

abbrev pub Row : RattleType
Row = handle.the_row

abbrev allocator : Al
allocator = record { row = Heap; laws = laws; g = ghosts; d = impl [] tnil dnil; drops = impl [] tnil dnil }

abbrev pub triple : Val → Val → Val → Val
triple at alloc is_prepared = vstruct (vcons at (vcons alloc (vcons is_prepared vnil)))

abbrev pub owned : ℕ → ℕ → Heap.Denot → stored.Denot → Fml
owned block offset alloc bytes = boxed stored Heap laws ghosts alloc block offset bytes

module _ {M : Type 1} {𝓤 : Ura M} {𝓛 : Logic 𝓤} {K : Type 0} {Γ : List (Item 𝓤)} {G : Goal 𝓤 𝓛.H} where
  prepared_or_discarded : K → (is_prepared : Bool) (at : Ptr) (alloc : Heap.Denot) (file : Option stored.Denot)
      → ((block offset : ℕ) (bytes : stored.Denot) → file ≡ Some bytes → is_prepared ≡ true → at ≡ block_ptr block offset → Seq K 𝓛 (‵ (owned block offset alloc bytes) ∷ Γ) G)
      → (file ≡ None → is_prepared ≡ false → Seq K 𝓛 Γ G)
      → Seq K 𝓛 (‵ (bundle_owns is_prepared at alloc file) ∷ Γ) G
  prepared_or_discarded t is_prepared at alloc (Some bytes) is_some is_none = let owns_at : Ptr → Fml = λ p. box_owns (ghosts.dealloc_token alloc) stored p bytes in
      fsplit t $ feq_l t (λ o. in_a_block t at owns_at (fst∗ 𝓤 (never 𝓤) (sem 𝓛 (ghosts.dealloc_token alloc (bare (lone stored.mir)) null_ptr)))
      (λ block offset is_block. is_some block offset bytes refl o is_block))
  prepared_or_discarded t is_prepared at alloc None is_some is_none = feq_l t (λ o. is_none refl o)

module _ {M : Type 1} {𝓤 : Ura M} {𝓛 : Logic 𝓤} {K : Type 0} {Γ : List (Item 𝓤)} {G : Goal 𝓤 𝓛.H} where
  pub handle_out : K → (h : Row.Denot) (vs : List Val)
      → ((block offset : ℕ) (v : Val) (bytes : stored.Denot) → h.file ≡ Some bytes → vs ≡ triple (vptr block offset) v (vbool true) ∷ [] → Good (layout Heap) v
      → Seq K 𝓛 (‵ (owned block offset h.alloc bytes) ∷ ‵ (Heap.own_val h.alloc (v ∷ [])) ∷ Γ) G)
      → ((v : Val) → h.file ≡ None → vs ≡ triple (ptr_val h.at) v (vbool false) ∷ [] → Good (layout Heap) v → Seq K 𝓛 (‵ (Heap.own_val h.alloc (v ∷ [])) ∷ Γ) G)
      → Seq K 𝓛 (‵ (Row.own_val h vs) ∷ Γ) G
  handle_out t h vs is_some is_none =
      fsplit t $ fpick t (λ words. fsplit t $ feq_l t (λ is_triple. fsplit t $ feq_l t (λ is_pointer. fsplit t $ handle_tells allocator t h.alloc words.1.0 (λ v is_alloc good.
      move t (1 ∷ []) $ fsplit t $ feq_l t (λ is_bool. drop t $ move t (1 ∷ []) $
      let read : vs ≡ triple (ptr_val h.at) v (vbool h.is_prepared) ∷ [] =
      subst (λ (bs : List Val). vs ≡ vstruct (of_list (ptr_val h.at ∷ v ∷ (bs ++ []))) ∷ []) is_bool
      (subst (λ (allocs : List Val). vs ≡ vstruct (of_list (ptr_val h.at ∷ (allocs ++ (words.1.1.0 ++ [])))) ∷ []) is_alloc
      (subst (λ (ps : List Val). vs ≡ vstruct (of_list (ps ++ (words.1.0 ++ (words.1.1.0 ++ [])))) ∷ []) is_pointer is_triple)) in
      prepared_or_discarded t h.is_prepared h.at h.alloc h.file
      (λ block offset bytes e o is_block. is_some block offset v bytes e (subst (λ (p : Ptr). vs ≡ triple (ptr_val p) v (vbool true) ∷ []) is_block
      (subst (λ (y : Bool). vs ≡ triple (ptr_val h.at) v (vbool y) ∷ []) o read)) good)
      (λ e o. is_none v e (subst (λ (y : Bool). vs ≡ triple (ptr_val h.at) v (vbool y) ∷ []) o read) good))))))

  -- the fields beside what they own
  fields_in : K → (at : Ptr) (v : Val) (is_prepared : Bool) (alloc : Heap.Denot) (file : Option stored.Denot)
      → Step K 𝓛 (‵ (Row.own_val (record { at = at; alloc = alloc; is_prepared = is_prepared; file = file }) (triple (ptr_val at) v (vbool is_prepared) ∷ [])) ∷ Γ) G
      (‵ (bundle_owns is_prepared at alloc file) ∷ ‵ (Heap.own_val alloc (v ∷ [])) ∷ Γ) G
  fields_in t at v is_prepared alloc file = step (λ next. let word : Val = triple (ptr_val at) v (vbool is_prepared) in let h : Row.Denot = record { at = at; alloc = alloc; is_prepared = is_prepared; file = file } in
      nothing t $ feq_i t (List Val) (vbool is_prepared ∷ []) (vbool is_prepared ∷ []) refl $ fjoin t $ move t (2 ∷ 0 ∷ []) $ fjoin t $ feq_i t (List Val) (ptr_val at ∷ []) (ptr_val at ∷ []) refl $ fjoin t $
      feq_i t (List Val) (word ∷ []) (word ∷ []) refl $ fjoin t $
      fpack t (Valss (RawPtr ∷ Heap ∷ bool ∷ [])) (within (shape handle.the_type) (to handle.the_type h) (word ∷ [])) (ptr_val at ∷ [], (v ∷ [], (vbool is_prepared ∷ [], tt))) $ fjoin t $ next)

module _ {M : Type 1} {𝓤 : Ura M} {𝓛 : Logic 𝓤} {K : Type 0} {Γ : List (Item 𝓤)} {G : Goal 𝓤 𝓛.H} where
  pub prepared_in : K → (block offset : ℕ) (v : Val) (alloc : Heap.Denot) (bytes : stored.Denot)
      → Step K 𝓛 (‵ (Row.own_val (record { at = block_ptr block offset; alloc = alloc; is_prepared = true; file = Some bytes }) (triple (vptr block offset) v (vbool true) ∷ [])) ∷ Γ) G
      (‵ (owned block offset alloc bytes) ∷ ‵ (Heap.own_val alloc (v ∷ [])) ∷ Γ) G
  prepared_in t block offset v alloc bytes = step (λ next. feq_i t Bool true true refl $ fjoin t $ fields_in t (block_ptr block offset) v true alloc (Some bytes) $ next)

  pub discarded_in : K → (at : Ptr) (v : Val) (alloc : Heap.Denot)
      → Step K 𝓛 (‵ (Row.own_val (record { at = at; alloc = alloc; is_prepared = false; file = None }) (triple (ptr_val at) v (vbool false) ∷ [])) ∷ Γ) G (‵ (Heap.own_val alloc (v ∷ [])) ∷ Γ) G
  discarded_in t at v alloc = step (λ next. feq_i t Bool false false refl $ fields_in t at v false alloc None $ next)

pub handle_good : (at : Ptr) (v : Val) (is_prepared : Bool) → Good (layout Heap) v → Good (layout Row) (triple (ptr_val at) v (vbool is_prepared))
handle_good (block_ptr b o) v is_prepared good = (and_tt (has_ty (layout Heap) v) good.0, (tt, (good.1, (tt, tt))))
handle_good null_ptr v is_prepared good = (and_tt (has_ty (layout Heap) v) good.0, (record { fits = lit< tt }, (good.1, (tt, tt))))
