-- Shows the machine values of `Parts`: a pointer to a block, then the allocator.
use Rattle.std.proofs.Common.{◌≡◌, ℕ, List, [], ◌∷◌, ◌++◌, refl, subst}
use mathlib.Core.Bool.{true, ◌&&◌}
use lib.Dec.{T}
use seplogic.Ra.Ura.{Ura}
use mir.Syntax.{impl, tnil, dnil}
use mir.Raw.{raw as bare}
use mir.Val.{Val, vptr, vstruct, vcons, vnil, of_list, has_ty, WT}
use base.Fml.{Fml}
use base.Logic.{never, fst∗}
use types.Logic.{Logic, sem}
use types.Kit.{Item, Goal, Seq, Step, step, ‵, ◌$◌, move, drop, fsplit, fjoin, fpick, fpack, feq_i, feq_l}
use denote.RattleType.{RattleType, Valss}
use denote.Builtin.{RawPtr}
use denote.Memory.{lone}
use denote.RawPtr.{Ptr, block_ptr, null_ptr, ptr_val, in_a_block}
use denote.Steps.{nothing}
use denote.Param.{layout}
use denote.Param.Laws.{Laws}
use denote.Struct.Struct.{within}
use denote.Struct.Owning.{shape}
use Rattle.core.specs.declared.alloc.Allocator.{Ghosts}
use Rattle.core.proofs.alloc.Calls.{Al, handle_tells}
use Rattle.core.proofs.cell.Inside.{Good}
use Rattle.std_alloc.specs.Box.Ownership.{box_owns}
use Rattle.std_alloc.proofs.ResultValues.{and_tt}
use Rattle.rb_handle.specs.contracts.parts.Parts as parts

abbrev pub pair : Val → Val → Val
pair pointer alloc = vstruct (vcons pointer (vcons alloc vnil))

-- of a type, an allocator, and the allocator's right to free
module _ (Row Heap : RattleType) (laws : Laws Heap) (ghosts : Ghosts Heap.Denot) where
  abbrev pub Taken : RattleType
  Taken = parts.the_row Row Heap ghosts

  abbrev allocator : Al
  allocator = record { row = Heap; laws = laws; g = ghosts; d = impl [] tnil dnil; drops = impl [] tnil dnil }

  -- the box of a value in a block
  abbrev pub boxed : Heap.Denot → ℕ → ℕ → Row.Denot → Fml
  boxed alloc block offset value = box_owns (ghosts.dealloc_token alloc) Row (block_ptr block offset) value

  pub parts_good : (block offset : ℕ) (v : Val) → Good (layout Heap) v → T (has_ty (layout Heap) v && true) × WT (pair (vptr block offset) v)
  parts_good block offset v good = (and_tt (has_ty (layout Heap) v) good.0, (tt, (good.1, tt)))

  module _ {M : Type 1} {𝓤 : Ura M} {𝓛 : Logic 𝓤} {K : Type 0} {Γ : List (Item 𝓤)} {G : Goal 𝓤 𝓛.H} where
    pub parts_out : K → (taken : Taken.Denot) (vs : List Val)
        → ((block offset : ℕ) (v : Val) → vs ≡ pair (vptr block offset) v ∷ [] → Good (layout Heap) v
        → Seq K 𝓛 (‵ (boxed taken.alloc block offset taken.value) ∷ ‵ (Heap.own_val taken.alloc (v ∷ [])) ∷ Γ) G)
        → Seq K 𝓛 (‵ (Taken.own_val taken vs) ∷ Γ) G
    parts_out t taken vs next =
        let owned : Ptr → Fml = λ p. box_owns (ghosts.dealloc_token taken.alloc) Row p taken.value in
        fsplit t $ fpick t (λ words. fsplit t $ feq_l t (λ is_pair. fsplit t $ feq_l t (λ is_pointer. fsplit t $
        handle_tells allocator t taken.alloc words.1.0 (λ v is_alloc good. move t (1 ∷ []) $ drop t $ move t (1 ∷ []) $
        in_a_block t taken.pointer owned (fst∗ 𝓤 (never 𝓤) (sem 𝓛 (ghosts.dealloc_token taken.alloc (bare (lone Row.mir)) null_ptr))) (λ block offset is_block. next block offset v
        (subst (λ (p : Ptr). vs ≡ vstruct (of_list (ptr_val p ∷ v ∷ [])) ∷ []) is_block
        (subst (λ (allocs : List Val). vs ≡ vstruct (of_list (ptr_val taken.pointer ∷ (allocs ++ []))) ∷ []) is_alloc
        (subst (λ (ps : List Val). vs ≡ vstruct (of_list (ps ++ (words.1.0 ++ []))) ∷ []) is_pointer is_pair))) good)))))

    pub parts_in : K → (block offset : ℕ) (v : Val) (alloc : Heap.Denot) (value : Row.Denot)
        → Step K 𝓛 (‵ (Taken.own_val (record { pointer = block_ptr block offset; alloc = alloc; value = value }) (pair (vptr block offset) v ∷ [])) ∷ Γ) G
        (‵ (boxed alloc block offset value) ∷ ‵ (Heap.own_val alloc (v ∷ [])) ∷ Γ) G
    parts_in t block offset v alloc value = step (λ next. let word : Val = pair (vptr block offset) v in
        nothing t $ move t (2 ∷ 0 ∷ []) $ fjoin t $ feq_i t (List Val) (vptr block offset ∷ []) (vptr block offset ∷ []) refl $ fjoin t $
        feq_i t (List Val) (word ∷ []) (word ∷ []) refl $ fjoin t $
        fpack t (Valss (RawPtr ∷ Heap ∷ [])) (within (shape (parts.the_type Row Heap ghosts)) (block_ptr block offset, (alloc, tt)) (word ∷ [])) (vptr block offset ∷ [], (v ∷ [], tt)) $ fjoin t $ next)
