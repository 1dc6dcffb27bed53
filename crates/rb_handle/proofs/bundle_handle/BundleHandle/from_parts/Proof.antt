-- Proves `from_parts`: the handle owns what the parts owned.
use Rattle.std.proofs.Common.{◌≡◌, List, [], ◌∷◌, ◌++◌, Some, refl, sym, subst}
use mathlib.Core.Bool.{true}
use mir.Val.{Val, vptr, vbool}
use base.Logic.{SProp, ent, emp, id⊢}
use prog.Wp.{WpFn}
use types.Kit.{‵, raw, ◌⊛◌, ◌$◌, ◌∵◌, !, qed, by, move, keep, split, fsplit, fjoin, suffices, use0}
use types.Run.{stop, fld, of_opd, true_lit, no_more, and_then, returns, enter}
use types.ByLocal.{alloc_all, pass_all, free_all, look_at, get, get_in, sets}
use types.Part.{agg, sub, whole}
use contract.Monad.{fact, fact_i}
use contract.Running.{tables}
use denote.Exit.{yes}
use denote.RattleType.{RattleType, owns}
use denote.Signature.{types_at, plain}
use denote.RawPtr.{block_ptr}
use denote.Steps.{nothing}
use denote.Triple.Entry.{alive}
use denote.Triple.Walked.{Stays, stay_dropped, walk_of}
use Rattle.core.proofs.alloc.Calls.{Goes-blank}
use Rattle.std.specs.contracts.impls.GlobalAllocator.TheImpl.{ghosts}
use Rattle.std.proofs.raw_atomic.Walks.{proved_at, leaves}
use Rattle.rb_handle.proofs.PartsValues.{pair, Taken, parts_good, parts_out}
use Rattle.rb_handle.specs.BundleHandle.{stored}
use Rattle.rb_handle.proofs.BundleHandleValues.{Heap, laws, triple, prepared_in, handle_good}
use Rattle.rb_handle.specs.contracts.bundle_handle.BundleHandle.from_parts.{ended, clauses}
use Rattle.rb_handle.specs.contracts.bundle_handle.BundleHandle.from_parts.Key.{name as #self}
use Rattle.rb_handle.proofs.bundle_handle.BundleHandle.from_parts.Statement.{statement}
use Rattle.rb_handle.proofs.bundle_handle.BundleHandle.from_parts.Code as code

pub from_parts_spec : {M : Type 1} → statement M
from_parts_spec 𝓤 𝓛 𝓜 𝓡 wired =
    let H = 𝓛.H in let 𝓣 = tables 𝓤 H 𝓜 𝓡 𝓡.env in let End = ended in let says = clauses 𝓛 𝓜.mem 𝓡.returns in let fn = code.function in let Given : RattleType = Taken stored Heap laws ghosts in
    let stays : Stays End.signature.params End.kept = (stay_dropped (plain (λ _. Given)) yes, tt) in
    proved_at 𝓛 End stays says 𝓜 𝓡 (Goes-blank 𝓛 0 (plain (λ _. Given)) yes (λ κs x f. tt), tt) #self fn (code.unfolded 𝓤 H 𝓜 𝓡 wired) (λ z are.
    let κs = z.0.0 in let qs = z.0.1 in let v = z.0.3.0 in let Post : Val → SProp 𝓤 = (walk_of 𝓛 End stays says).post z in let Run : List Val → SProp 𝓤 = λ ws. WpFn 𝓤 H 𝓣.C 𝓣.Λ fn ws Post in
    qed 𝓛 ((raw (alive 𝓛 End.signature κs qs) ⊛ ‵ (owns (types_at End.signature.params κs) z.0.3 z.0.4)) ∷ raw ((says κs z.0.3).requires z.1) ∷ []) ∵ split ! $ move ! (1 ∷ []) $ fsplit ! $
    parts_out stored Heap laws ghosts ! v z.0.4.0 (λ b o h ws fits.
    let w : Val = pair (vptr b o) h in let typed = parts_good stored Heap laws ghosts b o h fits in let made = handle_good (block_ptr b o) h true fits in
    suffices ! (Run (w ∷ [])) (subst (λ (us : List Val). ent 𝓤 (Run (w ∷ [])) (Run us)) (sym (λ i. ws i ++ [])) (id⊢ 𝓤 (Run (w ∷ [])))) $
    enter ! 𝓣.C 𝓣.Λ fn (w ∷ []) Post $ alloc_all ! (λ l. pass_all ! refl (typed, tt) $
    sets ! (of_opd ! (get_in ! (fld ! refl (stop !)) (sub ! 0 refl (whole !)))) refl (tt, tt) $ sets ! (of_opd ! (get_in ! (fld ! refl (stop !)) (sub ! 1 refl (whole !)))) refl fits $
    sets ! (of_opd ! (get ! refl)) refl (tt, tt) $
    sets ! (agg ! (and_then ! (get ! refl) (and_then ! (get ! refl) (and_then ! (true_lit !) (no_more !))))) refl made $ prepared_in ! b o h v.alloc v.value $
    use0 𝓛 (raw (fact 𝓤 (Some v.value ≡ Some v.value))) (fact_i 𝓤 (Some v.value ≡ Some v.value) (emp 𝓤) refl) $ nothing ! $ nothing ! $ fjoin ! $
    returns ! (look_at ! 0 refl) $ free_all ! refl $ keep ! (4 ∷ 0 ∷ 2 ∷ 1 ∷ []) $ by ! (leaves 𝓛 End stays says z (triple (vptr b o) h (vbool true)) (record { at = block_ptr b o; alloc = v.alloc; is_prepared = true; file = Some v.value }) (tt, tt) (tt, tt)))))
