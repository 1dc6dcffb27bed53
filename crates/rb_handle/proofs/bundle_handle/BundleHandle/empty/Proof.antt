-- Proves `empty`: a discarded handle owns nothing at its pointer.
use Rattle.std.proofs.Common.{◌≡◌, List, [], ◌∷◌, ◌++◌, Option, None, ℕ, refl, sym, subst}
use mathlib.Core.Bool.{false}
use mir.Val.{Val, vbool}
use base.Logic.{SProp, ent, emp, id⊢}
use prog.Wp.{WpFn}
use types.Kit.{‵, raw, ◌⊛◌, ◌$◌, ◌∵◌, !, qed, by, move, keep, drop, split, fsplit3, fjoin, suffices, use0, rewrite}
use types.Run.{false_lit, no_more, and_then, returns, enter}
use types.ByLocal.{alloc_all, pass_all, free_all, look_at, get, sets}
use types.Part.{agg}
use contract.Monad.{fact, fact_i}
use contract.Running.{tables}
use denote.Exit.{yes}
use denote.RattleType.{owns}
use denote.Signature.{types_at, plain}
use denote.RawPtr.{RawPtr, ptr_val, rawptr_Lawful}
use denote.Steps.{nothing}
use denote.Param.{layout}
use denote.Triple.Entry.{alive}
use denote.Triple.Walked.{Stays, stay_dropped, walk_of, Goes-dropped}
use Rattle.core.proofs.cell.Inside.{one}
use Rattle.std.proofs.raw_atomic.Walks.{proved_at, leaves}
use Rattle.rb_handle.specs.BundleHandle.{stored}
use Rattle.rb_handle.proofs.BundleHandleValues.{Heap, laws, triple, discarded_in, handle_good}
use Rattle.rb_handle.specs.contracts.bundle_handle.BundleHandle.empty.{ended, clauses}
use Rattle.rb_handle.specs.contracts.bundle_handle.BundleHandle.empty.Key.{name as #self}
use Rattle.rb_handle.proofs.bundle_handle.BundleHandle.empty.Statement.{statement}
use Rattle.rb_handle.proofs.bundle_handle.BundleHandle.empty.Code as code

pub empty_spec : {M : Type 1} → statement M
empty_spec 𝓤 𝓛 𝓜 𝓡 wired =
    let H = 𝓛.H in let 𝓣 = tables 𝓤 H 𝓜 𝓡 𝓡.env in let End = ended in let says = clauses 𝓛 𝓜.mem 𝓡.returns in let fn = code.function in
    let stays : Stays End.signature.params End.kept = (stay_dropped (plain (λ _. RawPtr)) yes, (stay_dropped (plain (λ _. Heap)) yes, tt)) in
    proved_at 𝓛 End stays says 𝓜 𝓡 (Goes-dropped 𝓛 0 (plain (λ _. RawPtr)) yes (λ κs x f. refl), (Goes-dropped 𝓛 0 (plain (λ _. Heap)) yes (λ κs x f. refl), tt)) #self fn (code.unfolded 𝓤 H 𝓜 𝓡 wired) (λ z are.
    let κs = z.0.0 in let qs = z.0.1 in let p = z.0.3.0 in let a = z.0.3.1.0 in let Post : Val → SProp 𝓤 = (walk_of 𝓛 End stays says).post z in let Run : List Val → SProp 𝓤 = λ ws. WpFn 𝓤 H 𝓣.C 𝓣.Λ fn ws Post in
    let h = one (layout Heap) z.0.4.1.0 ((laws.lawful 𝓛).typed a z.0.4.1.0 are.1.0) in let none : Option stored.Denot = None in
    qed 𝓛 ((raw (alive 𝓛 End.signature κs qs) ⊛ ‵ (owns (types_at End.signature.params κs) z.0.3 z.0.4)) ∷ raw ((says κs z.0.3).requires z.1) ∷ []) ∵ split ! $ move ! (1 ∷ []) $ fsplit3 ! $ drop ! $
    rewrite ! 0 (λ (us : List Val). ‵ (Heap.own_val a us)) h.1 refl $
    suffices ! (Run (ptr_val p ∷ h.0 ∷ [])) (subst (λ (us : List Val). ent 𝓤 (Run (ptr_val p ∷ h.0 ∷ [])) (Run us)) (sym (λ i. are.0 i ++ (h.1 i ++ []))) (id⊢ 𝓤 (Run (ptr_val p ∷ h.0 ∷ [])))) $
    enter ! 𝓣.C 𝓣.Λ fn (ptr_val p ∷ h.0 ∷ []) Post $ alloc_all ! (λ l. pass_all ! refl (((rawptr_Lawful 𝓛).typed p (ptr_val p ∷ []) refl).0, (h.2, tt)) $
    sets ! (agg ! (and_then ! (get ! refl) (and_then ! (get ! refl) (and_then ! (false_lit !) (no_more !))))) refl (handle_good p h.0 false h.2) $ discarded_in ! p h.0 a $
    use0 𝓛 (raw (fact 𝓤 (none ≡ none))) (fact_i 𝓤 (none ≡ none) (emp 𝓤) refl) $ nothing ! $ nothing ! $ fjoin ! $ nothing ! $ fjoin ! $
    returns ! (look_at ! 0 refl) $ free_all ! refl $ keep ! (4 ∷ 0 ∷ 2 ∷ 1 ∷ []) $ by ! (leaves 𝓛 End stays says z (triple (ptr_val p) h.0 (vbool false)) (record { at = p; alloc = a; is_prepared = false; file = none }) (tt, (tt, tt)) (tt, (tt, tt)))))
