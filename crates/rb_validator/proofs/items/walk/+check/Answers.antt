use Rattle.std.proofs.Common.{◌≡◌, ℕ, suc, ◌+◌, ◌-◌, ◌<◌, ◌≤◌, max, length, set, below_more, Ok, arith, sym, ap, subst, ◌∙◌, inr}
use Rattle.std.proofs.lemmas.Result.{err_from_is_err_and}
use Rattle.rb_tree.specs.Resource.{height}
use Rattle.rb_format.specs.declared.fault.FileFault.TheVariants.{TooDeep}
use Rattle.rb_format.specs.Item.{offset_of}
use Rattle.rb_format.specs.Place as fields
use Rattle.rb_format.specs.inner.FirstFault.{result_map, read}
use Rattle.rb_format.proofs.Faults.{read_zero, read_no_kind}
use Rattle.rb_validator.specs.declared.items.memo.VisitState.TheVariants.{Done}
use Rattle.rb_validator.specs.inner.Marks.{cell, mark_of, mark_at, children_at, IsMet, run_of}
use Rattle.rb_validator.proofs.Cells.{cell_low, follows_same, follows_then, known_after, leads_after}
use Rattle.rb_validator.proofs.Shapes.{leaf_height, fault_height, err_height, height_ok, height_err, children_err, children_fault, children_there}
use Rattle.rb_validator.proofs.Ways.{cycle_deep, leads_children, leads_first, leads_next}
use Rattle.rb_validator.proofs.Entering.{new_is, open_is, met_done, limit_fits, limit_passed, item_refused, item_bare, item_inner, items_none, items_stop}
use Rattle.rb_validator.proofs.Entering.{items_next, items_end, some_fault, entered_height, entered_after, opened_keeps, opened_met, read_low, max_is}
use Rattle.rb_validator.proofs.SpanHeights.{run_height, leads_shift, runs_set, run_low_err, run_high_err, run_both, run_fits, run_passed, leads_low, leads_high}
use Rattle.rb_validator.proofs.SpanHeights.{known_both, kept_run, made_run, runs_kept, runs_ready}
use Rattle.rb_validator.proofs.LeafRuns.{leaf_known, leaf_value}
use Rattle.rb_validator.proofs.Refusals.{told, passed, onward}
use Rattle.rb_validator.proofs.items.walk.+check.Goals as goal

-- ---- a pair that may have been met before

pub check_inner-returns-in-Open-clause-value : goal.check_inner-returns-in-Open-clause-value
check_inner-returns-in-Open-clause-value t c =
    let cells = c.args.state.now.memo in
    let is : mark_at cells c.args.kind (offset_of c.args.item) ≡ 65 = open_is _ (rw c.item_offset-offset.ensures at c.in-Open.ensures) in
    inr (sym (err_height _ TooDeep (cycle_deep c.args.body.layout.now c.args.body.bytes.now cells c.args.left c.args.item c.args.kind c.requires.leads c.requires.is_kind
    c.requires.there c.requires.inner is)))

pub check_inner-returns-then-height-left-clause-value : goal.check_inner-returns-then-height-left-clause-value
check_inner-returns-then-height-left-clause-value t c =
    let done : Done c.in-Done.height ≡ mark_of (mark_at c.args.state.now.memo c.args.kind (offset_of c.args.item)) =
    rw c.item_offset-offset.ensures at c.in-Done.ensures in
    let is = met_done c.args.body.layout.now c.args.body.bytes.now c.args.state.now.memo c.args.left c.args.item c.in-Done.height c.args.kind c.requires.keeps
    c.requires.is_kind c.requires.there c.requires.inner done in
    inr (sym (is ∙ limit_fits c.args.left c.in-Done.height (omega arith)))

pub check_inner-returns-else-height-left-clause-value : goal.check_inner-returns-else-height-left-clause-value
check_inner-returns-else-height-left-clause-value t c =
    let done : Done c.in-Done.height ≡ mark_of (mark_at c.args.state.now.memo c.args.kind (offset_of c.args.item)) =
    rw c.item_offset-offset.ensures at c.in-Done.ensures in
    let is = met_done c.args.body.layout.now c.args.body.bytes.now c.args.state.now.memo c.args.left c.args.item c.in-Done.height c.args.kind c.requires.keeps
    c.requires.is_kind c.requires.there c.requires.inner done in
    inr (sym (is ∙ limit_passed c.args.left c.in-Done.height (omega arith)))

-- ---- an item

pub check_item-returns-then-left-eq0-clause-value : goal.check_item-returns-then-left-eq0-clause-value
check_item-returns-then-left-eq0-clause-value t c = inr (sym (ap (result_map height)
    (read_zero c.args.body.layout.now c.args.body.bytes.now c.args.left c.args.item c.if-left-eq0.true)))

pub check_item-returns-in_err-check_offset-in-Some-clause-value : goal.check_item-returns-in_err-check_offset-in-Some-clause-value
check_item-returns-in_err-check_offset-in-Some-clause-value t c =
    let p = err_from_is_err_and c.from_residual.result c.from_residual.ensures.1 in
    let w = rw c.item_offset-offset.ensures at c.in_err-check_offset-in-Some.ensures in
    rw (p.1, p.2) (inr (sym (item_refused c.args.body.layout.now c.args.body.bytes.now c.args.left c.args.item c.in-Some.kind _ (omega arith) (sym c.in-Some.ensures) w)))

pub check_item-returns-then-not-branch-clause-value : goal.check_item-returns-then-not-branch-clause-value
check_item-returns-then-not-branch-clause-value t c =
    let w = rw (c.item_offset-offset.ensures, c.if-not-branch.true) at c.in_ok-check_offset-in-Some.ensures in
    inr (sym (item_bare c.args.body.layout.now c.args.body.bytes.now c.args.left c.args.item c.in-Some.kind (omega arith) (sym c.in-Some.ensures) w))

pub check_item-returns-in_err-check_leaf-in-Some-clause-value : goal.check_item-returns-in_err-check_leaf-in-Some-clause-value
check_item-returns-in_err-check_leaf-in-Some-clause-value t c =
    let y = c.args.body.layout.now in let body = c.args.body.bytes.now in
    let p = err_from_is_err_and c.from_residual-in_err-check_leaf-in-Some.result c.from_residual-in_err-check_leaf-in-Some.ensures.1 in
    let w = rw (c.item_offset-offset.ensures, c.if-not-branch.false) at c.in_ok-check_offset-in-Some.ensures in
    let f = rw c.item_offset-offset.ensures at (c.in_err-check_leaf-in-Some.ensures (λ w. read y body (c.args.left - 1) w)) in
    rw (p.1, p.2) (inr (sym (ap (result_map height) (item_inner y body c.args.left c.args.item c.in-Some.kind (omega arith) (sym c.in-Some.ensures) (sym w))
    ∙ fault_height _ _ (sym f))))

pub check_item-returns-then-has_children-clause-value : goal.check_item-returns-then-has_children-clause-value
check_item-returns-then-has_children-clause-value t c =
    let y = c.args.body.layout.now in let body = c.args.body.bytes.now in
    let w = rw (c.item_offset-offset.ensures, c.if-not-branch.false) at c.in_ok-check_offset-in-Some.ensures in
    onward _ _ _ c.check_inner.ensures.value (sym (ap (result_map height)
    (item_inner y body c.args.left c.args.item c.in-Some.kind (omega arith) (sym c.in-Some.ensures) (sym w))))

pub check_item-returns-in_ok-check_leaf-in-Some-clause-value : goal.check_item-returns-in_ok-check_leaf-in-Some-clause-value
check_item-returns-in_ok-check_leaf-in-Some-clause-value t c =
    let y = c.args.body.layout.now in let body = c.args.body.bytes.now in
    let w = rw (c.item_offset-offset.ensures, c.if-not-branch.false) at c.in_ok-check_offset-in-Some.ensures in
    let f = rw c.item_offset-offset.ensures at (c.in_ok-check_leaf-in-Some.ensures (λ w. read y body (c.args.left - 1) w)) in
    let leaf = sym c.has_children.ensures ∙ c.if-has_children.false in
    inr (sym (ap (result_map height) (item_inner y body c.args.left c.args.item c.in-Some.kind (omega arith) (sym c.in-Some.ensures) (sym w))
    ∙ leaf_height y body (λ w. read y body (c.args.left - 1) w) (offset_of c.args.item) c.in-Some.kind leaf (sym f)))

pub check_item-returns-in-None-clause-value : goal.check_item-returns-in-None-clause-value
check_item-returns-in-None-clause-value t c = inr (sym (ap (result_map height)
    (read_no_kind c.args.body.layout.now c.args.body.bytes.now c.args.left c.args.item (omega arith) (sym c.in-None.ensures))))

-- ---- several items, one by one

pub check_items-loop-i-init : goal.check_items-loop-i-init
check_items-loop-i-init t c =
    let y = c.args.body.layout.now in let body = c.args.body.bytes.now in
    let all : c.args.items.first + c.args.items.count - c.args.items.first ≡ c.args.items.count = omega arith in
    record {
      value = rw all (items_none (run_of y body c.args.left c.args.items.first c.args.items.count));
      low = omega arith;
      sound = c.requires.sound;
      after = record { keeps = c.requires.keeps; follows = follows_same c.args.state.now.memo };
      holds = runs_ready y body c.args.state.now.memo c.args.state.now.runs c.is_plain.new.self c.requires.holds c.is_plain.ensures.runs;
      known = λ j h l. absurd (omega arith);
      leads = rw all c.requires.leads;
    }

pub check_items-check_item-requires : goal.check_items-check_item-requires
check_items-check_item-requires t c =
    let y = c.args.body.layout.now in let body = c.args.body.bytes.now in let i = c.loop-i.i in
    let item = fields.word_at body in
    let end = c.args.items.first + c.args.items.count in
    let here : c.args.items.first + (i - c.args.items.first) ≡ i = omega arith in
    let met = subst (λ (x : ℕ). IsMet body (item x)) here (c.requires.met (i - c.args.items.first) (omega arith)) in
    let step : end - i ≡ suc (end - (i + 1)) = omega arith in (
      omega arith,
      (
        c.requires.room,
        (
          c.requires.tops,
          (
            omega arith,
            (
              rw c.word_at.ensures met,
              (
                c.loop-i.invariant.sound,
                (
                  c.loop-i.invariant.after.keeps,
                  (
                    c.loop-i.invariant.holds,
                    rw c.word_at.ensures (leads_first y body c.loop-i.state.memo item i (end - i) (end - (i + 1)) step c.loop-i.invariant.leads),
                  ),
                ),
              ),
            ),
          ),
        ),
      ),
    )

pub check_items-returns-in_err-child-clause-value : goal.check_items-returns-in_err-child-clause-value
check_items-returns-in_err-child-clause-value t c =
    let y = c.args.body.layout.now in let body = c.args.body.bytes.now in let i = c.loop-i.i in
    let end = c.args.items.first + c.args.items.count in
    let p = err_from_is_err_and c.from_residual.result c.from_residual.ensures.1 in
    let step : end - i ≡ suc (end - (i + 1)) = omega arith in
    let v = rw c.word_at.ensures at c.in_err-child.ensures.value in
    rw (p.1, p.2) (passed _ _ _ (λ e. sym (items_stop (λ w. read y body c.args.left w) (fields.word_at body) i (end - i)
    (end - (i + 1)) c.loop-i.height _ _ step (height_err _ _ (sym e)) c.loop-i.invariant.value)) v)

pub check_items-loop-i-preserved : goal.check_items-loop-i-preserved
check_items-loop-i-preserved t c =
    let y = c.args.body.layout.now in let body = c.args.body.bytes.now in let i = c.loop-i.i in
    let item = fields.word_at body in
    let end = c.args.items.first + c.args.items.count in
    let step : end - i ≡ suc (end - (i + 1)) = omega arith in
    let next : i + 1 ≡ suc i = omega arith in
    let v = told _ _ (rw c.word_at.ensures at c.in_ok-child.ensures.value) in
    let tree = height_ok (read y body c.args.left (item i)) c.in_ok-child.child (sym v) in
    let low : c.in_ok-child.child ≤ c.args.left = read_low y body c.args.left (item i) tree.0 c.in_ok-child.child tree.1 tree.2 in
    let m : c.max-height.result ≡ max c.loop-i.height c.in_ok-child.child = c.max-height.ensures ∙ max_is c.loop-i.height c.in_ok-child.child in
    let a = c.in_ok-child.ensures.after in
    let k = rw c.word_at.ensures at c.in_ok-child.ensures.known in
    record {
      value = rw m (items_next (λ w. read y body c.args.left w) item i (end - i) (i + 1)
          (end - (i + 1)) c.loop-i.height c.in_ok-child.child tree.0 _ step next tree.1 tree.2 c.loop-i.invariant.value);
      low = omega arith;
      sound = c.in_ok-child.ensures.sound;
      after = record { keeps = a.keeps; follows = follows_then _ _ _ c.loop-i.invariant.after.follows a.follows };
      holds = c.in_ok-child.ensures.holds;
      known = below_more _ _ (λ j h l. known_after _ _ _ a.follows (c.loop-i.invariant.known j h l)) (λ l. k);
      leads = leads_next y body _ c.args.left item i (end - i) (i + 1) (end - (i + 1)) tree.0 step next tree.1
          (leads_after y body _ _ _ a.follows c.loop-i.invariant.leads);
    }

pub check_items-returns-then-is_plain-clause-value : goal.check_items-returns-then-is_plain-clause-value
check_items-returns-then-is_plain-clause-value t c =
    let y = c.args.body.layout.now in let body = c.args.body.bytes.now in let i = c.loop-i.i in
    let none : c.args.items.first + c.args.items.count - i ≡ 0 = omega arith in
    inr (items_end (λ w. read y body c.args.left w) (fields.word_at body) i (c.args.items.first + c.args.items.count - i) c.loop-i.height _ none c.loop-i.invariant.value)

-- ---- several items, of which it is known that they are leaves

pub check_items-returns-then-are_leaves-clause-value : goal.check_items-returns-then-are_leaves-clause-value
check_items-returns-then-are_leaves-clause-value t c =
    let y = c.args.body.layout.now in let body = c.args.body.bytes.now in
    let ready = runs_ready y body c.args.state.now.memo c.args.state.now.runs c.is_plain.new.self c.requires.holds c.is_plain.ensures.runs in
    inr (leaf_value y body c.args.left c.args.items.first c.args.items.count (omega arith) (c.are_leaves.ensures.some c.if-are_leaves.true)
    (c.are_leaves.ensures.leaves c.if-are_leaves.true y body ready.leaves))

pub check_items-returns-then-are_leaves-clause-holds : goal.check_items-returns-then-are_leaves-clause-holds
check_items-returns-then-are_leaves-clause-holds t c =
    runs_ready c.args.body.layout.now c.args.body.bytes.now c.args.state.now.memo c.args.state.now.runs c.is_plain.new.self c.requires.holds c.is_plain.ensures.runs

pub check_items-returns-then-are_leaves-clause-known : goal.check_items-returns-then-are_leaves-clause-known
check_items-returns-then-are_leaves-clause-known t c =
    let y = c.args.body.layout.now in let body = c.args.body.bytes.now in
    let ready = runs_ready y body c.args.state.now.memo c.args.state.now.runs c.is_plain.new.self c.requires.holds c.is_plain.ensures.runs in
    leaf_known y body c.args.state.now.memo c.args.items.first c.args.items.count (c.are_leaves.ensures.leaves c.if-are_leaves.true y body ready.leaves)

-- ---- several items, in two parts

pub check_items-returns-then-height-left-clause-value : goal.check_items-returns-then-height-left-clause-value
check_items-returns-then-height-left-clause-value t c =
    let y = c.args.body.layout.now in let body = c.args.body.bytes.now in let from = c.args.items.first in let n = c.args.items.count in
    let ready = runs_ready y body c.args.state.now.memo c.args.state.now.runs c.is_plain.new.self c.requires.holds c.is_plain.ensures.runs in
    inr (run_fits y body c.args.state.now.memo c.args.left from n c.in-Some.height
    (kept_run y body c.args.state.now.memo c.is_plain.new.self c.split-parts.result.slot from n c.in-Some.height ready c.in-Some.ensures.0 c.in-Some.ensures.1) (omega arith))

pub check_items-returns-then-height-left-clause-known : goal.check_items-returns-then-height-left-clause-known
check_items-returns-then-height-left-clause-known t c =
    let y = c.args.body.layout.now in let body = c.args.body.bytes.now in let from = c.args.items.first in let n = c.args.items.count in
    let ready = runs_ready y body c.args.state.now.memo c.args.state.now.runs c.is_plain.new.self c.requires.holds c.is_plain.ensures.runs in
    (kept_run y body c.args.state.now.memo c.is_plain.new.self c.split-parts.result.slot from n c.in-Some.height ready c.in-Some.ensures.0 c.in-Some.ensures.1).known

pub check_items-returns-in-Some-clause-value : goal.check_items-returns-in-Some-clause-value
check_items-returns-in-Some-clause-value t c =
    let y = c.args.body.layout.now in let body = c.args.body.bytes.now in let from = c.args.items.first in let n = c.args.items.count in
    let ready = runs_ready y body c.args.state.now.memo c.args.state.now.runs c.is_plain.new.self c.requires.holds c.is_plain.ensures.runs in
    inr (run_passed y body c.args.state.now.memo c.args.left from n c.in-Some.height
    (kept_run y body c.args.state.now.memo c.is_plain.new.self c.split-parts.result.slot from n c.in-Some.height ready c.in-Some.ensures.0 c.in-Some.ensures.1) (omega arith))

pub check_items-check_items-requires : goal.check_items-check_items-requires
check_items-check_items-requires t c =
    let y = c.args.body.layout.now in let body = c.args.body.bytes.now in let from = c.args.items.first in let n = c.args.items.count in
    let mid = c.split-parts.result.middle in let m = mid - from in
    let part : m ≤ n = omega arith in
    let q : mid ≡ from + m = omega arith in
    let ready = runs_ready y body c.args.state.now.memo c.args.state.now.runs c.is_plain.new.self c.requires.holds c.is_plain.ensures.runs in (
      omega arith,
      (
        c.requires.room,
        (
          c.requires.tops,
          (
            c.requires.small,
            (
              omega arith,
              (
                (λ i l. c.requires.met i (omega arith)),
                (
                  c.requires.sound,
                  (
                    c.requires.keeps,
                    (
                      ready,
                      leads_low y body c.args.state.now.memo from m n part c.requires.leads,
                    ),
                  ),
                ),
              ),
            ),
          ),
        ),
      ),
    )

pub check_items-returns-in_err-low-clause-value : goal.check_items-returns-in_err-low-clause-value
check_items-returns-in_err-low-clause-value t c =
    let y = c.args.body.layout.now in let body = c.args.body.bytes.now in let from = c.args.items.first in let n = c.args.items.count in
    let mid = c.split-parts.result.middle in let m = mid - from in
    let part : m ≤ n = omega arith in
    let q : mid ≡ from + m = omega arith in
    let p = err_from_is_err_and c.from_residual-in_err-low.result c.from_residual-in_err-low.ensures.1 in
    rw (p.1, p.2) (passed _ _ _ (λ e. run_low_err y body c.args.left from m n _ part e) c.in_err-low.ensures.value)

pub check_items-check_items-requires-2 : goal.check_items-check_items-requires-2
check_items-check_items-requires-2 t c =
    let y = c.args.body.layout.now in let body = c.args.body.bytes.now in let from = c.args.items.first in let n = c.args.items.count in
    let mid = c.split-parts.result.middle in let m = mid - from in
    let part : m ≤ n = omega arith in
    let q : mid ≡ from + m = omega arith in
    let a = c.in_ok-low.ensures.after in
    let met = λ (i : ℕ) (l : i < n - m). let s : from + (m + i) ≡ mid + i = omega arith in
    subst (λ (x : ℕ). IsMet body (fields.word_at body x)) s (c.requires.met (m + i) (omega arith)) in (
      omega arith,
      (
        c.requires.room,
        (
          c.requires.tops,
          (
            c.requires.small,
            (
              omega arith,
              (
                met,
                (
                  c.in_ok-low.ensures.sound,
                  (
                    a.keeps,
                    (
                      c.in_ok-low.ensures.holds,
                      leads_high y body _ c.args.left from m n mid c.in_ok-low.low part q (told _ _ c.in_ok-low.ensures.value)
                          (leads_after y body _ _ _ a.follows c.requires.leads),
                    ),
                  ),
                ),
              ),
            ),
          ),
        ),
      ),
    )

pub check_items-returns-in_err-high-clause-value : goal.check_items-returns-in_err-high-clause-value
check_items-returns-in_err-high-clause-value t c =
    let y = c.args.body.layout.now in let body = c.args.body.bytes.now in let from = c.args.items.first in let n = c.args.items.count in
    let mid = c.split-parts.result.middle in let m = mid - from in
    let part : m ≤ n = omega arith in
    let q : mid ≡ from + m = omega arith in
    let p = err_from_is_err_and c.from_residual-in_err-high.result c.from_residual-in_err-high.ensures.1 in
    rw (p.1, p.2) (passed _ _ _ (λ e. run_high_err y body c.args.left from m n mid c.in_ok-low.low _ part q
    (told _ _ c.in_ok-low.ensures.value) e) c.in_err-high.ensures.value)

pub check_items-returns-clause-value : goal.check_items-returns-clause-value
check_items-returns-clause-value t c =
    let y = c.args.body.layout.now in let body = c.args.body.bytes.now in let from = c.args.items.first in let n = c.args.items.count in
    let mid = c.split-parts.result.middle in let m = mid - from in
    let part : m ≤ n = omega arith in
    let q : mid ≡ from + m = omega arith in
    let high : c.max-height-2.result ≡ max c.in_ok-low.low c.in_ok-high.high = c.max-height-2.ensures in
    inr (ap Ok high ∙ (run_both y body c.args.left from m n mid c.in_ok-low.low c.in_ok-high.high part q
    (told _ _ c.in_ok-low.ensures.value) (told _ _ c.in_ok-high.ensures.value)))

pub check_items-returns-clause-known : goal.check_items-returns-clause-known
check_items-returns-clause-known t c =
    let y = c.args.body.layout.now in let body = c.args.body.bytes.now in let from = c.args.items.first in let n = c.args.items.count in
    let mid = c.split-parts.result.middle in let m = mid - from in
    let part : m ≤ n = omega arith in
    let q : mid ≡ from + m = omega arith in
    known_both body c.check_items-2.new.state.memo from m n mid q (λ i l. known_after _ _ _ c.in_ok-high.ensures.after.follows
    (c.in_ok-low.ensures.known i l)) c.in_ok-high.ensures.known

pub check_items-returns-clause-holds : goal.check_items-returns-clause-holds
check_items-returns-clause-holds t c =
    let y = c.args.body.layout.now in let body = c.args.body.bytes.now in let from = c.args.items.first in let n = c.args.items.count in
    let cells = c.check_items-2.new.state.memo in
    let run = made_run y body cells c.args.left from n c.max-height-2.result (told _ _ (check_items-returns-clause-value t c)) (check_items-returns-clause-known t c) in
    runs_kept y body cells c.check_items-2.new.state.runs c.keep.new.self _ from n c.max-height-2.result c.in_ok-high.ensures.holds run
    (c.keep.ensures.nested y body cells) c.keep.ensures.others c.keep.ensures.kept

-- ---- an entry

pub check_inner-returns-in_err-found-in-New-clause-value : goal.check_inner-returns-in_err-found-in-New-clause-value
check_inner-returns-in_err-found-in-New-clause-value t c =
    let y = c.args.body.layout.now in let body = c.args.body.bytes.now in
    let p = err_from_is_err_and c.from_residual.result c.from_residual.ensures.1 in
    let v = rw c.item_offset-offset.ensures at c.in_err-found-in-New.ensures.value in
    rw (p.1, p.2) (passed _ _ _ (λ e. sym (err_height _ _ (children_err y body (λ w. read y body c.args.left w) c.args.kind (offset_of c.args.item) _
    c.requires.inner (sym e)))) v)

pub check_inner-check_items-requires : goal.check_inner-check_items-requires
check_inner-check_items-requires t c =
    let y = c.args.body.layout.now in let body = c.args.body.bytes.now in let o = offset_of c.args.item in let k = c.args.kind in
    let cells = c.args.state.now.memo in
    let inside : cell k o < length cells = rw c.requires.keeps.long (cell_low k o y.top c.requires.below) in
    let there : Ok c.in_ok-found-in-New.found ≡ children_at y body k o =
    told _ _ (rw c.item_offset-offset.ensures at c.in_ok-found-in-New.ensures.value) in
    let at = children_there y body k o c.in_ok-found-in-New.found c.requires.inner (sym there) in
    let new : c.enter.new.self ≡ set cells (cell k o) 65 = rw c.item_offset-offset.ensures at c.enter.ensures in (
      omega arith,
      (
        c.requires.room,
        (
          c.requires.tops,
          (
            c.requires.small,
            (
              at.low,
              (
                opened_met y body c.args.item k c.in_ok-found-in-New.found c.requires.met c.requires.is_kind c.requires.inner c.requires.full there,
                (
                  c.in_ok-found-in-New.ensures.sound,
                  (
                    rw new (opened_keeps y body cells c.args.item k c.requires.keeps c.requires.met c.requires.is_kind c.requires.inner c.requires.full inside),
                    (
                      rw new (runs_set y body cells (cell k o) 65 c.args.state.now.runs (λ z. omega arith) inside c.requires.holds),
                      rw new (leads_shift y body (set cells (cell k o) 65) c.in_ok-found-in-New.found.first c.in_ok-found-in-New.found.count
                          (leads_children y body cells c.args.item k c.in_ok-found-in-New.found c.requires.leads c.requires.is_kind c.requires.there
                          c.requires.inner inside (sym there))),
                    ),
                  ),
                ),
              ),
            ),
          ),
        ),
      ),
    )

pub check_inner-returns-in_err-below-in-New-clause-value : goal.check_inner-returns-in_err-below-in-New-clause-value
check_inner-returns-in_err-below-in-New-clause-value t c =
    let y = c.args.body.layout.now in let body = c.args.body.bytes.now in let o = offset_of c.args.item in let k = c.args.kind in
    let p = err_from_is_err_and c.from_residual-in_err-below-in-New.result c.from_residual-in_err-below-in-New.ensures.1 in
    let there : Ok c.in_ok-found-in-New.found ≡ children_at y body k o =
    told _ _ (rw c.item_offset-offset.ensures at c.in_ok-found-in-New.ensures.value) in
    let found = c.in_ok-found-in-New.found in
    rw (p.1, p.2) (passed _ _ _ (λ e. sym (err_height _ _ (children_fault y body (λ w. read y body c.args.left w) k o found _ c.requires.inner (sym there)
    (some_fault _ _ (run_height y body c.args.left _ _ _ e))))) c.in_err-below-in-New.ensures.value)

pub check_inner-returns-in_ok-below-in-New-clause-value : goal.check_inner-returns-in_ok-below-in-New-clause-value
check_inner-returns-in_ok-below-in-New-clause-value t c =
    let y = c.args.body.layout.now in let body = c.args.body.bytes.now in let o = offset_of c.args.item in let k = c.args.kind in
    let there : Ok c.in_ok-found-in-New.found ≡ children_at y body k o =
    told _ _ (rw c.item_offset-offset.ensures at c.in_ok-found-in-New.ensures.value) in
    inr (sym (entered_height y body (λ w. read y body c.args.left w) k o c.in_ok-below-in-New.below c.in_ok-found-in-New.found c.requires.inner there
    (run_height y body c.args.left _ _ _ (told _ _ c.in_ok-below-in-New.ensures.value))))

pub check_inner-returns-in_ok-below-in-New-clause-after : goal.check_inner-returns-in_ok-below-in-New-clause-after
check_inner-returns-in_ok-below-in-New-clause-after t c =
    let y = c.args.body.layout.now in let body = c.args.body.bytes.now in let o = offset_of c.args.item in let k = c.args.kind in
    let cells = c.args.state.now.memo in
    let inside : cell k o < length cells = rw c.requires.keeps.long (cell_low k o y.top c.requires.below) in
    let there : Ok c.in_ok-found-in-New.found ≡ children_at y body k o =
    told _ _ (rw c.item_offset-offset.ensures at c.in_ok-found-in-New.ensures.value) in
    let new : c.enter.new.self ≡ set cells (cell k o) 65 = rw c.item_offset-offset.ensures at c.enter.ensures in
    let a = rw new at c.in_ok-below-in-New.ensures.after in
    let low = c.in_ok-below-in-New.ensures.low in
    let fresh : mark_at cells k o ≡ 0 = new_is _ (rw c.item_offset-offset.ensures at c.in-New.ensures) in
    let below = c.in_ok-below-in-New.below in
    rw (c.finish.ensures, c.item_offset-offset.ensures) (entered_after y body cells c.check_items.new.state.memo c.args.left c.args.item k below
    c.in_ok-found-in-New.found c.requires.keeps c.requires.met c.requires.is_kind c.requires.inner c.requires.full inside fresh there
    (run_height y body c.args.left _ _ _ (told _ _ c.in_ok-below-in-New.ensures.value)) (omega arith) a c.in_ok-below-in-New.ensures.known)

pub check_inner-returns-in_ok-below-in-New-clause-holds : goal.check_inner-returns-in_ok-below-in-New-clause-holds
check_inner-returns-in_ok-below-in-New-clause-holds t c =
    let y = c.args.body.layout.now in let body = c.args.body.bytes.now in let o = offset_of c.args.item in let k = c.args.kind in
    let a = c.in_ok-below-in-New.ensures.after in
    let inside : cell k o < length c.check_items.new.state.memo = rw a.keeps.long (cell_low k o y.top c.requires.below) in
    rw (c.finish.ensures, c.item_offset-offset.ensures) (runs_set y body c.check_items.new.state.memo (cell k o)
    (c.in_ok-below-in-New.below + 1) c.check_items.new.state.runs (λ z. omega arith) inside c.in_ok-below-in-New.ensures.holds)
