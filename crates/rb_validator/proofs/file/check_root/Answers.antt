use Rattle.std.proofs.Common.{◌≡◌, ◌≢◌, ◌*◌, ℕ, [], get_or, length, ap, subst}
use Rattle.rb_format.specs.declared.layout.Layout.{Layout}
use Rattle.rb_format.specs.Place.{word_at}
use Rattle.rb_validator.specs.Visits.{IsCount, IsPlaceAt}
use Rattle.rb_validator.specs.inner.Marks.{IsKnown, marked}
use Rattle.rb_validator.proofs.Counts.{count_places}
use Rattle.rb_validator.proofs.SpanHeights.{runs_none}
use Rattle.rb_validator.proofs.file.check_root.Goals as goal

pub check_item-requires-clause-holds : goal.check_item-requires-clause-holds
check_item-requires-clause-holds c =
    runs_none c.args.body.layout.now c.args.body.bytes.now c.args.state.now.memo c.args.state.now.runs c.requires.fresh.kept c.requires.fresh.leaves
    c.requires.fresh.nested

pub check_item-requires-clause-met : goal.check_item-requires-clause-met
check_item-requires-clause-met c = record { before = []; way = c.requires.root }

pub returns-clause-visits : goal.returns-clause-visits
returns-clause-visits c =
    let body = c.args.body.bytes.now in let y = c.args.body.layout.now in
    let cells = c.check_item.new.state.memo in
    let a = c.in_ok-height.ensures.after in
    let closed : (n : ℕ) → get_or cells n 0 ≢ 65 = λ n. a.follows.closes n (c.requires.fresh.fresh n) in
    let root : IsKnown cells (word_at body 0) = rw (← c.requires.root) c.in_ok-height.ensures.known in
    let top : y.top ≡ word_at body 4 = ap (λ (l : Layout). l.top) c.requires.layout in
    subst (λ (t : ℕ). IsCount (IsPlaceAt body) (3 * t) (marked cells (length cells))) top (count_places y body cells a.keeps closed root)
