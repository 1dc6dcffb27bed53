use Rattle.std.proofs.Common.{Result, Ok, Err, refl, ap, sym, subst}
use Rattle.std.proofs.lemmas.Option.{IfSome_then}
use Rattle.rb_parents.specs.Family.{parent_of}
use Rattle.rb_views.specs.Seen.{tree_seen}
use Rattle.rb_views.specs.declared.item.Item.{Item}
use Rattle.rb_packages.specs.Lent.{bundles_lent}
use Rattle.rb_fallback.specs.Stops.{CountsTrail}
use Rattle.rb_fallback.specs.declared.found.Found.{Found}
use Rattle.rb_engine.specs.declared.request.LookFault.{LookFault}
use Rattle.rb_engine.proofs.Bounded.{found_within, fault_within, more_steps, found_is, fault_is}
use Rattle.rb_engine.proofs.Lookups.{IsTold}
use Rattle.rb_engine.proofs.open_locale.look_over.Goals as goal

pub returns-in-Ok-clause-within : goal.returns-in-Ok-clause-within
returns-in-Ok-clause-within c = λ n a.
    let w = rw c.in-Ok.is at (c.look_from.ensures.answer n a.stops (IfSome_then c.args.left a.names (λ _ h. subst (λ t. CountsTrail t (bundles_lent c.args.own) (parent_of c.args.parents.now) n) (sym c.names.ensures) h))) in
    found_within tree_seen tree_seen c.args.left (bundles_lent c.args.own) (bundles_lent c.args.icu) (parent_of c.args.parents.now) n c.args.path.now c.in-Ok.found w

pub returns-in-Ok-clause-found : goal.returns-in-Ok-clause-found
returns-in-Ok-clause-found c = λ n a.
    let w = rw c.in-Ok.is at (c.look_from.ensures.answer n a.stops (IfSome_then c.args.left a.names (λ _ h. subst (λ t. CountsTrail t (bundles_lent c.args.own) (parent_of c.args.parents.now) n) (sym c.names.ensures) h))) in
    let bad = rw c.in-Ok.is at c.look_from.ensures.bad_path.1 in
    let f = c.in-Ok.found in
    let m : Result (Found Item) LookFault = Ok f in
    let told : IsTold tree_seen tree_seen (Ok f) m = refl in
    let valid = rw c.in-Ok.is at (c.look_from.ensures.valid n a.stops) in
    found_is tree_seen tree_seen c.args.left (bundles_lent c.args.own) (bundles_lent c.args.icu) (parent_of c.args.parents.now) n c.args.path.now f m told bad w valid

pub returns-in-Err-Search-clause-within : goal.returns-in-Err-Search-clause-within
returns-in-Err-Search-clause-within c = λ n a.
    let w = rw (c.in-Err-Search.is, c.in-Err-Search.field-0-is) at (c.look_from.ensures.answer n a.stops (IfSome_then c.args.left a.names (λ _ h. subst (λ t. CountsTrail t (bundles_lent c.args.own) (parent_of c.args.parents.now) n) (sym c.names.ensures) h))) in
    fault_within tree_seen tree_seen c.args.left (bundles_lent c.args.own) (bundles_lent c.args.icu) (parent_of c.args.parents.now) n c.args.path.now c.in-Err-Search.error w

pub returns-in-Err-Search-clause-found : goal.returns-in-Err-Search-clause-found
returns-in-Err-Search-clause-found c = λ n a.
    let w = rw (c.in-Err-Search.is, c.in-Err-Search.field-0-is) at (c.look_from.ensures.answer n a.stops (IfSome_then c.args.left a.names (λ _ h. subst (λ t. CountsTrail t (bundles_lent c.args.own) (parent_of c.args.parents.now) n) (sym c.names.ensures) h))) in
    let bad = rw (c.in-Err-Search.is, c.in-Err-Search.field-0-is) at c.look_from.ensures.bad_path.1 in
    let e = c.in-Err-Search.error in
    let m : Result (Found Item) LookFault = Err c.from.result in
    let told : IsTold tree_seen tree_seen (Err e) m = ap Err c.from.ensures in
    fault_is tree_seen tree_seen c.args.left (bundles_lent c.args.own) (bundles_lent c.args.icu) (parent_of c.args.parents.now) n c.args.path.now e m told bad w

pub returns-in-Err-TooManySteps-clause-more : goal.returns-in-Err-TooManySteps-clause-more
returns-in-Err-TooManySteps-clause-more c = λ n a.
    let w = rw (c.in-Err-TooManySteps.is, c.in-Err-TooManySteps.field-0-is) at (c.look_from.ensures.answer n a.stops (IfSome_then c.args.left a.names (λ _ h. subst (λ t. CountsTrail t (bundles_lent c.args.own) (parent_of c.args.parents.now) n) (sym c.names.ensures) h))) in
    let bad = rw (c.in-Err-TooManySteps.is, c.in-Err-TooManySteps.field-0-is) at c.look_from.ensures.bad_path.1 in
    more_steps tree_seen tree_seen c.args.left (bundles_lent c.args.own) (bundles_lent c.args.icu) (parent_of c.args.parents.now) n c.args.path.now bad w
