use Rattle.std.proofs.Common.{◌≡◌, Err, ap, sym, ◌∙◌, subst}
use Rattle.std.proofs.lemmas.Option.{IfSome_then}
use Rattle.rb_parents.specs.Family.{parent_of}
use Rattle.rb_views.specs.Seen.{tree_seen}
use Rattle.rb_packages.specs.Lent.{bundles_lent}
use Rattle.rb_fallback.specs.FoundNode.{IsNodeOf}
use Rattle.rb_fallback.specs.Stops.{CountsTrail}
use Rattle.rb_engine.specs.Answer.{lookup_in}
use Rattle.rb_engine.specs.LookResponse.{look_response}
use Rattle.rb_engine.proofs.Finding.{IsGiven, exceeding, fault_found, fault_kept, node_found, node_within}
use Rattle.rb_engine.proofs.open_locale.find_over.Goals as goal

pub returns-in-Ok-clause-within : goal.returns-in-Ok-clause-within
returns-in-Ok-clause-within c = λ n a.
    let own = bundles_lent c.args.own in
    let icu = bundles_lent c.args.icu in
    let ps = parent_of c.args.parents.now in
    let k = c.find_from.ensures.found in
    let counted = IfSome_then c.args.left a.names (λ _ h. subst (λ t. CountsTrail t own ps n) (sym c.names.ensures) h) in
    let given : IsGiven tree_seen c.args.left own icu ps n c.args.path.now k.found =
    record { refused = k.known.0.1; answer = k.known.1 n a.stops counted; valid = k.known.2 n a.stops } in
    node_within tree_seen c.args.left own icu ps n c.args.path.now k.found c.in-Ok.item (sym c.in-Ok.is ∙ k.is) given

pub returns-in-Ok-clause-found : goal.returns-in-Ok-clause-found
returns-in-Ok-clause-found c = λ n a.
    let own = bundles_lent c.args.own in
    let icu = bundles_lent c.args.icu in
    let ps = parent_of c.args.parents.now in
    let k = c.find_from.ensures.found in
    let counted = IfSome_then c.args.left a.names (λ _ h. subst (λ t. CountsTrail t own ps n) (sym c.names.ensures) h) in
    let given : IsGiven tree_seen c.args.left own icu ps n c.args.path.now k.found =
    record { refused = k.known.0.1; answer = k.known.1 n a.stops counted; valid = k.known.2 n a.stops } in
    node_found tree_seen c.args.left own icu ps n c.args.path.now k.found c.in-Ok.item (sym c.in-Ok.is ∙ k.is) given

pub returns-in-Err-Search-clause-within : goal.returns-in-Err-Search-clause-within
returns-in-Err-Search-clause-within c = λ n a.
    let own = bundles_lent c.args.own in
    let icu = bundles_lent c.args.icu in
    let ps = parent_of c.args.parents.now in
    let k = c.find_from.ensures.found in
    let counted = IfSome_then c.args.left a.names (λ _ h. subst (λ t. CountsTrail t own ps n) (sym c.names.ensures) h) in
    let given : IsGiven tree_seen c.args.left own icu ps n c.args.path.now k.found =
    record { refused = k.known.0.1; answer = k.known.1 n a.stops counted; valid = k.known.2 n a.stops } in
    fault_kept tree_seen c.args.left own icu ps n c.args.path.now k.found c.in-Err-Search.error (ap Err (sym c.in-Err-Search.field-0-is) ∙ sym c.in-Err-Search.is ∙ k.is) given

pub returns-in-Err-Search-clause-found : goal.returns-in-Err-Search-clause-found
returns-in-Err-Search-clause-found c = λ n a.
    let own = bundles_lent c.args.own in
    let icu = bundles_lent c.args.icu in
    let ps = parent_of c.args.parents.now in
    let k = c.find_from.ensures.found in
    let counted = IfSome_then c.args.left a.names (λ _ h. subst (λ t. CountsTrail t own ps n) (sym c.names.ensures) h) in
    let given : IsGiven tree_seen c.args.left own icu ps n c.args.path.now k.found =
    record { refused = k.known.0.1; answer = k.known.1 n a.stops counted; valid = k.known.2 n a.stops } in
    subst (λ f. IsNodeOf (Err f) (λ found. look_response tree_seen found ≡ lookup_in own icu ps n c.args.path.now)) (sym c.from.ensures)
    (fault_found tree_seen c.args.left own icu ps n c.args.path.now k.found c.in-Err-Search.error (ap Err (sym c.in-Err-Search.field-0-is) ∙ sym c.in-Err-Search.is ∙ k.is) given)

pub returns-in-Err-TooManySteps-clause-more : goal.returns-in-Err-TooManySteps-clause-more
returns-in-Err-TooManySteps-clause-more c = λ n a.
    let own = bundles_lent c.args.own in
    let icu = bundles_lent c.args.icu in
    let ps = parent_of c.args.parents.now in
    let k = c.find_from.ensures.found in
    let counted = IfSome_then c.args.left a.names (λ _ h. subst (λ t. CountsTrail t own ps n) (sym c.names.ensures) h) in
    let given : IsGiven tree_seen c.args.left own icu ps n c.args.path.now k.found =
    record { refused = k.known.0.1; answer = k.known.1 n a.stops counted; valid = k.known.2 n a.stops } in
    exceeding tree_seen c.args.left own icu ps n c.args.path.now k.found (ap Err (sym c.in-Err-TooManySteps.field-0-is) ∙ sym c.in-Err-TooManySteps.is ∙ k.is) given
