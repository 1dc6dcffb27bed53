use Rattle.std.proofs.Common.{◌≡◌, ◌+◌, length, cond, is_some, Some, ap, ◌∙◌, arith}
use Rattle.std.specs.Map.{lookup}
use Rattle.std.specs.Str.{bytes_eq}
use Rattle.std.proofs.lemmas.Result.{IfOk-at_ok}
use Rattle.rb_packages.proofs.Lists.{other_files}
use Rattle.rb_packages.proofs.owned.install_first.Goals as goal

pub returns-clause-others : goal.returns-clause-others
returns-clause-others c =
    let updates = IfOk-at_ok (λ _. _) c.unwrap.ensures c.insert.ensures.updates in
    λ other n.
    other_files c.args.app.now c.reserve.new.self c.insert.new.self (Some c.in_ok-bundles.bundles) updates other n
    ∙ ap (lookup (bytes_eq other)) c.reserve.ensures.entries

pub returns-clause-count : goal.returns-clause-count
returns-clause-count c =
    let app = c.args.app.now in
    let rows = c.reserve.new.self.entries in
    let len = IfOk-at_ok (λ old. length c.insert.new.self.entries ≡ length rows + cond (is_some old) 0 1) c.unwrap.ensures c.insert.ensures.len in
    let was = IfOk-at_ok (λ old. old ≡ lookup (bytes_eq app) rows) c.unwrap.ensures c.insert.ensures.old in
    let same = ap (λ o. length rows + cond (is_some o) 0 1) was in
    rw (← c.reserve.ensures.entries) (omega (arith, len, same))
