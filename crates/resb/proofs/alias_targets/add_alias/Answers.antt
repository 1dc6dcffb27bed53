use Rattle.std.proofs.Common.{◌∙◌, string_bytes}
use Rattle.rb_views.specs.Seen.{units_seen}
use Rattle.resb.proofs.AliasNames.{adds_named}
use Rattle.resb.proofs.alias_targets.add_alias.Goals as goal

pub returns-in-Some : goal.returns-in-Some
returns-in-Some c name =
    adds_named name (units_seen c.args.units) c.as_str.result.now (string_bytes c.in-Some.name) c.args.found.now c.insert.new.self
    (c.as_str.ensures.value ∙ c.in_ok-text.ensures) (rw c.in-Some.is at c.in_ok-name.ensures) c.in_ok-insert-in-Some.ensures.updates
