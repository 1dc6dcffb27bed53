use Rattle.std.proofs.Common.{◌∙◌, sym}
use Rattle.rb_format.proofs.KeyFronts.{key_ended, key_unended, key_endless}
use Rattle.rb_format.proofs.place.key_in.Goals as goal
use Rattle.rb_format.proofs.place.key_in.Goals.{in_default-via-in-Some+else-is_ended, in_default-via-in_default}

pub returns-in-Some : goal.returns-in-Some
returns-in-Some c =
    key_ended c.args.run.now c.in-Some.end (sym c.plain_end.ensures.value ∙ c.in-Some.is) c.in-Some.ensures.bound (sym c.is_ended.ensures ∙ c.if-is_ended.true)

pub returns-in_default : goal.returns-in_default
returns-in_default c = elim c.in_default.branch [
  | in_default-via-in-Some+else-is_ended w ↦
      key_unended c.args.run.now w.in-Some.end (sym c.plain_end.ensures.value ∙ w.in-Some.is) (sym w.is_ended.ensures ∙ w.if-is_ended.false)
  | in_default-via-in_default w ↦ key_endless c.args.run.now (sym c.plain_end.ensures.value ∙ w.in_default.is)
]
