use Rattle.std.proofs.Common.{◌≡◌, ◌∙◌, ℕ, Bool, List, Option, None, Result, Ok, ap, refl, codes}
use Rattle.rb_packages.specs.declared.app.AppFault.{AppFault}
use Rattle.rb_engine.specs.Kept.{Kept}
use Rattle.rb_requests.specs.Within.{error_line}
use Rattle.rb_requests.specs.declared.limits.Limits.{Limits}
use Rattle.rb_requests.specs.ExportReply.{ExportReply}
use Rattle.rb_requests.proofs.export.answer_export.Goals as goal

bad_locale : (limits : Limits) (kept : Kept) (is_text : Bool) (r : Result (List ℕ) AppFault) (n : Option (List ℕ)) (a x : List ℕ) → Ok a ≡ r
    → None ≡ n → x ≡ error_line (codes "BadLocale") → ExportReply limits kept is_text r n x
bad_locale limits kept is_text r n a x e f h = rw (← e, ← f) h

pub returns-in_default : goal.returns-in_default
returns-in_default g c =
    let app = rw c.as_bytes.ensures.value at c.in-Ok.ensures in
    let locale = rw c.as_bytes-2.ensures.value at c.in_default.ensures.name in
    let told = c.in_ok-tell_word.ensures ∙ ap error_line c.word-in_default.ensures in
    (c.tell_word-in_default.new.reply, bad_locale c.args.limits.now c.args.engine.now c.args.is_text _ _ _ _ app locale told, (refl, refl))
