use Rattle.std.proofs.lemmas.Result.{IfOk-weaker}
use Rattle.std.proofs.Common.{◌≡◌, Ok, Err, IfOk, IfErr, sym, ◌∙◌, subst}
use Rattle.rb_parents.specs.Family.{family_pairs}
use Rattle.rb_engine.specs.Kept.{Kept}
use Rattle.rb_engine.specs.OpenLocale.{CountsNames, IsOpenLocale, RefusesAll}
use Rattle.rb_engine.specs.Place.{place_of}
use Rattle.rb_engine.proofs.Opening.{counts, err_then, is_open, is_refused, is_unread, ok_both}
use Rattle.rb_engine.proofs.engine.Engine.open_locale.Goals as goal

pub returns-in-Ok-clause-opened : goal.returns-in-Ok-clause-opened
returns-in-Ok-clause-opened c =
    let app = c.args.app.now in
    let locale = c.args.locale.now in
    let h : place_of app locale ≡ Ok c.in-Ok.place = sym c.place_of.ensures ∙ c.in-Ok.is in
    let e = c.self.inside in
    subst (λ (k : Kept). IfOk c.open_at.result (λ o. IsOpenLocale o k app locale)) c.self.view_is
    (ok_both c.open_at.result (λ o f s. is_open e.packages e.parents e.versions.latest o app locale c.in-Ok.place h f s) c.open_at.ensures.files c.open_at.ensures.stops)

pub returns-in-Ok-clause-names : goal.returns-in-Ok-clause-names
returns-in-Ok-clause-names c =
    let app = c.args.app.now in
    let locale = c.args.locale.now in
    let h : place_of app locale ≡ Ok c.in-Ok.place = sym c.place_of.ensures ∙ c.in-Ok.is in
    let e = c.self.inside in
    subst (λ (k : Kept). IfOk c.open_at.result (λ o. CountsNames o k app locale)) c.self.view_is
    (IfOk-weaker c.open_at.result _ _ (λ o n. counts e.packages e.parents e.versions.latest o app locale c.in-Ok.place h n) c.open_at.ensures.names)

pub returns-in-Ok-clause-refused : goal.returns-in-Ok-clause-refused
returns-in-Ok-clause-refused c =
    let app = c.args.app.now in
    let locale = c.args.locale.now in
    let h : place_of app locale ≡ Ok c.in-Ok.place = sym c.place_of.ensures ∙ c.in-Ok.is in
    let e = c.self.inside in
    subst (λ (k : Kept). IfErr c.open_at.result (RefusesAll k app locale)) c.self.view_is
    (err_then c.open_at.result (λ f g. is_refused e.packages e.parents e.versions.latest app locale c.in-Ok.place f h g) c.open_at.ensures.refused)

pub returns-in-Err-clause-refused : goal.returns-in-Err-clause-refused
returns-in-Err-clause-refused c =
    let app = c.args.app.now in
    let locale = c.args.locale.now in
    let h : place_of app locale ≡ Err c.in-Err.fault = sym c.place_of.ensures ∙ c.in-Err.is in
    let e = c.self.inside in
    subst (λ (k : Kept). RefusesAll k app locale c.from.result) c.self.view_is
    (subst (RefusesAll (record { packages = e.packages; parents = family_pairs e.parents; version = e.versions.latest }) app locale) (sym c.from.ensures)
    (is_unread e.packages e.parents e.versions.latest app locale c.in-Err.fault h))
