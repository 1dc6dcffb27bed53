use Rattle.std.proofs.Common.{◌≡◌, ◌<◌, ◌||◌, true, false, Ok, Some, drop, length, refl, ap, sym, ◌∙◌, subst, arith, length-drop, rules}
use Rattle.std.specs.Option.{option_map}
use Rattle.rb_tree.specs.Parts.{units_of}
use Rattle.rb_locales.proofs.Narrowed.{units_len}
use Rattle.rb_fallback.specs.Alias.{aim, aims, target}
use Rattle.rb_fallback.specs.AliasPaths.{segments_from}
use Rattle.rb_fallback.specs.Answers.{aim_of}
use Rattle.rb_fallback.specs.Search.{follow}
use Rattle.rb_fallback.specs.declared.search.SearchState.{SearchState}
use Rattle.rb_fallback.specs.inner.Steps.{IsFollowed}
use Rattle.rb_fallback.proofs.Texts.{alias_units}
use Rattle.rb_fallback.proofs.Paths.{aim_is_filled}
use Rattle.rb_fallback.proofs.Follows.{filled_some, path_leads, follows_on, follows_long}
use Rattle.rb_fallback.proofs.search.follow_alias.Goals as goal

pub put_before-fits-requires-clause-within : goal.put_before-fits-requires-clause-within
put_before-fits-requires-clause-within g c =
    let t = g.N.Node.tree c.args.node in
    let us = units_of t in
    let to = c.in-Ok.target in
    let at = c.in-Some.at in
    let aimed : aim us c.args.valid.now ≡ aims to.icudata to.name (Some (segments_from us at)) =
    sym c.read_alias.ensures ∙ ap (aim_of us) c.in-Ok.is ∙ ap (λ o. aims to.icudata to.name (option_map (segments_from us) o)) c.in-Some.is in
    let some : 0 < length (drop at us) = filled_some (drop at us) (aim_is_filled us c.args.valid.now to.name to.icudata (segments_from us at) aimed) in
    omega (arith, length-drop at us, units_len t (alias_units t c.requires.alias))

pub returns-then-not-fits : goal.returns-then-not-fits
returns-then-not-fits g c = λ walked rest whole left.
    let us = units_of (g.N.Node.tree c.args.node) in
    let p = c.args.state.now in
    let to = c.in-Ok.target in
    let at = c.in-Some.at in
    let valid = c.args.valid.now in
    let aimed : aim us valid ≡ aims to.icudata to.name (Some (segments_from us at)) =
    sym c.read_alias.ensures ∙ ap (aim_of us) c.in-Ok.is ∙ ap (λ o. aims to.icudata to.name (option_map (segments_from us) o)) c.in-Some.is in
    let leads = path_leads us valid to.name to.icudata p.icudata p.path walked rest c.requires.path whole at c.args.cut c.cut_front.new.self aimed c.cut_front.ensures left in
    let st : SearchState = record { icudata = to.icudata || p.icudata; name = to.name; path = c.put_before-fits.new.self } in
    let no : c.put_before-fits.result ≡ false = search rules in
    subst (λ v. IsFollowed (Ok v) st (follow rest (target us p.icudata valid walked))) (sym no) (follows_long leads (c.put_before-fits.ensures.long no))

pub returns-else-not-fits : goal.returns-else-not-fits
returns-else-not-fits g c = λ walked rest whole left.
    let us = units_of (g.N.Node.tree c.args.node) in
    let p = c.args.state.now in
    let to = c.in-Ok.target in
    let at = c.in-Some.at in
    let valid = c.args.valid.now in
    let aimed : aim us valid ≡ aims to.icudata to.name (Some (segments_from us at)) =
    sym c.read_alias.ensures ∙ ap (aim_of us) c.in-Ok.is ∙ ap (λ o. aims to.icudata to.name (option_map (segments_from us) o)) c.in-Some.is in
    let leads = path_leads us valid to.name to.icudata p.icudata p.path walked rest c.requires.path whole at c.args.cut c.cut_front.new.self aimed c.cut_front.ensures left in
    let st : SearchState = record { icudata = to.icudata || p.icudata; name = to.name; path = c.put_before-fits.new.self } in
    let yes : c.put_before-fits.result ≡ true = search rules in
    subst (λ v. IsFollowed (Ok v) st (follow rest (target us p.icudata valid walked))) (sym yes)
    (follows_on st leads refl refl c.if-not-fits.ensures.fits)
