use Rattle.std.proofs.Common.{◌≡◌, true, false, is_some, refl, ap, sym, ◌∙◌, ◌++◌, ◌∷◌, []}
use Rattle.std.specs.Map.{lookup}
use Rattle.std.specs.Str.{bytes_eq}
use Rattle.std.proofs.lemmas.Result.{on_ok_weaker}
use Rattle.rb_format.specs.File.{source_tree_of}
use Rattle.rb_packages.specs.Packages.{shelf_of, icudata_files}
use Rattle.rb_packages.proofs.Lists.{shelf_of-push, icudata_seen, there_twice, not_twice, judged_add}
use Rattle.rb_packages.proofs.packages.Packages.load.Goals as goal

pub returns-then-contains_key-clause-judged : goal.returns-then-contains_key-clause-judged
returns-then-contains_key-clause-judged c =
    let h : is_some (lookup (bytes_eq c.args.name) c.self.inside.icudata.entries) ≡ true = cc in
    rw (icudata_seen c.self.inside.owned.entries c.self.view_is, there_twice c.args.name c.self.inside.icudata.entries h) refl

pub returns-clause-judged : goal.returns-clause-judged
returns-clause-judged c =
    let h : is_some (lookup (bytes_eq c.args.name) c.self.inside.icudata.entries) ≡ false = cc in
    rw (icudata_seen c.self.inside.owned.entries c.self.view_is)
    (judged_add c.add.result c.args.bundle _ (not_twice c.args.name c.self.inside.icudata.entries h) c.add.ensures.error)

pub returns-clause-file : goal.returns-clause-file
returns-clause-file c =
    on_ok_weaker c.add.result (λ h. h ∙ ap (λ stored. icudata_files stored ++ (c.args.name, c.args.bundle) ∷ []) c.self.view_is) c.add.ensures.added

pub returns-clause-loaded : goal.returns-clause-loaded
returns-clause-loaded c =
    let before = icudata_seen c.self.inside.owned.entries c.self.view_is in
    let push = shelf_of-push c.self.inside.icudata.entries c.args.name c.args.bundle in
    on_ok_weaker c.add.result (λ h. ap shelf_of h ∙ push ∙ ap (λ l. l ++ (c.args.name, source_tree_of c.args.bundle) ∷ []) (sym before))
    c.add.ensures.added
