use Rattle.std.proofs.Common.{[], length, sym, ap, subst, ◌∙◌}
use Rattle.std.specs.List.{IsDistinct}
use Rattle.std.specs.Str.{bytes_eq}
use Rattle.indexmap.specs.IndexMap.{insert_all}
use Rattle.rb_packages.specs.Release.{sizes_of}
use Rattle.std.proofs.lemmas.Map.Made.{keys_of-map_values}
use Rattle.rb_packages.proofs.Drafts.{all_stored}
use Rattle.rb_packages.proofs.draft.lens_in.Goals as goal

pub returns : goal.returns
returns c =
    let files = c.args.bundles.now.entries in
    c.in_ok-add_lens.ensures
    ∙ ap (λ l. insert_all bytes_eq l c.in_ok-sizes.field-0.items) c.in_ok-lens.ensures.empty
    ∙ ap (insert_all bytes_eq []) c.in_ok-sizes.ensures
    ∙ all_stored (sizes_of files) (subst (IsDistinct bytes_eq) (sym (keys_of-map_values length files)) c.len.ensures.unique)
