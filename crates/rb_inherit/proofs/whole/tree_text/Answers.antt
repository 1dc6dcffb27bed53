use Rattle.std.proofs.Common.{◌≡◌, ◌∙◌, ℕ, List, [], Global, Some, Vec, ap}
use Rattle.std.proofs.lemmas.Result.{err_from_is_err_and}
use Rattle.rb_parents.specs.Family.{parent_of}
use Rattle.rb_fallback.specs.Search.{Hit}
use Rattle.rb_json.specs.Stored.{Stores}
use Rattle.rb_inherit.specs.Lookups.{IsTreeOf}
use Rattle.rb_inherit.proofs.Answers.{follows_error, follows_on, same_tree, stored_text}
use Rattle.rb_inherit.proofs.whole.tree_text.Goals as goal

pub returns-in-Ok-into_bytes : goal.returns-in-Ok-into_bytes
returns-in-Ok-into_bytes g c =
    let own = g.S.Shelf.bundles c.args.own in
    let parents = parent_of c.args.parents.now in
    let name = c.args.name.now in
    let path = c.args.path.now in
    let text = c.in-Ok-into_bytes.bytes in
    let new : c.put_tree.new.out ≡ Some text.items = c.in-Ok-into_bytes.ensures.bytes in
    let old : c.from_vec-out.result ≡ Some [] = c.from_vec-out.ensures ∙ ap (λ (l : List ℕ). Some l) c.in-Ok.ensures.items in
    follows_on own (g.I.Shelf.bundles c.args.icu) parents name path
    (λ (u : Unit {0}) (hit : Hit). IsTreeOf own parents name path (λ bytes. Stores c.from_vec-out.result c.put_tree.new.out bytes) hit)
    (λ (v : Vec ℕ Global) (hit : Hit). IsTreeOf own parents name path (λ bytes. v.items ≡ bytes) hit) c.in_ok-put_tree.field-0 text
    (λ hit h.
    same_tree own parents name path (λ bytes. Stores c.from_vec-out.result c.put_tree.new.out bytes) (λ bytes. text.items ≡ bytes) hit
    (λ bytes s. stored_text c.from_vec-out.result c.put_tree.new.out text.items bytes old new s) h)
    c.in_ok-put_tree.ensures

pub returns-in_err-put_tree : goal.returns-in_err-put_tree
returns-in_err-put_tree g c =
    let own = g.S.Shelf.bundles c.args.own in
    let parents = parent_of c.args.parents.now in
    let name = c.args.name.now in
    let path = c.args.path.now in
    let residual = c.from_residual-in_err-put_tree in
    let p = err_from_is_err_and residual.result residual.ensures.1 in
    rw (p.1, p.2) (follows_error own (g.I.Shelf.bundles c.args.icu) parents name path
    (λ (u : Unit {0}) (hit : Hit). IsTreeOf own parents name path (λ bytes. Stores c.from_vec-out.result c.put_tree.new.out bytes) hit)
    (λ (v : Vec ℕ Global) (hit : Hit). IsTreeOf own parents name path (λ bytes. v.items ≡ bytes) hit) c.in_err-put_tree.field-0.0
    c.in_err-put_tree.ensures)
