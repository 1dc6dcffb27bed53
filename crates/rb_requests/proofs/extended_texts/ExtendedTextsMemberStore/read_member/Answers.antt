use Rattle.std.proofs.Common.{◌≡◌, sym, subst, codes, rules, ℕ, List}
use Rattle.std.proofs.lemmas.Slice.Eq.{bytes_eq-Decides}
use Rattle.serde_json.specs.Data.{put}
use Rattle.rb_requests.specs.inner.ExtendedRead.{HoldsAll}
use Rattle.rb_requests.proofs.extended_texts.ExtendedTextsMemberStore.read_member.Goals as goal

pub returns-in-Ok-clause-ok : goal.returns-in-Ok-clause-ok
returns-in-Ok-clause-ok c =
    let same : c.args.key.now ≡ codes "changes" = (bytes_eq-Decides c.args.key.now (codes "changes")).0 (search rules) in
    let read = c.in-Ok.ensures.ok in
    let d = read.0 in
    let new = c.store_changes.new.self in
    (d, read.2, λ found h. subst (λ (k : List ℕ). HoldsAll new (put k d found)) (sym same) (c.store_changes.ensures found d read.1 h))

pub returns-clause-ok : goal.returns-clause-ok
returns-clause-ok c =
    let read = c.in-Ok-read_value.ensures.ok in
    (read.0, read.2, λ found h. c.store.ensures found read.0 read.1 h)
