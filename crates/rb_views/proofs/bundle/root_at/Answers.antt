use Rattle.std.proofs.Common.{◌≡◌, refl}
use Rattle.rb_views.specs.Trees.{data_of}
use Rattle.rb_views.proofs.RootItem.{root_is}
use Rattle.rb_views.proofs.bundle.root_at.Goals as goal

pub behind-requires : goal.behind-requires
behind-requires c =
    rw (c.requires.header, c.bytes.ensures.bytes) (root_is c.args.bundle.now c.bytes.ensures.denoted).inside

pub invariant_of-result : goal.invariant_of-result
invariant_of-result c =
    let same : c.behind.result.now ≡ data_of c.args.bundle.now = rw (c.behind.ensures, c.requires.header, c.bytes.ensures.bytes) refl in
    let r = root_is c.args.bundle.now c.bytes.ensures.denoted in
    record { laid = rw same r.laid; marked = rw same c.blocks-2.ensures; stands = rw (same, c.requires.word) r.stands }

pub returns-clause-tree : goal.returns-clause-tree
returns-clause-tree c =
    let same : c.behind.result.now ≡ data_of c.args.bundle.now = rw (c.behind.ensures, c.requires.header, c.bytes.ensures.bytes) refl in
    let r = root_is c.args.bundle.now c.bytes.ensures.denoted in
    rw (same, c.requires.word) r.tree
