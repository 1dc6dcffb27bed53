use Rattle.std.proofs.Common.{arith, refl}
use Rattle.rb_views.proofs.Readings.{laid_long}
use Rattle.rb_views.proofs.RootItem.{root_of}
use Rattle.rb_views.proofs.bundle.root_place.Goals as goal

pub half_at-requires : goal.half_at-requires
half_at-requires c =
    let r = root_of c.args.bundle.now c.bytes-bytes.result.now _ c.bytes-bytes.ensures.bytes refl c.bytes-bytes.ensures.denoted in
    omega (arith, r.long)

pub body-requires-clause-long : goal.body-requires-clause-long
body-requires-clause-long c = (root_of c.args.bundle.now c.bytes-bytes.result.now _ c.bytes-bytes.ensures.bytes refl c.bytes-bytes.ensures.denoted).long

pub body-requires-clause-inside : goal.body-requires-clause-inside
body-requires-clause-inside c = (root_of c.args.bundle.now c.bytes-bytes.result.now _ c.bytes-bytes.ensures.bytes refl c.bytes-bytes.ensures.denoted).inside

pub word_at-requires : goal.word_at-requires
word_at-requires c =
    let r = root_of c.args.bundle.now c.bytes-bytes.result.now c.body.result.now c.bytes-bytes.ensures.bytes c.body.ensures c.bytes-bytes.ensures.denoted in
    let l = laid_long _ r.laid in
    omega arith
