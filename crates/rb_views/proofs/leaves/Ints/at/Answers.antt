use Rattle.std.proofs.Common.{◌≡◌, ◌+◌, ◌<◌, ℕ, ℤ, to_z-of_z, arith}
use Rattle.std.specs.Int.{cast_signed, w32}
use Rattle.rb_format.specs.Place.{word_at}
use Rattle.rb_views.proofs.Values.{values_length, values_get}
use Rattle.rb_views.proofs.leaves.Ints.at.Goals as goal

pub returns : goal.returns
returns c =
    let s = c.args.self in
    let h : c.args.i < c.args.self.count = rw values_length at c.requires in
    let z : ℤ = cast_signed w32 (word_at s.body.now (s.first + c.args.i)) in
    let e : c.cast_signed.result ≡ z = grind (arith, c.cast_signed.ensures, c.word_at.ensures) in
    grind (arith, to_z-of_z, e, values_get (λ (i : ℕ). cast_signed w32 (word_at s.body.now i)) s.first s.count c.args.i h)
