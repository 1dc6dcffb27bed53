use Rattle.std.proofs.Common.{◌≡◌, ℕ, ◌*◌, ◌≤◌, ◌<◌, ◌^◌, List, length, ap, arith}
use Rattle.rb_format.specs.Limits.{file_limit}
use Rattle.rb_format.specs.Place.{word_at}
use Rattle.rb_validator.specs.Visits.{IsCount, IsPlaceAt}
use Rattle.rb_validator.proofs.Counts.{count_le}
use Rattle.rb_validator.proofs.file.check_tree.Goals as goal

-- a file has few places, as its length is limited
few_places : (body : List ℕ) (top visits : ℕ) → length body ≤ file_limit → 4 * top ≤ length body → top ≡ word_at body 4
    → IsCount (IsPlaceAt body) (3 * word_at body 4) visits → visits < 2 ^ 32
few_places body top visits short room is counted =
    let few = count_le (IsPlaceAt body) (3 * word_at body 4) visits counted in
    omega (arith, few)

pub found_of-requires : goal.found_of-requires
found_of-requires c =
    few_places c.args.body.bytes.now c.args.body.layout.now.top _ c.requires.short c.requires.room (ap (λ y. y.top) c.requires.layout)
    c.in_ok-check_root.ensures.visits
