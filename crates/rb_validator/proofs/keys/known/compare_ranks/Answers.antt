use Rattle.std.proofs.Common.{◌≡◌, ◌<◌, ◌≤◌, true, false, get_or, inr, arith}
use Rattle.std.specs.Ordering.{is_lt, nat_cmp}
use Rattle.std.specs.Cmp.Lexicographic.{slice_cmp}
use Rattle.rb_validator.specs.inner.KnownKeys.{key_run}
use Rattle.rb_validator.specs.inner.Lengths.{place_of, previous_place}
use Rattle.rb_validator.specs.inner.Ranks.{key_from}
use Rattle.rb_validator.proofs.Pairs.{ranked_none, ranked_less, ranked_more}
use Rattle.rb_validator.proofs.keys.known.compare_ranks.Goals as goal

pub returns-then-length_at-lt2 : goal.returns-then-length_at-lt2
returns-then-length_at-lt2 c =
    let y = c.args.body.layout.now in let body = c.args.body.bytes.now in let lengths = c.args.ranks.now.lengths.items in
    let run = c.key_bytes-run.ensures in
    let place = c.place_of-place.ensures in
    let count = c.length_at.ensures in
    let same : get_or lengths (place_of y (key_run y body) c.args.offset) 0 ≡ c.length_at.result = cc in
    let l : get_or lengths (place_of y (key_run y body) c.args.offset) 0 < 2 = omega arith in
    inr (ranked_none y body lengths _ c.args.offset c.requires.ranked.counted l)

pub returns-in-Some-true : goal.returns-in-Some-true
returns-in-Some-true c =
    let y = c.args.body.layout.now in let body = c.args.body.bytes.now in let lengths = c.args.ranks.now.lengths.items in
    let run = c.key_bytes-run.ensures in
    let place = c.place_of-place.ensures in
    let before = c.previous_place-before.ensures in
    let count = c.length_at.ensures in
    let same : get_or lengths (place_of y (key_run y body) c.args.offset) 0 ≡ c.length_at.result = cc in
    let l : 2 ≤ get_or lengths (place_of y (key_run y body) c.args.offset) 0 = omega arith in
    let is = c.in-Some-true.ensures in
    let test = c.in-Some-true.field-0-test in
    let t : true ≡ is_lt (slice_cmp nat_cmp (key_from (key_run y body) lengths (previous_place y (key_run y body) c.args.last))
    (key_from (key_run y body) lengths (place_of y (key_run y body) c.args.offset))) = cc in
    inr (ranked_less y body lengths c.args.last c.args.offset c.requires.ranked.counted l t)

pub returns-in-Some-false : goal.returns-in-Some-false
returns-in-Some-false c =
    let y = c.args.body.layout.now in let body = c.args.body.bytes.now in let lengths = c.args.ranks.now.lengths.items in
    let run = c.key_bytes-run.ensures in
    let place = c.place_of-place.ensures in
    let before = c.previous_place-before.ensures in
    let count = c.length_at.ensures in
    let same : get_or lengths (place_of y (key_run y body) c.args.offset) 0 ≡ c.length_at.result = cc in
    let l : 2 ≤ get_or lengths (place_of y (key_run y body) c.args.offset) 0 = omega arith in
    let is = c.in-Some-false.ensures in
    let test = c.in-Some-false.field-0-test in
    let t : false ≡ is_lt (slice_cmp nat_cmp (key_from (key_run y body) lengths (previous_place y (key_run y body) c.args.last))
    (key_from (key_run y body) lengths (place_of y (key_run y body) c.args.offset))) = cc in
    inr (ranked_more y body lengths c.args.last c.args.offset c.requires.ranked.counted l t)
