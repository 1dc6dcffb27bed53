use Rattle.std.proofs.Common.{◌-◌, length, drop, arith}
use Rattle.std.proofs.lemmas.List.{take_all, length-drop}
use Rattle.rb_format.proofs.KeyOrder.{key_there, nul_there}
use Rattle.rb_format.proofs.key_order.compare_key.Goals as goal

pub slice_bounds-compare_before_nul-count : goal.slice_bounds-compare_before_nul-count
slice_bounds-compare_before_nul-count c = (key_there c.args.body.now c.args.k c.requires).0

pub slice_bounds-compare_before_nul-start : goal.slice_bounds-compare_before_nul-start
slice_bounds-compare_before_nul-start c = let l = (key_there c.args.body.now c.args.k c.requires).0 in search

pub compare_before_nul-requires : goal.compare_before_nul-requires
compare_before_nul-requires c =
    let b = c.args.body.now in
    let k = c.args.k in
    let t = key_there b k c.requires in
    let a = take_all (length b - k) (drop k b) (omega (arith, length-drop k b)) in
    rw a (nul_there (drop k b) t.1)

pub returns : goal.returns
returns c =
    let b = c.args.body.now in
    let k = c.args.k in
    let t = key_there b k c.requires in
    let a = take_all (length b - k) (drop k b) (omega (arith, length-drop k b)) in
    let r = rw a at c.compare_before_nul.ensures in
    rw t.2 r
