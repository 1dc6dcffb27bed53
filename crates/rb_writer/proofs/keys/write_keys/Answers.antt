use Rattle.std.proofs.Common.{rules, ◌≡◌, length, [], arith}
use Rattle.rb_tree.specs.Keys.{IsKey}
use Rattle.rb_writer.proofs.Keyloop.{at_name, named_all, keys_room, keys_more, keys_drafted, keys_read, keys_each}
use Rattle.rb_writer.proofs.Once.{keys_laid, keys_written}
use Rattle.rb_writer.proofs.keys.write_keys.Goals as goal

pub place_key-requires-clause-key : goal.place_key-requires-clause-key
place_key-requires-clause-key c =
    named_all IsKey c.args.keys.now c.loop-key.key-index (record { ref_ptr = (0, 0); now = [] }, 0) c.requires.keys c.loop-key-test.true

pub place_key-requires-clause-room : goal.place_key-requires-clause-room
place_key-requires-clause-room c =
    let at = at_name c.args.keys.now c.loop-key.key-index (record { ref_ptr = (0, 0); now = [] }, 0) c.loop-key-test.true in
    let r = keys_room _ _ _ _ _ _ _ c.loop-key.invariant.0 at c.requires.room in omega (arith, r)

pub loop-key-preserved : goal.loop-key-preserved
loop-key-preserved c =
    let at = at_name c.args.keys.now c.loop-key.key-index (record { ref_ptr = (0, 0); now = [] }, 0) c.loop-key-test.true in (
      keys_more _ _ _ _ c.loop-key.out _ c.loop-key.key-index _ c.loop-key.invariant.0 at c.in_ok-place_key.ensures.adds c.in_ok-place_key.ensures.little
          c.in_ok-place_key.ensures.here c.in_ok-place_key.ensures.stay c.in_ok-place_key.ensures.stand,
      keys_laid c.args.out.now c.loop-key.out _ _ _ _ c.loop-key.key-index _ c.loop-key.invariant.1 at c.in_ok-place_key.ensures.laid,
    )

pub returns-clause-drafted : goal.returns-clause-drafted
returns-clause-drafted c = let e : c.len-2.result ≡ length c.pad.new.out = search rules in rw e
    (keys_drafted c.args.indexes _ _ _ _ _ c.loop-key.invariant.0 c.in_ok-pad.ensures.adds c.in_ok-pad.ensures.whole)

pub returns-clause-stand : goal.returns-clause-stand
returns-clause-stand c = let e : c.len-2.result ≡ length c.pad.new.out = search rules in rw e
    (keys_read c.args.indexes _ _ _ _ _ c.loop-key.invariant.0 c.in_ok-pad.ensures.adds c.in_ok-pad.ensures.whole)

pub returns-clause-each : goal.returns-clause-each
returns-clause-each c = keys_each _ _ c.args.keys.now _ c.loop-key.key-index c.loop-key.invariant.0 (search rules)

pub returns-clause-laid : goal.returns-clause-laid
returns-clause-laid c =
    let start = c.requires.start in
    keys_written c.args.out.now c.loop-key.out c.pad.new.out _ c.args.keys.now c.loop-key.key-index c.loop-key.invariant.1 (search rules)
    c.in_ok-pad.ensures.bytes (omega arith) c.requires.ascending
