use Rattle.std.proofs.Common.{◌≡◌, ℕ, List, ◌++◌, length}
use Rattle.hex.specs.Hex.{encode_lower}
use Rattle.rb_replies.proofs.extended.put_digits.Given as goal

-- the digits of the first bytes are written
abbrev pub invariant-spans : goal.invariant-spans
invariant-spans g l = record {
  done : List ℕ;
  whole : done ++ l.rest ≡ l.bytes;
  written : g.O.Outlet.takes l.fn.out l.out (encode_lower done);
}

abbrev pub decreases-spans : goal.decreases-spans
decreases-spans g l = length l.rest
