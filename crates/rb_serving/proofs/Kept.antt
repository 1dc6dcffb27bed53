-- Bytes that stay as they are.
use Rattle.std.proofs.Common.{ℕ, List, Option}
use Rattle.std.specs.Io.KnownBytes.{Keeps}
use Rattle.std.proofs.KnownBytes.{Keeps-refl}

pub as_they_are : (a : Option (List ℕ)) → Keeps a a
as_they_are a = Keeps-refl a
