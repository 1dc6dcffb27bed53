use Rattle.std.proofs.Common.{ap, ◌++◌, ◌∙◌, List, ℕ}
use Rattle.std.proofs.lemmas.List.{drop-append-le}
use Rattle.rb_writer.proofs.data.Data.append.Goals as goal

pub returns : goal.returns
returns c = rw c.in_ok-extend_from_slice.ensures.items
    (drop-append-le 32 c.self.inside.file.items c.args.bytes.now c.self.invariant ∙ ap (λ (xs : List ℕ). xs ++ c.args.bytes.now) c.self.view_is)
