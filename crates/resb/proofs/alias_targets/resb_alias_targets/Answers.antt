use Rattle.std.proofs.Common.{ℕ, List, inl, subst}
use Rattle.rb_format.specs.File.{tree_of}
use Rattle.resb.specs.AliasTargets.{IsTargetList}
use Rattle.resb.proofs.alias_targets.resb_alias_targets.Goals as goal

pub returns-in-Ok-list_of-clause-list : goal.returns-in-Ok-list_of-clause-list
returns-in-Ok-list_of-clause-list c =
    let list = c.in-Ok-list_of.list.items in
    inl (
      c.in-Ok.ensures.good,
      (
        list,
        subst (λ (file : List ℕ). IsTargetList (tree_of file) list) c.in-Ok.ensures.bundle c.in-Ok-list_of.ensures,
        rw c.deref.ensures.value at c.copy_bytes.ensures.copied,
      ),
    )
