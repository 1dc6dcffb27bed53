use Rattle.std.proofs.Common.{◌≡◌, codes, rules, subst}
use Rattle.serde_json.specs.Data.{Data, string}
use Rattle.rb_tree.specs.Parts.{kind_of}
use Rattle.rb_tree.specs.declared.kind.Kind.{Kind}
use Rattle.rb_tree.specs.declared.kind.Kind.TheVariants as Kinds
use Rattle.rb_json.specs.Value.{tagged}
use Rattle.rb_inherit.specs.inner.Written.{IsLeafOf}
use Rattle.rb_inherit.proofs.leaf.put_leaf.Goals as goal

pub returns-then-eq-clause-value : goal.returns-then-eq-clause-value
returns-then-eq-clause-value g c =
    let t = g.N.Node.tree c.args.node in
    let missing : Data = tagged (codes ":error") (string (codes "Missing")) in
    let alias : Kinds.Alias ≡ kind_of t = search rules in
    record {
      value = missing;
      takes = c.put_error.ensures;
      is = subst (λ (k : Kind). IsLeafOf k t missing) alias tt;
    }
