-- The laws, put together.
use Rattle.std.proofs.Common.{◌≡◌, ℕ, ◌≤◌, List, Ok, refl, sym, ap, subst, ◌∙◌, arith}
use Rattle.rb_lexer.specs.declared.token.Token.{Token}
use Rattle.rb_lexer.specs.declared.token.Mark.{Mark}
use Rattle.rb_tree.specs.Resource.{height}
use Rattle.rb_tree.specs.SourceTree.{SourceTree}
use Rattle.rb_grammar.specs.Form.{marks, table, Entries, Head, has_no_fallback}
use Rattle.rb_grammar.specs.Good.{Spells, IsSpelled}
use Rattle.rb_grammar.specs.Reading.{Tests, bundle}
use Rattle.rb_grammar.specs.Tests.{AreTests}
use Rattle.rb_grammar.proofs.Bundles.{bundle_takes, bundle_again}
use Rattle.rb_grammar.proofs.Trees.{tree_one, tree_height, tree_there, passed_rows, rows_keys}
use Rattle.rb_grammar.proofs.Unique.{bundle_one}

pub same_source : (c d : SourceTree) → c.tree ≡ d.tree → c.no_fallback ≡ d.no_fallback → c ≡ d
same_source c d p q = λ i. record { tree = p i; no_fallback = q i }

pub spelled_one : (ms : List Mark) (m n : List ℕ) (c d : SourceTree) → IsSpelled ms m c → IsSpelled ms n d → (m ≡ n) × (c ≡ d)
spelled_one ms m n c d p q =
    let h = bundle_one m n p.head q.head p.form q.form p.good q.good (sym p.spelled ∙ q.spelled) in
    let tree = tree_one (table q.form) c.tree d.tree (subst (λ (es : Entries). Spells (table es) c.tree) h.2 p.means) q.means in
    (h.0, same_source c d tree (p.flag ∙ ap has_no_fallback h.1 ∙ sym q.flag))

module _ (tests : Tests) (are : AreTests tests) where
  pub record ReadTree (ts : List Token) (name : List ℕ) (head : Head) (form : Entries) : Type 0 where
    pub source : SourceTree
    pub spelled : IsSpelled (marks ts) name source
    pub means : Spells (table form) source.tree
    pub flag : source.no_fallback ≡ has_no_fallback head
    pub low : height source.tree ≤ 64

  pub read_spelled : (ts : List Token) (name : List ℕ) (head : Head) (form : Entries) → bundle tests ts ≡ Ok (name, head, form) → ReadTree ts name head form
  read_spelled ts name head form e =
      let t = bundle_takes tests ts (name, head, form) e in
      let d = tree_there tests are (table form) t.passed in
      let high = tree_height (table form) d.0 d.1 in
      record {
        source = record { tree = d.0; no_fallback = has_no_fallback head };
        spelled = record { head = head; form = form; spelled = t.spelled; good = t.form; keys = rows_keys tests are form t.passed; means = d.1; flag = refl };
        means = d.1;
        flag = refl;
        low = omega (arith, t.high);
      }

  pub spelled_read : (ts : List Token) (name : List ℕ) (d : SourceTree) (s : IsSpelled (marks ts) name d) → height d.tree ≤ 64
      → bundle tests ts ≡ Ok (name, s.head, s.form)
  spelled_read ts name d s low =
      let high = tree_height (table s.form) d.tree s.means in
      bundle_again tests ts name s.head s.form s.good (passed_rows tests are s.form s.means.0 s.keys s.means.4) (omega arith) s.spelled
