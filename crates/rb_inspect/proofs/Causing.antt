-- The cause that a trace reports for the next name is the true one.
use Rattle.std.proofs.Common.{◌≡◌, ℕ, List, Bool, true, false, cond, Option, Some, None, is_some, option_map}
use Rattle.std.proofs.Common.{refl, ap, sym}
use Rattle.std.proofs.Common.{subst, inl, inr}
use Rattle.std.specs.Str.{bytes_eq}
use Rattle.rb_tree.specs.SourceTree.{SourceTree}
use Rattle.rb_locales.specs.Locale.{name, shorter}
use Rattle.rb_parents.specs.Trail.{ParentsOf, Next, goes_to, end, named_next, named_or, or_else, plain_next}
use Rattle.rb_parents.specs.Trail.{bundle_next, text_at, alias_key, parent_key, root}
use Rattle.rb_inspect.specs.declared.trace_steps.Cause.{Cause}
use Rattle.rb_inspect.specs.declared.trace_steps.Cause.TheVariants as why
use Rattle.rb_inspect.specs.inner.Causes.{IsNextBy, cause, plain_cause}

-- ---- without a text of the bundle
module _ (parents : ParentsOf) (n : List ℕ) (bundle : Option SourceTree) where
  shorter_by : (o : Option (List ℕ)) → shorter n ≡ o → IsNextBy (cond (is_some o) why.Shorter why.Last) parents n
      bundle (goes_to (or_else o root))
  shorter_by None e = inr refl
  shorter_by (Some m) e = ap (option_map goes_to) e

  parent_by : (o : Option (List ℕ)) → parents n ≡ o
      → IsNextBy (cond (is_some o) why.Explicit (cond (is_some (shorter n)) why.Shorter why.Last)) parents n bundle
      (goes_to (or_else o (or_else (shorter n) root)))
  parent_by None e = shorter_by (shorter n) refl
  parent_by (Some m) e = ap (option_map goes_to) e

  plain_by : IsNextBy (plain_cause parents n) parents n bundle (plain_next parents n)
  plain_by = by (bytes_eq n root) refl
    where
      by : (b : Bool) → bytes_eq n root ≡ b → IsNextBy (plain_cause parents n) parents n bundle (plain_next parents n)
      by true e = rw e (inl refl)
      by false e = rw e (parent_by (parents n) refl)

-- ---- with one
module _ (parents : ParentsOf) (n : List ℕ) (b : SourceTree) where
  parent_text : (o : Option (List ℕ)) → text_at parent_key b.tree ≡ o
      → IsNextBy (cond (is_some o) why.Parent (plain_cause parents n)) parents n (Some b) (named_or o (plain_next
      parents n))
  parent_text None e = plain_by parents n (Some b)
  parent_text (Some us) e = ap (option_map (λ vs. named_next (name vs))) e

  flag_by : (v : Bool) → IsNextBy (cond v why.NoFallback (cond (is_some (text_at parent_key b.tree)) why.Parent
      (plain_cause parents n))) parents n (Some b)
      (cond v end (named_or (text_at parent_key b.tree) (plain_next parents n)))
  flag_by true = refl
  flag_by false = parent_text (text_at parent_key b.tree) refl

  alias_by : (o : Option (List ℕ)) → text_at alias_key b.tree ≡ o
      → IsNextBy (cond (is_some o) why.Alias
      (cond b.no_fallback why.NoFallback (cond (is_some (text_at parent_key b.tree)) why.Parent (plain_cause parents
      n)))) parents n (Some b)
      (named_or o (cond b.no_fallback end (named_or (text_at parent_key b.tree) (plain_next parents n))))
  alias_by None e = flag_by b.no_fallback
  alias_by (Some us) e = ap (option_map (λ vs. named_next (name vs))) e

next_by : (parents : ParentsOf) (n : List ℕ) (bundle : Option SourceTree)
    → IsNextBy (cause parents n bundle) parents n bundle (bundle_next parents n bundle)
next_by parents n None = plain_by parents n None
next_by parents n (Some b) = alias_by parents n b (text_at alias_key b.tree) refl

pub then_is : (parents : ParentsOf) (n : List ℕ) (bundle : Option SourceTree) (w : Cause) (next : Next)
    → w ≡ cause parents n bundle
    → next ≡ bundle_next parents n bundle → IsNextBy w parents n bundle next
then_is parents n bundle w next e f =
    subst (λ x. IsNextBy w parents n bundle x) (sym f)
    (subst (λ v. IsNextBy v parents n bundle (bundle_next parents n bundle)) (sym e) (next_by parents n bundle))
