-- Defines what decides on the name that follows another on a trail, after `next` of rb_parents, and how a trace says
-- it.
use Rattle.std.specs.Prelude.{◌≡◌, ◌⊎◌, ℕ, List, Option, Some, None, codes, is_some, option_map, if◌then◌else◌}
use Rattle.std.specs.Str.{bytes_eq}
use Rattle.rb_tree.specs.SourceTree.{SourceTree}
use Rattle.rb_locales.specs.Locale.{name, shorter}
use Rattle.rb_parents.specs.Trail.{ParentsOf, Next, goes_to, end, named_next, text_at, alias_key, parent_key, root}
use Rattle.rb_inspect.specs.declared.trace_steps.Cause.{Cause}
use Rattle.rb_inspect.specs.declared.trace_steps.Cause.TheVariants as why

-- after the root comes nothing; after another name its explicit parent, else the shorter name, else the root
abbrev pub plain_cause : ParentsOf → List ℕ → Cause
plain_cause parents n =
    if bytes_eq n root then why.Last
    else (if is_some (parents n) then why.Explicit else (if is_some (shorter n) then why.Shorter else why.Last))

-- `%%ALIAS` comes before the flag, the flag before `%%Parent`, and that before what decides without a bundle
abbrev pub cause : ParentsOf → List ℕ → Option SourceTree → Cause
cause parents n None = plain_cause parents n
cause parents n (Some b) =
    if is_some (text_at alias_key b.tree) then why.Alias
    else (if b.no_fallback then why.NoFallback
    else (if is_some (text_at parent_key b.tree) then why.Parent else plain_cause parents n))

-- ---- what a cause says of the next name
-- a string of the bundle gives it
abbrev pub IsNextInText : List ℕ → Option SourceTree → Next → Type 0
IsNextInText key None next = ⊥
IsNextInText key (Some b) next = option_map (λ us. named_next (name us)) (text_at key b.tree) ≡ Some next

abbrev pub IsNextBy : Cause → ParentsOf → List ℕ → Option SourceTree → Next → Type 0
IsNextBy why.Alias parents n bundle next = IsNextInText alias_key bundle next
IsNextBy why.NoFallback parents n bundle next = next ≡ end
IsNextBy why.Parent parents n bundle next = IsNextInText parent_key bundle next
IsNextBy why.Explicit parents n bundle next = option_map goes_to (parents n) ≡ Some next
IsNextBy why.Shorter parents n bundle next = option_map goes_to (shorter n) ≡ Some next
IsNextBy why.Last parents n bundle next = (next ≡ end) ⊎ (next ≡ goes_to root)

-- ---- the words of a cause
abbrev pub cause_words : Cause → List ℕ
cause_words why.Alias = codes "by its %%ALIAS"
cause_words why.NoFallback = codes "as it has no fallback"
cause_words why.Parent = codes "by its %%Parent"
cause_words why.Explicit = codes "by the explicit parents"
cause_words why.Shorter = codes "the shorter name"
cause_words why.Last = codes "the last"
