-- The bundles of a list, one by one.
use Rattle.std.proofs.Common.{◌≡◌, ◌+◌, ◌<◌, ℕ, List, length, get_or, drop, cond, Some, None, ap, sym, ◌∙◌, arith}
use Rattle.std.proofs.lemmas.List.{at_drop_more, at_drop_all}
use Rattle.std.specs.Str.{bytes_eq}
use Rattle.rb_console.specs.declared.given.Given.{Given}
use Rattle.rb_inspect.specs.inner.Files.{bundle_named}

pub file_step : (n : List ℕ) (bs : List Given) (i : ℕ) (b : Given) → b ≡ get_or bs i b → i < length bs
    → bundle_named n (drop i bs) ≡ cond (bytes_eq b.name n) (Some b) (bundle_named n (drop (i + 1) bs))
file_step n bs i b e h =
    at_drop_more (bundle_named n) bs i b h
    ∙ ap (λ (y : Given). cond (bytes_eq y.name n) (Some y) (bundle_named n (drop (i + 1) bs))) (sym e)

pub file_end : (n : List ℕ) (bs : List Given) (i : ℕ) → i ≡ length bs → bundle_named n (drop i bs) ≡ None
file_end n bs i h = at_drop_all (bundle_named n) bs i (omega arith)
