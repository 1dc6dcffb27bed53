-- Defines the reply to a request for a tree, a form of this project: an item with everything that it inherits, or the
-- code of an error. What is in a tree rb_inherit's `IsTreeOf` defines.
use Rattle.std.specs.Prelude.{◌≡◌, ◌⊎◌, ℕ, true, List, length, is_some, codes, Result, Ok}
use Rattle.rb_parents.specs.Family.{parent_in}
use Rattle.rb_parents.specs.Trail.{Bundles, ParentsOf}
use Rattle.rb_fallback.specs.Search.{Hit}
use Rattle.rb_inherit.specs.Lookups.{IsTreeOf}
use Rattle.rb_packages.specs.Packages.{list_of}
use Rattle.rb_packages.specs.Shelf.{bundle_at}
use Rattle.rb_replies.specs.Extended.{tree_line}
use Rattle.rb_replies.specs.Within.{IsAbove}
use Rattle.rb_engine.specs.Answer.{Finds, Replies, Refuses as Fails}
use Rattle.rb_engine.specs.Ask.{LooksUp}
use Rattle.rb_engine.specs.Kept.{Kept}
use Rattle.rb_engine.specs.Place.{place_of}
use Rattle.rb_engine.specs.Words.{look_word}
use Rattle.rb_engine.specs.declared.place.Place.{Place}
use Rattle.rb_requests.specs.Steps.{Outcome, Answers, Refuses, CallIsJudged}
use Rattle.rb_requests.specs.Within.{error_line}
use Rattle.rb_requests.specs.Words.{refusal_word}
use Rattle.rb_requests.specs.declared.limits.Limits.{Limits}

-- the code of a tree's own error, which a lookup of its path needn't have: the tree takes too many steps or is too
-- large, or its line is above the limit on replies, if there is one; when they come is left open
abbrev pub IsTreeError : Limits → (word : List ℕ) → Type 0
IsTreeError limits word = (word ≡ codes "TooManySteps") ⊎ ((word ≡ codes "TreeTooLarge")
    ⊎ ((is_some limits.reply_bytes ≡ true) × (word ≡ codes "ReplyTooLong")))

-- the tree of an item that a lookup under a name finds, with the lookup's locales, in a line within the limit; or the
-- code of the tree's own error
abbrev pub FoundReply : Limits → Bundles → ParentsOf → (n path : List ℕ) → Hit → (valid text : List ℕ) → Type 0
FoundReply limits bundles parents n path hit valid text = ((tree : List ℕ)
    × IsTreeOf bundles parents n path (λ written. tree ≡ written) hit × (text ≡ tree_line hit.actual valid tree)
    × (IsAbove (length text) limits.reply_bytes → ⊥)) ⊎ ((w : List ℕ) × IsTreeError limits w × (text ≡ error_line w))

-- the error of a lookup is that of the tree
abbrev pub OutcomeReply : {E : Type 0} → Limits → Kept → Result Place E → (path : List ℕ) → Outcome → List ℕ → Type 0
OutcomeReply limits kept place path (Answers (Finds hit valid)) text = (p : Place) × (place ≡ Ok p)
    × FoundReply limits (bundle_at (list_of p.app kept.packages)) (parent_in kept.parents) p.name path hit valid text
OutcomeReply limits kept place path (Answers (Fails fault)) text = text ≡ error_line (look_word fault)
OutcomeReply limits kept place path (Answers (Replies reply)) text = ⊥
OutcomeReply limits kept place path (Refuses refusal) text = text ≡ error_line (refusal_word refusal)

-- the reply to a request for a tree is that of what a lookup with these names comes to under the limits
abbrev pub TreeReply : Limits → Kept → (app locale path text : List ℕ) → Type 0
TreeReply limits kept app locale path text = (outcome : Outcome)
    × CallIsJudged limits kept (LooksUp app locale path) outcome kept
    × OutcomeReply limits kept (place_of app locale) path outcome text
