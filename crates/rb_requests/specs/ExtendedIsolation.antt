-- Defines that the replies to one application's lines don't depend on those of the others, extended requests among
-- them: this project's rule. Some replies are left open, such as the text of an export, so it speaks of possible ones.
use Rattle.std.specs.Prelude.{◌≡◌, ◌+◌, ℕ, Bool, true, false, List, [], ◌∷◌, if◌then◌else◌, Option, Some, None}
use Rattle.std.specs.Str.{bytes_eq}
use Rattle.rb_engine.specs.Ask.{caller}
use Rattle.rb_engine.specs.Kept.{Kept, state_of}
use Rattle.rb_packages.specs.Packages.{files_of}
use Rattle.rb_packages.specs.Usage.{apps_of}
use Rattle.rb_requests.specs.ExtendedAsked.{ExtendedAsk, Calls, Puts, Releases, Exports, AsksTree, AsksSizes, AsksUsage}
use Rattle.rb_requests.specs.ExtendedAsked.{extended_of}
use Rattle.rb_requests.specs.ExtendedReply.{ExtendedWithin}
use Rattle.rb_requests.specs.Limits.{is_over}
use Rattle.rb_requests.specs.Lines.{RepliesBy}
use Rattle.rb_requests.specs.declared.limits.Limits.{Limits}

-- the application that asks
abbrev pub extended_asker : ExtendedAsk → List ℕ
extended_asker (Calls call) = caller call
extended_asker (Puts app locale payload) = app
extended_asker (Releases app changes) = app
extended_asker (Exports app locale is_text) = app
extended_asker (AsksTree app locale path) = app
extended_asker (AsksSizes app) = app
extended_asker (AsksUsage app) = app

abbrev pub asks_of : List ℕ → Option ExtendedAsk → Bool
asks_of app None = false
asks_of app (Some ask) = bytes_eq (extended_asker ask) app

-- a line asks something of the application
abbrev pub is_line_of : List ℕ → List ℕ → Bool
is_line_of app line = asks_of app (extended_of line)

-- two states with equal files of an application, equal files of ICUDATA and equal parents
pub record IsSame (app : List ℕ) (k l : Kept) : Type 0 where
  pub start : (state_of k).start ≡ (state_of l).start
  pub files : files_of app k.packages ≡ files_of app l.packages

-- the limit on applications, if there is one, is the only thing that they share
abbrev pub has_all_apps : Limits → Kept → Bool
has_all_apps limits k = is_over limits.apps (apps_of k.packages + 1)

-- ---- one line

-- from two states that are the same to an application its line has the same possible replies, after which they are the
-- same to it
abbrev pub RepliesAlike : Type 0
RepliesAlike =
    (limits : Limits) (app line text : List ℕ) (k k' l : Kept)
    → is_line_of app line ≡ true
    → IsSame app k l
    → has_all_apps limits k ≡ has_all_apps limits l
    → ExtendedWithin limits k line text k'
    → (l' : Kept) × ExtendedWithin limits l line text l' × IsSame app k' l'

-- any other line leaves an application its files
abbrev pub LeavesAlone : Type 0
LeavesAlone =
    (limits : Limits) (app line text : List ℕ) (k k' : Kept)
    → is_line_of app line ≡ false
    → ExtendedWithin limits k line text k'
    → IsSame app k k'

-- ---- all lines

-- the application's lines among others
abbrev pub lines_of_app : List ℕ → List (List ℕ) → List (List ℕ)
lines_of_app app [] = []
lines_of_app app (line ∷ rest) = if is_line_of app line then line ∷ lines_of_app app rest else lines_of_app app rest

-- the replies to them
abbrev pub replies_to_app : List ℕ → List (List ℕ) → List (List ℕ) → List (List ℕ)
replies_to_app app [] replies = []
replies_to_app app (line ∷ rest) [] = []
replies_to_app app (line ∷ rest) (reply ∷ more) =
    if is_line_of app line then reply ∷ replies_to_app app rest more else replies_to_app app rest more

-- Without a limit on applications, whatever the others' lines are, an application gets replies that it could get if its
-- own lines were the only ones, and has the same files afterwards.
abbrev pub AreExtendedIsolated : Type 0
AreExtendedIsolated =
    (limits : Limits) (app : List ℕ) (s t end : Kept) (lines replies : List (List ℕ))
    → limits.apps ≡ None
    → IsSame app s t
    → RepliesBy (ExtendedWithin limits) s lines replies end
    → (end' : Kept) × IsSame app end end'
    × RepliesBy (ExtendedWithin limits) t (lines_of_app app lines) (replies_to_app app lines replies) end'
