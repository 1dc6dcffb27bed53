-- The replies to extended requests, by what their lines ask.
use Rattle.std.proofs.Common.{◌≡◌, ℕ, List, Option, Some, None, option_map, Result, Ok, Err, refl, sym, ◌∙◌, subst}
use Rattle.std.specs.Prelude.{OnOk, IfErr}
use Rattle.rb_engine.specs.Kept.{Kept}
use Rattle.rb_requests.specs.ExtendedAsked.{ExtendedAsk, ReleaseChange, Releases}
use Rattle.rb_requests.specs.ExtendedReply.{AskReply}
use Rattle.rb_requests.specs.declared.answer.Placed.{Placed}
use Rattle.rb_requests.specs.declared.answer.Starved.{Starved}
use Rattle.rb_requests.specs.declared.extended_ask.ExtendedLine.{ExtendedLine}
use Rattle.rb_requests.specs.declared.limits.Limits.{Limits}
use Rattle.rb_requests.specs.inner.ExtendedLines.{Asks, line_asks}
use Rattle.rb_requests.specs.inner.ExtendedTold.{held_place}
use Rattle.rb_requests.specs.inner.Placing.{PlacesReply}
use Rattle.rb_requests.specs.inner.Putting.{Writer}
use Rattle.rb_requests.specs.inner.Starving.{LeavesOf}

-- a reply that is in the reply line
pub held_reply : (r : Result (Unit {0}) Starved) (placed : Result Placed Starved) (line : List ℕ) (before : Writer) (Is : List ℕ → Type 0)
    → placed ≡ held_place r → OnOk r (Is line) → PlacesReply placed line before before Is
held_reply (Ok x) placed line before Is e told =
    subst (λ (p : Result Placed Starved). PlacesReply p line before before Is) (sym e) (line, told, (refl, refl))
held_reply (Err s) placed line before Is e told = subst (λ (p : Result Placed Starved). PlacesReply p line before before Is) (sym e) refl

pub held_left : (r : Result (Unit {0}) Starved) (placed : Result Placed Starved) (P Q : Starved → Type 0)
    → placed ≡ held_place r → ((s : Starved) → P s → Q s) → IfErr r P → IfErr placed Q
held_left (Ok x) placed P Q e f h = subst (λ (p : Result Placed Starved). IfErr p Q) (sym e) tt
held_left (Err s) placed P Q e f h = subst (λ (p : Result Placed Starved). IfErr p Q) (sym e) (f s h)

same_ask : (o : Option ExtendedAsk) (a b : ExtendedAsk) → o ≡ Some a → o ≡ Some b → a ≡ b
same_ask o a b e f = let two : ◌≡◌ {A = Option ExtendedAsk} (Some a) (Some b) = sym e ∙ f in cc

pub ask_reply : (limits : Limits) (old new : Kept) (o : Option ExtendedAsk) (a b : ExtendedAsk) (text : List ℕ) → o ≡ Some a → o ≡ Some b
    → AskReply limits old a text new → AskReply limits old b text new
ask_reply limits old new o a b text e f h = subst (λ (ask : ExtendedAsk). AskReply limits old ask text new) (same_ask o a b e f) h

pub ask_left : (limits : Limits) (old new : Kept) (o : Option ExtendedAsk) (a b : ExtendedAsk) (s : Starved) → o ≡ Some a → o ≡ Some b
    → LeavesOf (AskReply limits old a) s old new → LeavesOf (AskReply limits old b) s old new
ask_left limits old new o a b s e f h =
    subst (λ (ask : ExtendedAsk). LeavesOf (AskReply limits old ask) s old new) (same_ask o a b e f) h

-- the changes of a release that is asked
pub release_asked : (o : Option (List ReleaseChange)) (app : List ℕ) (ask : ExtendedAsk) → option_map (Releases app) o ≡ Some ask
    → (cs : List ReleaseChange) × (o ≡ Some cs) × (Releases app cs ≡ ask)
release_asked None app ask e = cc
release_asked (Some cs) app ask e = let same : Releases app cs ≡ ask = cc in (cs, refl, same)

-- what a line that was read asks
pub asked_of : (line : ExtendedLine) (o : Option ExtendedLine) (e : Option ExtendedAsk) → o ≡ Some line → Asks o e
    → (ask : ExtendedAsk) × (e ≡ Some ask) × (line_asks line ≡ Some ask)
asked_of line None e is asks = cc
asked_of line (Some l) None is asks = cc
asked_of line (Some l) (Some a) is asks =
    let same : l ≡ line = cc in
    let asked : line_asks l ≡ Some a = cc in
    (a, refl, subst (λ (it : ExtendedLine). line_asks it ≡ Some a) same asked)
