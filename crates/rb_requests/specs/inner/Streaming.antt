-- For what is private. Defines the effect of writing bytes to a stream.
use Rattle.std.specs.Prelude.{◌≡◌, ℕ, List, [], ◌++◌, Bool, true, false}
use Rattle.std.proofs.Common.{sym, subst, append_assoc, append-nil}
use Rattle.rb_requests.specs.inner.Putting.{Writer, Streams}

-- bytes are appended to the stored ones, or the buffer had no capacity
abbrev pub Holds : Bool → (old now bytes : List ℕ) → Type 0
Holds true old now bytes = now ≡ old ++ bytes
Holds false old now bytes = now ≡ old

-- whatever the text was before, it now has these bytes more
abbrev pub Takes : (old_failed : Bool) (old : Writer) (old_rest : List ℕ) (failed : Bool) (now : Writer)
    (rest bytes : List ℕ) → Type 0
Takes old_failed old old_rest failed now rest bytes =
    (before : Writer) (text : List ℕ) → Streams old_failed before old old_rest text
    → Streams failed before now rest (text ++ bytes)

pub takes_nothing : (failed : Bool) (now : Writer) (rest : List ℕ) → Takes failed now rest failed now rest []
takes_nothing failed now rest before text h = subst (Streams failed before now rest) (sym (append-nil text)) h

pub takes_joined : (f : Bool) (x : Writer) (r : List ℕ) (g : Bool) (y : Writer) (s : List ℕ) (h : Bool) (z : Writer)
    (t a b : List ℕ)
    → Takes f x r g y s a → Takes g y s h z t b → Takes f x r h z t (a ++ b)
takes_joined f x r g y s h z t a b first second before text k =
    subst (Streams h before z t) (append_assoc text a b) (second before (text ++ a) (first before text k))
