-- Defines what a lookup answers in C (kinds: `UResType` of ICU's `ures.h`), a rule of this project.
use Rattle.std.specs.Prelude.{◌≡◌, ℕ, Bool, List, Option, Some, MatchOption, unwrap_or}
use Rattle.std.specs.Prelude.{encode_utf8_all}
use Rattle.std.specs.Char.Utf16.{utf16_lossy_chars}
use Rattle.rb_tree.specs.Parts.{kind_of, len_of}
use Rattle.rb_tree.specs.declared.kind.Kind.{Kind}
use Rattle.rb_tree.specs.declared.kind.Kind.TheVariants as kinds
use Rattle.rb_views.specs.Parts.{text_of, uint_of}
use Rattle.rb_fallback.specs.Search.{Hit}
use Rattle.rb_engine.specs.Ask.{Looks}
use Rattle.rb_engine.specs.Answer.{Response, Replies, Finds, Refuses, answer_over}
use Rattle.rb_engine.specs.Kept.{Kept, state_of}
use Rattle.rb_engine.specs.Place.{place_of}
use Rattle.rb_engine.specs.Steps.{exceeds}
use Rattle.resb.specs.Copied.{CopiesBytes}
use Rattle.resb.specs.Numbers.{look_number}

-- the answer of the engine's theorem: it reads the application's own bundles, and those of ICUDATA
abbrev pub answer_in : Kept → List ℕ → List ℕ → List ℕ → Response
answer_in engine app locale path = answer_over (state_of engine).start ((state_of engine).lists app) (Looks app locale path)

-- whether the lookup takes more steps than a limit; `None` is no limit
abbrev pub exceeds_in : Kept → Option ℕ → List ℕ → List ℕ → List ℕ → Bool
exceeds_in engine left app locale path = exceeds left (state_of engine).start ((state_of engine).lists app) (place_of app locale) path

abbrev pub takes_more_in : Kept → ℕ → List ℕ → List ℕ → List ℕ → Bool
takes_more_in engine steps app locale path = exceeds_in engine (Some steps) app locale path

-- the number of a lookup's error; or what holds of the item that it finds, and of the first name on the locale's trail
abbrev pub IfFound : Response → ℕ → (Hit → List ℕ → Type 0) → Type 0
IfFound (Replies reply) n Holds = Unit {0}
IfFound (Refuses fault) n Holds = n ≡ look_number fault
IfFound (Finds hit valid) n Holds = Holds hit valid

-- the number of a kind in ICU's `UResType`
abbrev pub kind_number : Kind → ℕ
kind_number kinds.String = 0
kind_number kinds.Binary = 1
kind_number kinds.Table = 2
kind_number kinds.Alias = 3
kind_number kinds.Int = 7
kind_number kinds.Array = 8
kind_number kinds.Ints = 14

-- 0, the kind and the count of the item that is found, and the number of an int, else 0; or the number of the error
abbrev pub Describes : Response → ℕ → ℕ → ℕ → ℕ → Type 0
Describes response n kind count number = IfFound response n (λ hit valid. (n ≡ 0)
    × (kind ≡ kind_number (kind_of hit.tree)) × (count ≡ len_of hit.tree) × (number ≡ unwrap_or (uint_of hit.tree) 0))

-- a copy of units or bytes, or the number of an error if there are none
abbrev pub IsCopied : (missing : ℕ) → Option (List ℕ) → ℕ → ℕ → ℕ → List ℕ → Type 0
IsCopied missing units n count room copy = MatchOption units (n ≡ missing) (λ us. CopiesBytes us n count room copy)

-- a copy of the string that is found
abbrev pub Copies : Response → ℕ → ℕ → ℕ → List ℕ → Type 0
Copies response n count room copy = IfFound response n (λ hit valid. IsCopied 6 (text_of hit.tree) n count room copy)

-- a copy of the string that is found, as UTF-8, with U+FFFD for a surrogate without its other half
abbrev pub CopiesUtf8 : Response → ℕ → ℕ → ℕ → List ℕ → Type 0
CopiesUtf8 response n count room copy = IfFound response n (λ hit valid. MatchOption (text_of hit.tree) (n ≡ 6)
    (λ us. CopiesBytes (encode_utf8_all (utf16_lossy_chars us)) n count room copy))
