-- For proofs and private contracts: defines the grammar as a function that reads tokens from left to right and stops at
-- the first error that it meets. Form and Good define bundle texts, and Faults their errors; laws say that this
-- function agrees with them.
use Rattle.std.specs.Prelude.{ℕ, zero, suc, ◌||◌, Bool, true, false, List, [], ◌∷◌, length, Option, Some, None, Result}
use Rattle.std.specs.Prelude.{Ok, Err, nat_lt, nat_eq, if◌then◌else◌}
use Rattle.std.specs.Cmp.Lexicographic.{pointwise}
use Rattle.rb_lexer.specs.declared.token.Mark.{Mark}
use Rattle.rb_lexer.specs.declared.token.Mark.TheVariants.{Text, LeftBrace, RightBrace, Colon, Comma}
use Rattle.rb_lexer.specs.declared.token.Token.{Token}
use Rattle.rb_lexer.specs.declared.fault.SourceKind.{SourceKind}
use Rattle.rb_lexer.specs.declared.fault.SourceKind.TheVariants.{Unexpected, UnknownType, BadKey, DuplicateKey, BadInt}
use Rattle.rb_lexer.specs.declared.fault.SourceKind.TheVariants.{BadHex, TooDeep, TrailingText}
use Rattle.rb_grammar.specs.Form.{string, alias, binary, int, ints, Body, plain, group, listed, leaf, table, array}
use Rattle.rb_grammar.specs.Form.{Entries, no_entries, entry, Elements}
use Rattle.rb_grammar.specs.Form.{no_elements, one_text, one_body, string_word, alias_word, binary_word, int_word}
use Rattle.rb_grammar.specs.Form.{ints_word, table_word}
use Rattle.rb_grammar.specs.Form.{no_fallback_table_word, array_word, Head, untyped, plain_table, no_fallback_table}

-- the reason why reading stops, and the tokens from the invalid one on
pub record Stop : Type 0 where
  pub kind : SourceKind
  pub rest : List Token

abbrev pub stop : SourceKind → List Token → Stop
stop kind rest = record { kind = kind; rest = rest }

-- a value, and the tokens after it
abbrev pub Read : Type 0 → Type 0
Read A = Result (A × List Token) Stop

infixl 10 ◌>>=◌
abbrev pub ◌>>=◌ : {A B : Type 0} → Result A Stop → (A → Result B Stop) → Result B Stop
(Ok x) >>= f = f x
(Err e) >>= f = Err e

abbrev pub text_of : Mark → Option (List ℕ)
text_of (Text s) = Some s
text_of other = None

-- punctuation
pub data Punctuation : Type 0 where
  left : Punctuation
  right : Punctuation
  colon : Punctuation
  comma : Punctuation

abbrev pub punctuation_mark : Punctuation → Mark
punctuation_mark left = LeftBrace
punctuation_mark right = RightBrace
punctuation_mark colon = Colon
punctuation_mark comma = Comma

abbrev pub is_punctuation : Punctuation → Mark → Bool
is_punctuation left LeftBrace = true
is_punctuation right RightBrace = true
is_punctuation colon Colon = true
is_punctuation comma Comma = true
is_punctuation s m = false

abbrev pub begins : Punctuation → List Token → Bool
begins s [] = false
begins s (t ∷ ts) = is_punctuation s t.what

abbrev pub tail : List Token → List Token
tail [] = []
tail (t ∷ ts) = ts

-- a required punctuation mark
abbrev pub punctuation_at : Punctuation → List Token → Result (List Token) Stop
punctuation_at s ts = if begins s ts then Ok (tail ts) else Err (stop Unexpected ts)

-- an optional text
abbrev pub first_text : List Token → Option (List ℕ)
first_text [] = None
first_text (t ∷ ts) = text_of t.what

abbrev pub text_or : List Token → Option (List ℕ) → Read (List ℕ)
text_or ts None = Err (stop Unexpected ts)
text_or ts (Some s) = Ok (s, tail ts)

abbrev pub text_at : List Token → Read (List ℕ)
text_at ts = text_or ts (first_text ts)

-- an optional comma
abbrev pub has_comma : List Token → Bool
has_comma ts = begins comma ts

abbrev pub after_comma : List Token → List Token
after_comma ts = if has_comma ts then tail ts else ts

-- ---- the conditions, as tests; the module's laws tie them to their definitions
pub record Tests : Type 0 where
  pub is_key : List ℕ → Bool
  pub is_int : List ℕ → Bool
  pub is_element : List ℕ → Bool
  pub is_hex : List ℕ → Bool

-- ---- types

pub data Word : Type 0 where
  string_type : Word
  alias_type : Word
  binary_type : Bool → Word
  int_type : Bool → Word
  ints_type : Word
  table_type : Word
  array_type : Word

abbrev pub word_units : Word → List ℕ
word_units string_type = string_word
word_units alias_type = alias_word
word_units (binary_type long) = binary_word long
word_units (int_type long) = int_word long
word_units ints_type = ints_word
word_units table_type = table_word
word_units array_type = array_word

abbrev pub first_word : List ℕ → List Word → Option Word
first_word s [] = None
first_word s (w ∷ ws) = if pointwise nat_eq s (word_units w) then Some w else first_word s ws

abbrev pub all_words : List Word
all_words = string_type ∷ alias_type ∷ binary_type true ∷ binary_type false ∷ int_type true ∷ int_type false
    ∷ ints_type ∷ table_type ∷ array_type ∷ []

-- the type word that only a bundle's own table may have
abbrev pub is_no_fallback_word : List ℕ → Bool
is_no_fallback_word s = pointwise nat_eq s no_fallback_table_word

abbrev pub is_no_fallback_text : Option (List ℕ) → Bool
is_no_fallback_text None = false
is_no_fallback_text (Some s) = is_no_fallback_word s

-- the error of a text that names no type of a value: it names a type that is misplaced, or none
abbrev pub word_fault : List ℕ → SourceKind
word_fault s = if is_no_fallback_word s then Unexpected else UnknownType

abbrev pub word_or : List Token → List ℕ → Option Word → Read Word
word_or ts s None = Err (stop (word_fault s) ts)
word_or ts s (Some w) = Ok (w, tail ts)

-- after a colon: the type word of a value
abbrev pub word_at : List Token → Read Word
word_at ts = text_at ts >>= λ s. word_or ts s.0 (first_word s.0 all_words)

-- ---- leaves

-- a required text that passes a test
abbrev pub checked_at : SourceKind → (List ℕ → Bool) → List Token → Read (List ℕ)
checked_at kind passes ts = text_at ts >>= λ s. if passes s.0 then Ok s else Err (stop kind ts)

-- an optional text that passes a test
abbrev pub maybe_or : SourceKind → (List ℕ → Bool) → List Token → Option (List ℕ) → Read (Option (List ℕ))
maybe_or kind passes ts None = Ok (None, ts)
maybe_or kind passes ts (Some s) = if passes s then Ok (Some s, tail ts) else Err (stop kind ts)

abbrev pub maybe_at : SourceKind → (List ℕ → Bool) → List Token → Read (Option (List ℕ))
maybe_at kind passes ts = maybe_or kind passes ts (first_text ts)

abbrev pub numbers_step : (List ℕ → Bool) → (List Token → Read (List (List ℕ × Bool))) → List Token → Option (List ℕ)
    → Read (List (List ℕ × Bool))
numbers_step passes more ts None = Ok ([], ts)
numbers_step passes more ts (Some s) =
    if passes s then (more (after_comma (tail ts)) >>= λ ns. Ok ((s, has_comma (tail ts)) ∷ ns.0, ns.1))
    else Err (stop BadInt ts)

unfoldable pub numbers : (List ℕ → Bool) → ℕ → List Token → Read (List (List ℕ × Bool))
numbers passes zero ts = Err (stop Unexpected ts)
numbers passes (suc n) ts = numbers_step passes (numbers passes n) ts (first_text ts)

abbrev pub anything : List ℕ → Bool
anything s = true

-- ---- entries and elements, up to the brace that closes them

abbrev pub is_among : List (List ℕ) → List ℕ → Bool
is_among [] k = false
is_among (l ∷ ls) k = pointwise nat_eq k l || is_among ls k

abbrev pub entry_at : Tests → (List Token → Read Body) → List (List ℕ) → List ℕ → List Token → Read Body
entry_at tests body earlier k ts = if tests.is_key k
    then (if is_among earlier k then Err (stop DuplicateKey ts) else body (tail ts)) else Err (stop BadKey ts)

abbrev pub entries_step : Tests → (List Token → Read Body) → (List (List ℕ) → List Token → Read Entries)
    → List (List ℕ) → List Token → Option (List ℕ)
    → Read Entries
entries_step tests body more earlier ts None = punctuation_at right ts >>= λ after. Ok (no_entries, after)
entries_step tests body more earlier ts (Some k) = do
  b ← entry_at tests body earlier k ts
  es ← more (k ∷ earlier) (after_comma b.1)
  Ok (entry k b.0 (has_comma b.1) es.0, es.1)

unfoldable pub entries : Tests → (List Token → Read Body) → ℕ → List (List ℕ) → List Token → Read Entries
entries tests body zero earlier ts = Err (stop Unexpected ts)
entries tests body (suc n) earlier ts = entries_step tests body (entries tests body n) earlier ts (first_text ts)

-- the flag says whether an element may be one level deeper
abbrev pub elements_step : Bool → (List Token → Read Body) → (List Token → Read Elements) → List Token
    → Option (List ℕ) → Read Elements
elements_step room body more ts None =
    if begins colon ts || begins left ts
    then (body ts >>= λ b. more (after_comma b.1) >>= λ xs. Ok (one_body b.0 (has_comma b.1) xs.0, xs.1)) else
    (punctuation_at right ts >>= λ after. Ok (no_elements, after))
elements_step room body more ts (Some s) =
    if room then (more (after_comma (tail ts)) >>= λ xs. Ok (one_text s (has_comma (tail ts)) xs.0, xs.1))
    else Err (stop TooDeep ts)

unfoldable pub elements : Bool → (List Token → Read Body) → ℕ → List Token → Read Elements
elements room body zero ts = Err (stop Unexpected ts)
elements room body (suc n) ts = elements_step room body (elements room body n) ts (first_text ts)

-- ---- bodies

-- the reader of the values inside, and whether there may be any
pub record Inner : Type 0 where
  pub room : Bool
  pub reads : List Token → Read Body

abbrev pub table_at : Tests → Inner → List Token → Read Entries
table_at tests inner ts = entries tests inner.reads (suc (length ts)) [] ts

abbrev pub array_at : Inner → List Token → Read Elements
array_at inner ts = elements inner.room inner.reads (suc (length ts)) ts

abbrev pub closed : {A : Type 0} → (A → Body) → Read A → Read Body
closed make read = read >>= λ x. punctuation_at right x.1 >>= λ after. Ok (make x.0, after)

-- after the brace of a body with a type
abbrev pub typed_at : Tests → Inner → Word → List Token → Read Body
typed_at tests inner string_type ts = closed (λ t. leaf (string t)) (maybe_at BadHex anything ts)
typed_at tests inner alias_type ts = closed (λ t. leaf (alias t)) (maybe_at BadHex anything ts)
typed_at tests inner (binary_type long) ts = closed (λ t. leaf (binary long t)) (maybe_at BadHex tests.is_hex ts)
typed_at tests inner (int_type long) ts = closed (λ s. leaf (int long s)) (checked_at BadInt tests.is_int ts)
typed_at tests inner ints_type ts = closed (λ ns. leaf (ints ns)) (numbers tests.is_element (suc (length ts)) ts)
typed_at tests inner table_type ts = table_at tests inner ts >>= λ es. Ok (table es.0, es.1)
typed_at tests inner array_type ts = array_at inner ts >>= λ xs. Ok (array xs.0, xs.1)

-- after the brace of a body without a type: the guess
pub data Guess : Type 0 where
  as_text : Guess
  as_table : Guess
  as_array : Guess
  none_at : List Token → Guess

abbrev pub guess_second : List Token → Guess
guess_second ts =
    if begins comma ts then as_array
    else (if begins right ts then as_text else (if begins left ts || begins colon ts then as_table else none_at ts))

abbrev pub guess_or : List Token → Option (List ℕ) → Guess
guess_or ts None = if begins left ts || begins colon ts || begins right ts then as_array else none_at ts
guess_or ts (Some s) = guess_second (tail ts)

abbrev pub guess : List Token → Guess
guess ts = guess_or ts (first_text ts)

abbrev pub untyped_at : Tests → Inner → Guess → List Token → Read Body
untyped_at tests inner as_text ts = closed plain (text_at ts)
untyped_at tests inner as_table ts = table_at tests inner ts >>= λ es. Ok (group es.0, es.1)
untyped_at tests inner as_array ts = array_at inner ts >>= λ xs. Ok (listed xs.0, xs.1)
untyped_at tests inner (none_at rest) ts = Err (stop Unexpected rest)

-- a body, where one is allowed
abbrev pub body_at : Tests → Inner → List Token → Read Body
body_at tests inner ts =
    if begins colon ts
    then (word_at (tail ts) >>= λ w. punctuation_at left w.1 >>= λ after. typed_at tests inner w.0 after)
    else (punctuation_at left ts >>= λ after. untyped_at tests inner (guess after) after)

-- A body that contains others to at most this depth.
unfoldable pub body : Tests → ℕ → List Token → Read Body
unfolding entries elements numbers
body tests zero ts = if begins colon ts || begins left ts then Err (stop TooDeep ts) else Err (stop Unexpected ts)
body tests (suc depth) ts = body_at tests (record { room = nat_lt 0 depth; reads = body tests depth }) ts

-- ---- the bundle, all of the tokens

abbrev pub ended : List ℕ → Head → Entries → List Token → Result (List ℕ × Head × Entries) Stop
ended name head es [] = Ok (name, head, es)
ended name head es (t ∷ ts) = Err (stop TrailingText (t ∷ ts))

abbrev pub table_word_or : List Token → Word → List Token → Read Head
table_word_or ts table_type rest = Ok (plain_table, rest)
table_word_or ts other rest = Err (stop Unexpected ts)

-- after the colon of a bundle
abbrev pub head_word_at : List Token → Read Head
head_word_at ts = if is_no_fallback_text (first_text ts) then Ok (no_fallback_table, tail ts)
    else (word_at ts >>= λ w. table_word_or ts w.0 w.1)

-- the optional type of the bundle
abbrev pub type_at : List Token → Read Head
type_at ts = if begins colon ts then head_word_at (tail ts) else Ok (untyped, ts)

unfoldable pub bundle : Tests → List Token → Result (List ℕ × Head × Entries) Stop
unfolding entries
bundle tests ts = do
  name ← text_at ts
  head ← type_at name.1
  after ← punctuation_at left head.1
  es ← entries tests (body tests 63) (suc (length after)) [] after
  ended name.0 head.0 es.0 es.1
