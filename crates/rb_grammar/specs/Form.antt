-- Defines the written form of a bundle text, after the bundle syntax of ICU's genrb, and the marks (texts and
-- punctuation) that spell it. A list of marks is in the grammar if it spells some form. Each spelling is followed by
-- the remaining marks.
use Rattle.std.specs.Prelude.{◌≡◌, ℕ, Bool, true, false, List, [], ◌∷◌, map, Option, Some, None, ◌⊎◌}
use Rattle.rb_lexer.specs.declared.token.Mark.{Mark}
use Rattle.rb_lexer.specs.declared.token.Mark.TheVariants.{Text, LeftBrace, RightBrace, Colon, Comma}
use Rattle.rb_lexer.specs.declared.token.Token.{Token}

abbrev pub marks : List Token → List Mark
marks ts = map (λ t. t.what) ts

-- the content of a body of a type without children: an optional text, or texts
pub data Leaf : Type 0 where
  string : Option (List ℕ) → Leaf
  alias : Option (List ℕ) → Leaf
  binary : Bool → Option (List ℕ) → Leaf
  int : Bool → List ℕ → Leaf
  ints : List (List ℕ × Bool) → Leaf

mutual
  -- a value: the body after a key, or of an element
  pub data Body : Type 0 where
    -- without a type: one text, entries, or elements
    plain : List ℕ → Body
    group : Entries → Body
    listed : Elements → Body
    -- with a type
    leaf : Leaf → Body
    table : Entries → Body
    array : Elements → Body

  -- each with its key and body, and whether a comma follows
  pub data Entries : Type 0 where
    no_entries : Entries
    entry : List ℕ → Body → Bool → Entries → Entries

  -- each a text or a body, and whether a comma follows
  pub data Elements : Type 0 where
    no_elements : Elements
    one_text : List ℕ → Bool → Elements → Elements
    one_body : Body → Bool → Elements → Elements

-- ---- the type words

abbrev pub string_word : List ℕ
string_word = 0x73 ∷ 0x74 ∷ 0x72 ∷ 0x69 ∷ 0x6E ∷ 0x67 ∷ []

abbrev pub alias_word : List ℕ
alias_word = 0x61 ∷ 0x6C ∷ 0x69 ∷ 0x61 ∷ 0x73 ∷ []

-- `binary` or `bin`
abbrev pub binary_word : Bool → List ℕ
binary_word true = 0x62 ∷ 0x69 ∷ 0x6E ∷ 0x61 ∷ 0x72 ∷ 0x79 ∷ []
binary_word false = 0x62 ∷ 0x69 ∷ 0x6E ∷ []

-- `integer` or `int`
abbrev pub int_word : Bool → List ℕ
int_word true = 0x69 ∷ 0x6E ∷ 0x74 ∷ 0x65 ∷ 0x67 ∷ 0x65 ∷ 0x72 ∷ []
int_word false = 0x69 ∷ 0x6E ∷ 0x74 ∷ []

abbrev pub ints_word : List ℕ
ints_word = 0x69 ∷ 0x6E ∷ 0x74 ∷ 0x76 ∷ 0x65 ∷ 0x63 ∷ 0x74 ∷ 0x6F ∷ 0x72 ∷ []

abbrev pub table_word : List ℕ
table_word = 0x74 ∷ 0x61 ∷ 0x62 ∷ 0x6C ∷ 0x65 ∷ []

-- `table(nofallback)`, which only a bundle's own table may have
abbrev pub no_fallback_table_word : List ℕ
no_fallback_table_word = 0x74 ∷ 0x61 ∷ 0x62 ∷ 0x6C ∷ 0x65 ∷ 0x28 ∷ 0x6E ∷ 0x6F ∷ 0x66 ∷ 0x61 ∷ 0x6C ∷ 0x6C ∷ 0x62
    ∷ 0x61 ∷ 0x63 ∷ 0x6B ∷ 0x29 ∷ []

abbrev pub array_word : List ℕ
array_word = 0x61 ∷ 0x72 ∷ 0x72 ∷ 0x61 ∷ 0x79 ∷ []

-- ---- the spelling

abbrev pub comma_marks : Bool → List Mark → List Mark
comma_marks true rest = Comma ∷ rest
comma_marks false rest = rest

abbrev pub text_marks : Option (List ℕ) → List Mark → List Mark
text_marks None rest = rest
text_marks (Some s) rest = Text s ∷ rest

abbrev pub numbers_marks : List (List ℕ × Bool) → List Mark → List Mark
numbers_marks [] rest = rest
numbers_marks (n ∷ ns) rest = Text n.0 ∷ comma_marks n.1 (numbers_marks ns rest)

abbrev pub leaf_word : Leaf → List ℕ
leaf_word (string t) = string_word
leaf_word (alias t) = alias_word
leaf_word (binary long t) = binary_word long
leaf_word (int long s) = int_word long
leaf_word (ints ns) = ints_word

abbrev pub leaf_inner : Leaf → List Mark → List Mark
leaf_inner (string t) rest = text_marks t rest
leaf_inner (alias t) rest = text_marks t rest
leaf_inner (binary long t) rest = text_marks t rest
leaf_inner (int long s) rest = Text s ∷ rest
leaf_inner (ints ns) rest = numbers_marks ns rest

abbrev mutual
  pub body_marks : Body → List Mark → List Mark
  body_marks (plain s) rest = LeftBrace ∷ Text s ∷ RightBrace ∷ rest
  body_marks (group es) rest = LeftBrace ∷ entries_marks es (RightBrace ∷ rest)
  body_marks (listed xs) rest = LeftBrace ∷ elements_marks xs (RightBrace ∷ rest)
  body_marks (leaf l) rest = Colon ∷ Text (leaf_word l) ∷ LeftBrace ∷ leaf_inner l (RightBrace ∷ rest)
  body_marks (table es) rest = Colon ∷ Text table_word ∷ LeftBrace ∷ entries_marks es (RightBrace ∷ rest)
  body_marks (array xs) rest = Colon ∷ Text array_word ∷ LeftBrace ∷ elements_marks xs (RightBrace ∷ rest)

  pub entries_marks : Entries → List Mark → List Mark
  entries_marks no_entries rest = rest
  entries_marks (entry k b c es) rest = Text k ∷ body_marks b (comma_marks c (entries_marks es rest))

  pub elements_marks : Elements → List Mark → List Mark
  elements_marks no_elements rest = rest
  elements_marks (one_text s c xs) rest = Text s ∷ comma_marks c (elements_marks xs rest)
  elements_marks (one_body b c xs) rest = body_marks b (comma_marks c (elements_marks xs rest))

-- ---- a bundle

-- the type between the name of a bundle and its brace: none, `:table`, or `:table(nofallback)`
pub data Head : Type 0 where
  untyped : Head
  plain_table : Head
  no_fallback_table : Head

abbrev pub head_marks : Head → List Mark → List Mark
head_marks untyped rest = rest
head_marks plain_table rest = Colon ∷ Text table_word ∷ rest
head_marks no_fallback_table rest = Colon ∷ Text no_fallback_table_word ∷ rest

abbrev pub has_no_fallback : Head → Bool
has_no_fallback untyped = false
has_no_fallback plain_table = false
has_no_fallback no_fallback_table = true

abbrev pub bundle_marks : List ℕ → Head → Entries → List Mark
bundle_marks name head es = Text name ∷ head_marks head (LeftBrace ∷ entries_marks es (RightBrace ∷ []))

-- ---- the guess if no type is written

-- the body holds entries: a text, and then a brace or a colon
abbrev pub AreSome : Entries → Type 0
AreSome no_entries = ⊥
AreSome (entry k b c es) = Unit {0}

-- the elements begin as an array: with none of them, with a body, or with a text and a comma
abbrev pub BeginArray : Elements → Type 0
BeginArray no_elements = Unit {0}
BeginArray (one_text s c xs) = c ≡ true
BeginArray (one_body b c xs) = Unit {0}

abbrev mutual
  pub IsForm : Body → Type 0
  IsForm (plain s) = Unit {0}
  IsForm (group es) = AreSome es × AreForms es
  IsForm (listed xs) = BeginArray xs × EachIsForm xs
  IsForm (leaf l) = Unit {0}
  IsForm (table es) = AreForms es
  IsForm (array xs) = EachIsForm xs

  pub AreForms : Entries → Type 0
  AreForms no_entries = Unit {0}
  AreForms (entry k b c es) = IsForm b × AreForms es

  pub EachIsForm : Elements → Type 0
  EachIsForm no_elements = Unit {0}
  EachIsForm (one_text s c xs) = EachIsForm xs
  EachIsForm (one_body b c xs) = IsForm b × EachIsForm xs

-- the key of one of the entries
abbrev pub IsKeyOf : Entries → List ℕ → Type 0
IsKeyOf no_entries q = ⊥
IsKeyOf (entry k b c es) q = (q ≡ k) ⊎ IsKeyOf es q
