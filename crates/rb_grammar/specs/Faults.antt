-- Defines the errors of a list of marks, and their lines. The syntax is that of ICU's genrb; the errors and their lines
-- are rules of this project. An error at a mark is given by `front`, the marks before it, and `rest`, the marks from it
-- on; at the end of the text `rest` is empty. The role of a mark follows from the forms that begin with the marks up to
-- it: a text after `{` may be a key, a string or an element, until the next marks decide.
use Rattle.std.specs.Prelude.{◌≡◌, ◌<◌, ◌≤◌, ℕ, ℤ, suc, Bool, List, [], ◌∷◌, ◌++◌, Option, Some, None, ◌⊎◌}
use Rattle.rb_lexer.specs.declared.token.Mark.{Mark}
use Rattle.rb_lexer.specs.declared.token.Mark.TheVariants.{Text, RightBrace, Colon}
use Rattle.rb_lexer.specs.declared.token.Token.{Token}
use Rattle.rb_lexer.specs.declared.fault.SourceKind.{SourceKind}
use Rattle.rb_lexer.specs.declared.fault.SourceKind.TheVariants.{Unexpected, UnknownType, BadKey, DuplicateKey, BadInt}
use Rattle.rb_lexer.specs.declared.fault.SourceKind.TheVariants.{BadHex, TooDeep, TrailingText, TooLarge}
use Rattle.rb_tree.specs.Keys.{IsKey}
use Rattle.rb_tree.specs.Resource.{height, weight}
use Rattle.rb_tree.specs.SourceTree.{SourceTree}
use Rattle.rb_grammar.specs.Numeral.{IsIntText, IsElementText, IsHexText}
use Rattle.rb_grammar.specs.Form.{marks, Leaf, string, alias, binary, int, ints, Body, plain, group, listed, leaf}
use Rattle.rb_grammar.specs.Form.{table, array, Entries, no_entries, entry}
use Rattle.rb_grammar.specs.Form.{Elements, no_elements, one_text, one_body, string_word, alias_word, binary_word}
use Rattle.rb_grammar.specs.Form.{int_word, ints_word, table_word}
use Rattle.rb_grammar.specs.Form.{no_fallback_table_word, array_word, Head, comma_marks, numbers_marks, body_marks}
use Rattle.rb_grammar.specs.Form.{entries_marks, elements_marks, bundle_marks}
use Rattle.rb_grammar.specs.Form.{AreForms}
use Rattle.rb_grammar.specs.Good.{IsSpelled}
use Rattle.rb_tree.specs.Limits.{height_limit, weight_limit}

-- The role of a mark in a form: a key, with the earlier keys of its table; the first mark of a value, at a level; the
-- text of an Int, of an element of a vector, or of bytes.
pub data Role : Type 0 where
  key : List (List ℕ) → List ℕ → Role
  value : ℕ → Role
  int_text : List ℕ → Role
  element_text : List ℕ → Role
  hex_text : List ℕ → Role

abbrev pub IsAmong : List (List ℕ) → List ℕ → Type 0
IsAmong [] k = ⊥
IsAmong (l ∷ ls) k = (k ≡ l) ⊎ IsAmong ls k

-- ---- The first mark of `from`, the marks from some point of a spelling on, has a role that satisfies P; `after`
-- follows the spelling.

abbrev pub NumbersHave : (Role → Type 0) → List (List ℕ × Bool) → List Mark → List Mark → Type 0
NumbersHave P [] after from = ⊥
NumbersHave P (n ∷ ns) after from = ((from ≡ numbers_marks (n ∷ ns) after) × P (element_text n.0))
    ⊎ NumbersHave P ns after from

abbrev pub BytesHave : (Role → Type 0) → Option (List ℕ) → List Mark → List Mark → Type 0
BytesHave P None after from = ⊥
BytesHave P (Some s) after from = (from ≡ Text s ∷ after) × P (hex_text s)

abbrev pub LeafHas : (Role → Type 0) → Leaf → List Mark → List Mark → Type 0
LeafHas P (string t) after from = ⊥
LeafHas P (alias t) after from = ⊥
LeafHas P (binary long t) after from = BytesHave P t after from
LeafHas P (int long s) after from = (from ≡ Text s ∷ after) × P (int_text s)
LeafHas P (ints ns) after from = NumbersHave P ns after from

-- the level is that of the body, or of the bodies inside
abbrev mutual
  pub BodyHas : (Role → Type 0) → Body → ℕ → List Mark → List Mark → Type 0
  BodyHas P (plain s) level after from = (from ≡ body_marks (plain s) after) × P (value level)
  BodyHas P (group es) level after from = ((from ≡ body_marks (group es) after) × P (value level))
      ⊎ EntriesHas P es (suc level) [] (RightBrace ∷ after) from
  BodyHas P (listed xs) level after from = ((from ≡ body_marks (listed xs) after) × P (value level))
      ⊎ ElementsHave P xs (suc level) (RightBrace ∷ after) from
  BodyHas P (leaf l) level after from = ((from ≡ body_marks (leaf l) after) × P (value level))
      ⊎ LeafHas P l (RightBrace ∷ after) from
  BodyHas P (table es) level after from = ((from ≡ body_marks (table es) after) × P (value level))
      ⊎ EntriesHas P es (suc level) [] (RightBrace ∷ after) from
  BodyHas P (array xs) level after from = ((from ≡ body_marks (array xs) after) × P (value level))
      ⊎ ElementsHave P xs (suc level) (RightBrace ∷ after) from

  pub EntriesHas : (Role → Type 0) → Entries → ℕ → List (List ℕ) → List Mark → List Mark → Type 0
  EntriesHas P no_entries level earlier after from = ⊥
  EntriesHas P (entry k b c es) level earlier after from =
      ((from ≡ entries_marks (entry k b c es) after) × P (key earlier k))
      ⊎ (BodyHas P b level (comma_marks c (entries_marks es after)) from
      ⊎ EntriesHas P es level (k ∷ earlier) after from)

  pub ElementsHave : (Role → Type 0) → Elements → ℕ → List Mark → List Mark → Type 0
  ElementsHave P no_elements level after from = ⊥
  ElementsHave P (one_text s c xs) level after from =
      ((from ≡ elements_marks (one_text s c xs) after) × P (value level)) ⊎ ElementsHave P xs level after from
  ElementsHave P (one_body b c xs) level after from = BodyHas P b level (comma_marks c (elements_marks xs after)) from
      ⊎ ElementsHave P xs level after from

-- the roles that break a condition
abbrev pub IsBad : SourceKind → Role → Type 0
IsBad BadKey (key earlier k) = IsKey k → ⊥
IsBad DuplicateKey (key earlier k) = IsAmong earlier k
IsBad BadInt (int_text s) = (n : ℕ) → IsIntText s n → ⊥
IsBad BadInt (element_text s) = (z : ℤ) → IsElementText s z → ⊥
IsBad BadHex (hex_text s) = (bytes : List ℕ) → IsHexText s bytes → ⊥
IsBad TooDeep (value level) = level ≡ 65
IsBad other role = ⊥

-- ---- how some first marks may continue

-- a bundle that begins with these marks
pub record Begun (ms : List Mark) : Type 0 where
  pub name : List ℕ
  pub head : Head
  pub form : Entries
  pub more : List Mark
  pub good : AreForms form
  pub whole : ms ++ more ≡ bundle_marks name head form

abbrev pub IsBundle : List Mark → Type 0
IsBundle ms = (name : List ℕ) × (head : Head) × (es : Entries) × AreForms es × (ms ≡ bundle_marks name head es)

-- some bundle begins with the marks of `front`, and none with those and the next: `front` is the longest such list
pub record IsFront (front rest : List Mark) : Type 0 where
  pub begun : Begun front
  pub longest : (m : Mark) (ms : List Mark) → rest ≡ m ∷ ms → Begun (front ++ m ∷ []) → ⊥

-- a type word
pub data IsWord : List ℕ → Type 0 where
  is_string : IsWord string_word
  is_alias : IsWord alias_word
  is_binary : (long : Bool) → IsWord (binary_word long)
  is_int : (long : Bool) → IsWord (int_word long)
  is_ints : IsWord ints_word
  is_table : IsWord table_word
  is_no_fallback_table : IsWord no_fallback_table_word
  is_array : IsWord array_word

-- after a colon comes a text that is no type word
pub record NoWord (front rest : List Mark) : Type 0 where
  pub before : List Mark
  pub word : List ℕ
  pub after : List Mark
  pub colon : front ≡ before ++ Colon ∷ []
  pub text : rest ≡ Text word ∷ after
  pub unknown : IsWord word → ⊥

-- The first mark of `rest` belongs to one of the longest fronts, and breaks the condition in each bundle that begins
-- with that front.
pub record Breaks (kind : SourceKind) (front rest : List Mark) : Type 0 where
  pub at : Mark
  pub others : List Mark
  pub parts : rest ≡ at ∷ others
  pub begun : Begun (front ++ at ∷ [])
  pub each : (seen left : List Mark) → others ≡ seen ++ left → IsFront (front ++ at ∷ seen) left
      → (r : Begun (front ++ at ∷ seen)) → EntriesHas (IsBad kind) r.form 2 [] (RightBrace ∷ []) (at ∷ (seen ++ r.more))

-- ---- the errors

-- The marks `front` and `rest`, together, have this error at the first mark of `rest`, or at the end.
abbrev pub HasFault : SourceKind → List Mark → List Mark → Type 0
HasFault Unexpected front rest = IsFront front rest × (IsBundle front → ⊥) × (NoWord front rest → ⊥)
HasFault UnknownType front rest = IsFront front rest × NoWord front rest
HasFault TrailingText front rest = IsFront front rest × IsBundle front × (rest ≡ [] → ⊥)
HasFault BadKey front rest = Breaks BadKey front rest
HasFault DuplicateKey front rest = Breaks DuplicateKey front rest
HasFault BadInt front rest = Breaks BadInt front rest
HasFault BadHex front rest = Breaks BadHex front rest
HasFault TooDeep front rest = Breaks TooDeep front rest
HasFault other front rest = ⊥

-- the marks spell a bundle whose tree is not too high, but too heavy
pub record IsTooLarge (ms : List Mark) : Type 0 where
  pub name : List ℕ
  pub source : SourceTree
  pub whole : IsSpelled ms name source
  pub low : height source.tree ≤ height_limit
  pub heavy : weight_limit < weight source.tree

-- the line of the first token, or that of the end of the text
abbrev pub line_at : ℕ → List Token → ℕ
line_at end [] = end
line_at end (t ∷ ts) = t.line

-- The tokens of a text that ends in line `end` have this error in this line.
abbrev pub IsFault : List Token → ℕ → SourceKind → ℕ → Type 0
IsFault ts end kind line =
    ((front rest : List Token) × (ts ≡ front ++ rest) × HasFault kind (marks front) (marks rest)
    × (line ≡ line_at end rest))
    ⊎ ((kind ≡ TooLarge) × IsTooLarge (marks ts) × (line ≡ 1))
