-- The spans of tokens are in order.
use Rattle.std.proofs.Common.{◌≡◌, ℕ, ◌+◌, ◌≤◌, ◌<◌, Bool, List, [], ◌∷◌, ◌++◌, length, Option, Some, None, refl, ap, ◌∙◌, arith}
use Rattle.std.proofs.lemmas.Str.{length-le-encodes}
use Rattle.rb_lexer.specs.declared.token.Token.{Token}
use Rattle.rb_lexer.specs.declared.pending.PendingText.{PendingText}
use Rattle.rb_lexer.specs.Lexeme.{quote, Part, plain, escaped, dropped, parts_chars, parts_units, FirstStays, Lexeme, white, comment, punctuation, quoted}
use Rattle.rb_lexer.specs.Lexeme.{unquoted, lexeme_chars, chars_of, AreLexemes}
use Rattle.rb_lexer.specs.Tokens.{width, past_lexeme, HasTokens, AreInOrder}
use Rattle.rb_lexer.specs.Merging.{flushed, grown, piece, tokens_from}
use Rattle.rb_lexer.proofs.Merged.{merged}
use Rattle.rb_lexer.proofs.Turns.{comment_front, parts_front, width_append}

-- ---- widths of lexemes
lexeme_front : (l : Lexeme) (rest : List ℕ) → lexeme_chars l rest ≡ lexeme_chars l [] ++ rest
lexeme_front (white c) rest = refl
lexeme_front (comment c) rest = comment_front c rest
lexeme_front (punctuation c) rest = refl
lexeme_front (quoted ps) rest = ap (λ (xs : List ℕ). quote ∷ xs) (parts_front ps (quote ∷ []) rest)
lexeme_front (unquoted ps) rest = parts_front ps [] rest

width_lexeme : (l : Lexeme) (rest : List ℕ) → width (lexeme_chars l rest) ≡ width (lexeme_chars l []) + width rest
width_lexeme l rest = ap width (lexeme_front l rest) ∙ width_append (lexeme_chars l []) rest

unquoted_length : (ps : List Part) → FirstStays ps → 0 < length (parts_chars ps [])
unquoted_length [] h = absurd h
unquoted_length (plain c ∷ ps) h = omega arith
unquoted_length (escaped e ∷ ps) h = omega arith
unquoted_length (dropped c ∷ ps) h = absurd h

-- ---- a pending text lies between two bytes
abbrev PendingFits : ℕ → ℕ → Option PendingText → Type 0
PendingFits low at None = low ≤ at
PendingFits low at (Some p) = (low ≤ p.first) × (p.first < p.past) × (p.past ≤ at)

later : (low at past : ℕ) (pending : Option PendingText) → at ≤ past → PendingFits low at pending → PendingFits low past pending
later low at past None order h = omega arith
later low at past (Some p) order h = (h.0, h.1, omega (arith, h.2))

grown_fits : (bytes us : List ℕ) (is_quoted : Bool) (low at past : ℕ) (pending : Option PendingText) → at < past → PendingFits low at pending
    → PendingFits low past (Some (grown pending (piece bytes us is_quoted at past)))
grown_fits bytes us is_quoted low at past None more h = (h, more, omega arith)
grown_fits bytes us is_quoted low at past (Some p) more h = (h.0, omega (arith, h.1, h.2), omega arith)

flushed_order : (end low at : ℕ) (pending : Option PendingText) (ts : List Token) → PendingFits low at pending
    → ((least : ℕ) → least ≤ at → AreInOrder least ts end) → AreInOrder low (flushed pending ts) end
flushed_order end low at None ts h more = more low h
flushed_order end low at (Some p) ts h more = (h.0, h.1, more p.past h.2)

-- ---- tokens
module _ (bytes : List ℕ) (end : ℕ) where
  in_order : (ls : List Lexeme) → AreLexemes ls [] → (low at : ℕ) (pending : Option PendingText) → PendingFits low at pending
      → at + width (chars_of ls []) ≤ end → AreInOrder low (tokens_from bytes at pending ls) end
  in_order [] good low at pending h within = flushed_order end low at pending [] h (λ least order. omega arith)
  in_order (white c ∷ ls) good low at pending h within =
      in_order ls good.1 low (past_lexeme at (white c)) pending (later low at (past_lexeme at (white c)) pending (omega arith) h)
      (omega (arith, width_lexeme (white c) (chars_of ls [])))
  in_order (comment c ∷ ls) good low at pending h within =
      in_order ls good.1 low (past_lexeme at (comment c)) pending (later low at (past_lexeme at (comment c)) pending (omega arith) h)
      (omega (arith, width_lexeme (comment c) (chars_of ls [])))
  in_order (punctuation c ∷ ls) good low at pending h within =
      let past = past_lexeme at (punctuation c) in
      flushed_order end low at pending _ h (λ least order. (
        order,
        omega (arith, length-le-encodes (c ∷ [])),
        in_order ls good.1 past past None (omega arith)
            (omega (arith, width_lexeme (punctuation c) (chars_of ls []))),
      ))
  in_order (quoted ps ∷ ls) good low at pending h within =
      let past = past_lexeme at (quoted ps) in
      in_order ls good.1 low past _ (grown_fits bytes (parts_units ps) _ low at past pending (omega (arith, length-le-encodes (lexeme_chars (quoted ps) []))) h)
      (omega (arith, width_lexeme (quoted ps) (chars_of ls [])))
  in_order (unquoted ps ∷ ls) good low at pending h within =
      let past = past_lexeme at (unquoted ps) in
      in_order ls good.4 low past _ (grown_fits bytes (parts_units ps) _ low at past pending
      (omega (arith, unquoted_length ps good.1, length-le-encodes (parts_chars ps []))) h) (omega (arith, width_lexeme (unquoted ps) (chars_of ls [])))

pub spans_in_order : (bytes : List ℕ) (ts : List Token) → HasTokens bytes ts → AreInOrder 0 ts (length bytes)
spans_in_order bytes ts h =
    rw (h.tokens, ← merged bytes h.lexemes) (in_order bytes (length bytes) h.lexemes h.good 0 0 None (omega arith) (omega (arith, ap length h.spelled)))
