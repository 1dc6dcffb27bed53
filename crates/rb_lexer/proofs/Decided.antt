-- Proves that a source has either one list of tokens or one error.
use Rattle.std.proofs.Common.{◌≡◌, ℕ, ◌≤◌, List, [], ◌∷◌, length, Option, Some, None, refl, sym, ap, ◌∙◌, arith, ◌⊎◌, inl, inr, ⊎_elim, IsUtf8, take_all}
use Rattle.std.proofs.Common.{le_refl, false}
use Rattle.std.specs.Str.{IsValidUpTo}
use Rattle.std.proofs.lemmas.Str.{encodes_same, utf8_valid_len-IsValidUpTo}
use Rattle.rb_lexer.specs.declared.token.Token.{Token}
use Rattle.rb_lexer.specs.declared.fault.SourceKind.{SourceKind}
use Rattle.rb_lexer.specs.declared.fault.SourceKind.TheVariants.{Memory}
use Rattle.rb_lexer.specs.declared.fault.SourceFault.{SourceFault}
use Rattle.rb_lexer.specs.Lexeme.{Lexeme, chars_of, AreLexemes}
use Rattle.rb_lexer.specs.Tokens.{width, line_of, HasTokens, LexesTo}
use Rattle.rb_lexer.specs.Faults.{Broken, broken_chars, IsBroken, broken_kind, from_fault, HasFault}
use Rattle.rb_lexer.specs.Atom.{Atom, atoms_chars, AreAtoms, atoms_tokens}
use Rattle.rb_lexer.specs.Faults.{IsGarbled, IsTextFault, IsSourceFault, IsRefusal}
use Rattle.rb_lexer.proofs.Bridge.{flat, flat_chars, flat_good, flat_tokens_of}
use Rattle.rb_lexer.proofs.Unique.{Front, at_atom, at_broken, at_end, front_one}

abbrev pub tail : Option Broken → List ℕ
tail None = []
tail (Some b) = broken_chars b

abbrev pub IsTail : Option Broken → Type 0
IsTail None = Unit {0}
IsTail (Some b) = IsBroken b

abbrev atom_or : Atom → Front → Atom
atom_or a (at_atom x r) = x
atom_or a (at_broken b) = a
atom_or a at_end = a

abbrev rest_or : List ℕ → Front → List ℕ
rest_or s (at_atom x r) = r
rest_or s (at_broken b) = s
rest_or s at_end = s

abbrev broken_of : Front → Option Broken
broken_of (at_atom x r) = None
broken_of (at_broken b) = Some b
broken_of at_end = None

tails_one : (b c : Option Broken) → IsTail b → IsTail c → tail b ≡ tail c → b ≡ c
tails_one None None g h e = refl
tails_one None (Some c) g h e = ap broken_of (front_one at_end (at_broken c) tt h e)
tails_one (Some b) None g h e = ap broken_of (front_one (at_broken b) at_end g tt e)
tails_one (Some b) (Some c) g h e = ap broken_of (front_one (at_broken b) (at_broken c) g h e)

pub texts_one : (xs ys : List Atom) (b c : Option Broken) → IsTail b → IsTail c → AreAtoms xs (tail b) → AreAtoms ys (tail c)
    → atoms_chars xs (tail b) ≡ atoms_chars ys (tail c) → (xs ≡ ys) × (b ≡ c)
texts_one [] [] b c g h p q e = (refl, tails_one b c g h e)
texts_one [] (y ∷ ys) None c g h p q e = let k : at_end ≡ at_atom y (atoms_chars ys (tail c)) =
    front_one at_end (at_atom y (atoms_chars ys (tail c))) tt q.0 e in cc
texts_one [] (y ∷ ys) (Some b) c g h p q e = let k : at_broken b ≡ at_atom y (atoms_chars ys (tail c)) =
    front_one (at_broken b) (at_atom y (atoms_chars ys (tail c))) g q.0 e in cc
texts_one (x ∷ xs) [] b None g h p q e = let k : at_atom x (atoms_chars xs (tail b)) ≡ at_end =
    front_one (at_atom x (atoms_chars xs (tail b))) at_end p.0 tt e in cc
texts_one (x ∷ xs) [] b (Some c) g h p q e = let k : at_atom x (atoms_chars xs (tail b)) ≡ at_broken c =
    front_one (at_atom x (atoms_chars xs (tail b))) (at_broken c) p.0 h e in cc
texts_one (x ∷ xs) (y ∷ ys) b c g h p q e =
    let k = front_one (at_atom x (atoms_chars xs (tail b))) (at_atom y (atoms_chars ys (tail c))) p.0 q.0 e in
    let w = texts_one xs ys b c g h p.1 q.1 (ap (rest_or []) k) in
    (ap (λ (a : Atom). a ∷ xs) (ap (atom_or x) k) ∙ ap (λ (zs : List Atom). y ∷ zs) w.0, w.1)

lexemes_one : (ls ms : List Lexeme) (b c : Option Broken) → IsTail b → IsTail c → AreLexemes ls (tail b) → AreLexemes ms (tail c)
    → chars_of ls (tail b) ≡ chars_of ms (tail c) → (flat ls ≡ flat ms) × (b ≡ c)
lexemes_one ls ms b c g h p q e =
    texts_one (flat ls) (flat ms) b c g h (flat_good ls (tail b) p) (flat_good ms (tail c) q) (flat_chars ls (tail b) ∙ e ∙ sym (flat_chars ms (tail c)))

pub tokens_one : (bytes : List ℕ) (ts us : List Token) → HasTokens bytes ts → HasTokens bytes us → ts ≡ us
tokens_one bytes ts us a b =
    let w = lexemes_one a.lexemes b.lexemes None None tt tt a.good b.good (encodes_same _ _ (sym a.spelled ∙ b.spelled)) in
    a.tokens ∙ sym (flat_tokens_of bytes a.lexemes a.good) ∙ ap (atoms_tokens bytes 0 None false) w.0 ∙ flat_tokens_of bytes b.lexemes b.good ∙ sym b.tokens

pub not_both : (bytes : List ℕ) (ts : List Token) (kind : SourceKind) (line : ℕ) → HasTokens bytes ts → HasFault bytes kind line → ⊥
not_both bytes ts kind line a b =
    let w = lexemes_one a.lexemes b.front None (Some b.broken) tt b.is_broken a.good b.good (encodes_same _ _ (sym a.spelled ∙ b.spelled)) in
    let k : None ≡ Some b.broken = w.1 in cc

broken_or : Broken → Option Broken → Broken
broken_or b None = b
broken_or b (Some c) = c

some_one : (b c : Broken) → Some b ≡ Some c → b ≡ c
unfolding broken_or
some_one b c e = ap (broken_or b) e

pub fault_one : (bytes : List ℕ) (kind other : SourceKind) (line at : ℕ) → HasFault bytes kind line → HasFault bytes other at → (kind ≡ other) × (line ≡ at)
fault_one bytes kind other line at a b =
    let w = lexemes_one a.front b.front (Some a.broken) (Some b.broken) a.is_broken b.is_broken a.good b.good (encodes_same _ _ (sym a.spelled ∙ b.spelled)) in
    let same = some_one a.broken b.broken w.1 in
    let place : a.at ≡ b.at = omega (arith, a.is_at, b.is_at, ap (λ (x : Broken). width (from_fault x)) same) in
    (a.is_kind ∙ ap broken_kind same ∙ sym b.is_kind, a.is_line ∙ ap (line_of bytes) place ∙ sym b.is_line)

-- ---- no text
not_valid : (bytes : List ℕ) (at : ℕ) → IsValidUpTo bytes at → IsUtf8 bytes → ⊥
not_valid bytes at v u = v.longest (length bytes) v.short (rw (take_all (length bytes) bytes (le_refl (length bytes))) u)

text_or_utf8 : (bytes : List ℕ) (kind : SourceKind) (line : ℕ) → IsTextFault bytes kind line → length bytes ≤ 8388608 → IsUtf8 bytes → ⊥
text_or_utf8 bytes kind line f short u = ⊎_elim (λ x. omega (arith, x.1.0)) (λ x. not_valid bytes x.1.1.0 x.1.1.1 u) f

utf8_of : (bytes : List ℕ) (ts : List Token) → HasTokens bytes ts → IsUtf8 bytes
utf8_of bytes ts h = (chars_of h.lexemes [], (h.scalars, sym h.spelled))

pub source_or : (bytes : List ℕ) (ts : List Token) (kind : SourceKind) (line : ℕ) → length bytes ≤ 8388608 → HasTokens bytes ts → IsSourceFault bytes kind line
    → ⊥
source_or bytes ts kind line short h f = ⊎_elim (λ t. text_or_utf8 bytes kind line t short (utf8_of bytes ts h)) (λ t. not_both bytes ts kind line h t.1) f

pub lexed_one : (bytes : List ℕ) (ts us : List Token) → LexesTo bytes ts → LexesTo bytes us → ts ≡ us
lexed_one bytes ts us a b = tokens_one bytes ts us a.1 b.1

pub lexed_or : (bytes : List ℕ) (ts : List Token) (kind : SourceKind) (line : ℕ) → LexesTo bytes ts → IsSourceFault bytes kind line → ⊥
lexed_or bytes ts kind line h f = source_or bytes ts kind line h.0 h.1 f

pub only_ok : (bytes : List ℕ) (tokens ts : List Token) → HasTokens bytes tokens → HasTokens bytes ts → tokens ≡ ts
only_ok bytes tokens ts a b = tokens_one bytes tokens ts a b

pub only_err : (bytes : List ℕ) (e : SourceFault) → IsRefusal bytes e → (ts : List Token) → LexesTo bytes ts → e.kind ≡ Memory
only_err bytes e r ts h = ⊎_elim (λ m. m.0) (λ f. absurd (lexed_or bytes ts e.kind e.line h f)) r

-- ---- any error of a source
garbled_one : (bytes : List ℕ) (line at : ℕ) → IsGarbled bytes line → IsGarbled bytes at → line ≡ at
garbled_one bytes line at f g =
    f.1.2 ∙ ap (line_of bytes) (sym (utf8_valid_len-IsValidUpTo bytes f.1.0 f.1.1) ∙ utf8_valid_len-IsValidUpTo bytes g.1.0 g.1.1) ∙ sym g.1.2

text_one : (bytes : List ℕ) (kind other : SourceKind) (line at : ℕ) → IsTextFault bytes kind line → IsTextFault bytes other at → (kind ≡ other) × (line ≡ at)
text_one bytes kind other line at f g =
    ⊎_elim
    (λ x. ⊎_elim (λ y. (x.0 ∙ sym y.0, x.1.1 ∙ sym y.1.1)) (λ y. absurd (omega (arith, x.1.0, y.1.0))) g)
    (λ x. ⊎_elim (λ y. absurd (omega (arith, x.1.0, y.1.0))) (λ y. (x.0 ∙ sym y.0, garbled_one bytes line at x.1 y.1)) g)
    f

fault_utf8 : (bytes : List ℕ) (kind : SourceKind) (line : ℕ) → HasFault bytes kind line → IsUtf8 bytes
fault_utf8 bytes kind line h = (chars_of h.front (broken_chars h.broken), (h.scalars, sym h.spelled))

pub source_fault_one : (bytes : List ℕ) (kind other : SourceKind) (line at : ℕ) → IsSourceFault bytes kind line → IsSourceFault bytes other at
    → (kind ≡ other) × (line ≡ at)
source_fault_one bytes kind other line at f g =
    ⊎_elim
    (λ x. ⊎_elim (λ y. text_one bytes kind other line at x y) (λ y. absurd (text_or_utf8 bytes kind line x y.0 (fault_utf8 bytes other at y.1))) g)
    (λ x. ⊎_elim (λ y. absurd (text_or_utf8 bytes other at y x.0 (fault_utf8 bytes kind line x.1))) (λ y. fault_one bytes kind other line at x.1 y.1) g)
    f

pub refused_for : (bytes : List ℕ) (e : SourceFault) → IsRefusal bytes e → (kind : SourceKind) (line : ℕ) → IsSourceFault bytes kind line
    → (e.kind ≡ Memory) ⊎ ((e.kind ≡ kind) × (e.line ≡ line))
refused_for bytes e r kind line f = ⊎_elim (λ m. inl m.0) (λ g. inr (source_fault_one bytes e.kind kind e.line line g f)) r
