-- Proves that each text has tokens or an error.
use Rattle.std.proofs.Common.{◌≡◌, ◌≢◌, ℕ, zero, suc, ◌≤◌, ◌<◌, Bool, true, false, eqb, ◌||◌, ◌&&◌, List, [], ◌∷◌, ◌++◌, length, Option, Some, None, refl, sym}
use Rattle.std.proofs.Common.{ap, ◌∙◌, arith, IsTrue, ◌⊎◌, inl, inr, ⊎_elim, IsUtf8, eqb-true, eq-eqb, length-append, ltb-true, ltb-false, nat_lt, ◌-◌, take}
use Rattle.std.proofs.Common.{take_all, encode_utf8_all}
use Rattle.std.proofs.lemmas.Bool.{cases_Bool}
use Rattle.std.proofs.lemmas.Str.{IsUtf8-from_is_utf8, is_utf8-from_IsUtf8, IsUtf8-nil}
use Rattle.std.specs.Str.{all_scalars, IsValidUpTo, is_utf8}
use Rattle.rb_lexer.specs.declared.token.Token.{Token}
use Rattle.rb_lexer.specs.declared.fault.SourceKind.{SourceKind}
use Rattle.rb_lexer.specs.declared.fault.SourceKind.TheVariants.{TooLong, NotUtf8, BadEscape, OpenQuote}
use Rattle.rb_lexer.specs.declared.fault.LexError.{LexError}
use Rattle.rb_lexer.specs.Lexeme.{quote, backslash, slash, star, is_white, is_punctuation, begins_comment, ends_line, Escape, escape_chars, escape_value}
use Rattle.rb_lexer.specs.Lexeme.{units_of, Comment, line_comment, block_comment, comment_chars, HasNoEnd, plain, escaped, dropped, IsQuotedPart}
use Rattle.rb_lexer.specs.Escapes.{escape_at}
use Rattle.rb_lexer.specs.Tokens.{width, line_of, HasTokens, LexesTo}
use Rattle.rb_lexer.specs.Faults.{Broken, open_comment, bad_escape, broken_chars, IsBroken, broken_kind, from_fault, HasFault, IsSourceFault}
use Rattle.rb_lexer.specs.Atom.{Atom, blank, remark, punct, cited, single, atom_chars, IsAtom, atoms_chars, AreAtoms, atoms_tokens, IsPastQuote}
use Rattle.rb_lexer.proofs.Escapes.{escape_takes, no_escape}
use Rattle.rb_lexer.proofs.Comments.{LineGoesOn, PastLine, line_starts, line_more, line_ends, line_over, BlockGoesOn, PastBlock, block_starts, block_more}
use Rattle.rb_lexer.proofs.Comments.{block_ends, block_open}
use Rattle.rb_lexer.proofs.Parts.{GoesOn, parts_start, plain_more, escape_more, plain_quoted, plain_single, quote_ends, quote_open, quote_bad}
use Rattle.rb_lexer.proofs.Turns.{escape_front, atom_front}
use Rattle.rb_lexer.proofs.Whole.{found, faulty}
use Rattle.rb_lexer.proofs.Decided.{tail, IsTail}

differs : (c d : ℕ) → eqb c d ≡ false → c ≢ d
differs c d f e = let k = eq-eqb c d e in cc

escape_or : (x : Option (Escape × List ℕ)) → (x ≡ None) ⊎ ((e : Escape) × ((rest : List ℕ) × (x ≡ Some (e, rest))))
escape_or None = inl refl
escape_or (Some y) = inr (y.0, (y.1, refl))

-- ---- comments
line_total : (text rest : List ℕ) → LineGoesOn text rest → (past : List ℕ) × PastLine text past
line_total text [] so_far = ([], line_over text [] so_far refl)
line_total text (c ∷ cs) so_far =
    ⊎_elim (λ is. (cs, line_ends text (c ∷ cs) so_far c cs refl is)) (λ is. line_total text cs (line_more text (c ∷ cs) so_far c cs refl is))
    (cases_Bool (ends_line c))

ends_here : (c : ℕ) (cs : List ℕ) → ((past : List ℕ) × (c ∷ cs ≡ star ∷ slash ∷ past)) ⊎ ((past : List ℕ) → c ∷ cs ≡ star ∷ slash ∷ past → ⊥)
ends_here c [] = inr (λ past e. cc)
ends_here c (d ∷ cs) =
    ⊎_elim
    (λ a. ⊎_elim (λ b. inl (cs, rw (eqb-true c star a, eqb-true d slash b) refl)) (λ b. inr (λ past e. differs d slash b (cc))) (cases_Bool (eqb d slash)))
    (λ a. inr (λ past e. differs c star a (cc)))
    (cases_Bool (eqb c star))

block_total : (text rest : List ℕ) → BlockGoesOn text rest → ((past : List ℕ) × PastBlock text past) ⊎ HasNoEnd text
block_total text [] so_far = inr (block_open text [] so_far refl)
block_total text (c ∷ cs) so_far =
    ⊎_elim (λ w. inl (w.0, block_ends text (c ∷ cs) so_far w.0 w.1)) (λ never. block_total text cs (block_more text (c ∷ cs) so_far c cs refl never))
    (ends_here c cs)

-- ---- quoted pieces
pub escape_longer : (e : Escape) (rest : List ℕ) → length rest ≤ length (escape_chars e rest)
escape_longer e rest = omega (arith, ap length (escape_front e rest), length-append (escape_chars e []) rest)

abbrev Fails : List ℕ → Type 0
Fails cs = (b : Broken) × (cs ≡ broken_chars b) × IsBroken b

abbrev Quoted : List ℕ → Type 0
Quoted text = ((units : List ℕ) × ((past : List ℕ) × IsPastQuote text units past)) ⊎ Fails (quote ∷ text)

left_open : (text units rest : List ℕ) → GoesOn IsQuotedPart [] text units rest → rest ≡ [] → Quoted text
left_open text units rest so_far e =
    let s : LexError = record { kind = OpenQuote; left = 0 } in
    let w = quote_open text units rest so_far e s refl refl (λ e. cc) in
    inr (w.0, w.1, w.2)

left_bad : (text units rest : List ℕ) → GoesOn IsQuotedPart [] text units rest → (after : List ℕ) → rest ≡ backslash ∷ after → escape_at after ≡ None
    → Quoted text
left_bad text units rest so_far after e none =
    let s : LexError = record { kind = BadEscape; left = width rest } in
    let w = quote_bad text units rest so_far after e none s refl refl (λ e. cc) in
    inr (w.0, w.1, w.2)

quoted_total : (n : ℕ) (text units rest : List ℕ) → length rest < n → GoesOn IsQuotedPart [] text units rest → Quoted text
quoted_total zero text units rest short so_far = absurd (omega arith)
quoted_total (suc n) text units [] short so_far = left_open text units [] so_far refl
quoted_total (suc n) text units (c ∷ after) short so_far =
    ⊎_elim
    (λ a. inl (units, (after, quote_ends text units (c ∷ after) so_far after (ap (λ x. x ∷ after) (eqb-true c quote a)))))
    (λ a. ⊎_elim
    (λ b. ⊎_elim
    (λ none. left_bad text units (c ∷ after) so_far after (ap (λ x. x ∷ after) (eqb-true c backslash b)) none)
    (λ w. let t = escape_takes after w.0 w.1.0 w.1.1 in
    quoted_total n text (units ++ units_of (escape_value w.0)) w.1.0 (omega (arith, escape_longer w.0 w.1.0, ap length t.0))
    (escape_more IsQuotedPart [] text units (c ∷ after) so_far (λ e past is. is) after w.1.0 _ w.0 (escape_value w.0)
    (ap (λ x. x ∷ after) (eqb-true c backslash b)) w.1.1 refl refl))
    (escape_or (escape_at after)))
    (λ b. quoted_total n text (units ++ units_of c) after (omega arith)
    (plain_more IsQuotedPart [] text units (c ∷ after) so_far c after _ refl (plain_quoted c after (differs c quote a) (differs c backslash b)) refl))
    (cases_Bool (eqb c backslash)))
    (cases_Bool (eqb c quote))

-- ---- the first atom
abbrev First : List ℕ → Type 0
First cs = ((a : Atom) × ((rest : List ℕ) × (cs ≡ atom_chars a rest) × IsAtom a rest)) ⊎ Fails cs

first_quoted : (after : List ℕ) → First (quote ∷ after)
first_quoted after =
    ⊎_elim (λ w. let p = w.1.1 in inl (cited p.0, (w.1.0, ap (λ (xs : List ℕ). quote ∷ xs) p.1, p.2))) (λ w. inr w)
    (quoted_total (suc (length after)) after [] after (omega arith) (parts_start IsQuotedPart [] after))

first_escaped : (after : List ℕ) → First (backslash ∷ after)
first_escaped after =
    ⊎_elim (λ none. inr (bad_escape after, refl, no_escape after none))
    (λ w. let t = escape_takes after w.0 w.1.0 w.1.1 in inl (single (escaped w.0), (w.1.0, ap (λ (xs : List ℕ). backslash ∷ xs) t.0, (tt, t.1))))
    (escape_or (escape_at after))

both_true : (a b : Bool) → (a && b) ≡ true → (a ≡ true) × (b ≡ true)
both_true true b e = (refl, e)
both_true false b e = cc

first_line : (after : List ℕ) → First (slash ∷ slash ∷ after)
first_line after = let w = line_total after after (line_starts after) in inl (remark (line_comment w.1.0 w.1.1.0), (w.0, w.1.1.1.0, w.1.1.1.1))

first_block : (after : List ℕ) → First (slash ∷ star ∷ after)
first_block after =
    ⊎_elim (λ w. inl (remark (block_comment w.1.0), (w.0, w.1.1.0, w.1.1.1))) (λ h. inr (open_comment after, refl, h))
    (block_total after after (block_starts after))

first_comment : (c : ℕ) (after : List ℕ) → begins_comment (c ∷ after) ≡ true → First (c ∷ after)
first_comment c [] e = let k = (both_true (eqb c slash) false e).1 in cc
first_comment c (d ∷ after) e =
    let k = both_true (eqb c slash) (eqb d slash || eqb d star) e in
    ⊎_elim (λ a. rw (eqb-true c slash k.0, eqb-true d slash a) (first_line after))
    (λ a. let s : eqb d star ≡ true = rw a at k.1 in rw (eqb-true c slash k.0, eqb-true d star s) (first_block after))
    (cases_Bool (eqb d slash))

none_true : (a b c d : Bool) → a ≡ false → b ≡ false → c ≡ false → d ≡ false → (a || b || c || d) ≡ false
none_true a b c d ha hb hc hd = rw (ha, hb, hc, hd) refl

first_of : (c : ℕ) (after : List ℕ) → First (c ∷ after)
first_of c after =
    ⊎_elim (λ e. inl (blank c, (after, refl, e)))
    (λ w. ⊎_elim (λ e. inl (punct c, (after, refl, e)))
    (λ s. ⊎_elim (λ e. rw (eqb-true c quote e) (first_quoted after))
    (λ q. ⊎_elim (λ e. rw (eqb-true c backslash e) (first_escaped after))
    (λ b. ⊎_elim (λ e. first_comment c after e)
    (λ k. inl (single (plain c), (after, refl, plain_single c after (differs c backslash b) (none_true _ _ _ _ w q s k))))
    (cases_Bool (begins_comment (c ∷ after))))
    (cases_Bool (eqb c backslash)))
    (cases_Bool (eqb c quote)))
    (cases_Bool (is_punctuation c)))
    (cases_Bool (is_white c))

-- ---- the whole text
comment_length : (c : Comment) → 0 < length (comment_chars c [])
comment_length (line_comment cs end) = omega arith
comment_length (block_comment cs) = omega arith

atom_length : (a : Atom) → 0 < length (atom_chars a [])
atom_length (blank c) = omega arith
atom_length (remark c) = comment_length c
atom_length (punct c) = omega arith
atom_length (cited ps) = omega arith
atom_length (single (plain c)) = omega arith
atom_length (single (escaped e)) = omega arith
atom_length (single (dropped c)) = comment_length c

pub atom_longer : (a : Atom) (rest : List ℕ) → length rest < length (atom_chars a rest)
atom_longer a rest = omega (arith, atom_length a, ap length (atom_front a rest), length-append (atom_chars a []) rest)

abbrev pub Read : List ℕ → Type 0
Read cs = (xs : List Atom) × ((end : Option Broken) × (cs ≡ atoms_chars xs (tail end)) × AreAtoms xs (tail end) × IsTail end)

read_with : (a : Atom) (cs rest : List ℕ) → cs ≡ atom_chars a rest → IsAtom a rest → Read rest → Read cs
read_with a cs rest e is w = (a ∷ w.0, (w.1.0, e ∙ ap (atom_chars a) w.1.1, (rw (sym w.1.1) is, w.1.2), w.1.3))

read : (n : ℕ) (cs : List ℕ) → length cs < n → Read cs
read zero cs short = absurd (omega arith)
read (suc n) [] short = ([], (None, refl, tt, tt))
read (suc n) (c ∷ after) short =
    ⊎_elim (λ w. read_with w.0 (c ∷ after) w.1.0 w.1.1 w.1.2 (read n w.1.0 (omega (arith, atom_longer w.0 w.1.0, ap length w.1.1))))
    (λ w. ([], (Some w.0, w.1, tt, w.2))) (first_of c after)

-- the whole text, read
pub reading : (cs : List ℕ) → Read cs
reading cs = read (suc (length cs)) cs (omega arith)

abbrev Answered : List ℕ → Type 0
Answered bytes = ((ts : List Token) × HasTokens bytes ts) ⊎ ((kind : SourceKind) × ((line : ℕ) × HasFault bytes kind line))

answered : (bytes cs : List ℕ) → encode_utf8_all cs ≡ bytes → IsTrue (all_scalars cs) → (xs : List Atom) (end : Option Broken) → cs ≡ atoms_chars xs (tail end)
    → AreAtoms xs (tail end) → IsTail end → Answered bytes
answered bytes cs encoded scalars xs None e are is = inl (atoms_tokens bytes 0 None false xs, found bytes cs encoded scalars _ (xs, e, are, refl))
answered bytes cs encoded scalars xs (Some b) e are is =
    inr (
      broken_kind b,
      (
        line_of bytes (length bytes - width (from_fault b)),
        faulty bytes cs encoded scalars (broken_kind b) (width (from_fault b)) _ xs b e are is refl refl refl,
      ),
    )

utf8_answered : (bytes : List ℕ) → IsUtf8 bytes → Answered bytes
utf8_answered bytes u = let w = reading u.0 in answered bytes u.0 u.1.1 u.1.0 w.0 w.1.0 w.1.1 w.1.2 w.1.3

-- ---- what is no text
record LongestFront (bytes : List ℕ) (most at : ℕ) : Type 0 where
  within : at ≤ most
  front : IsUtf8 (take at bytes)
  longest : (m : ℕ) → at < m → ¬ (IsUtf8 (take m bytes))

beyond : (bytes : List ℕ) (n : ℕ) → ¬ (IsUtf8 (take (suc n) bytes)) → ((m : ℕ) → suc n < m → ¬ (IsUtf8 (take m bytes))) → (m : ℕ) → n < m
    → ¬ (IsUtf8 (take m bytes))
beyond bytes n not_here longer m more u =
    ⊎_elim (λ a. longer m (ltb-true (suc n) m a) u) (λ a. let e : m ≡ suc n = omega (arith, ltb-false (suc n) m a) in not_here (rw e at u))
    (cases_Bool (nat_lt (suc n) m))

longest_front : (bytes : List ℕ) (n : ℕ) → ((m : ℕ) → n < m → ¬ (IsUtf8 (take m bytes))) → (at : ℕ) × LongestFront bytes n at
longest_front bytes zero longer = (0, record { within = omega arith; front = IsUtf8-nil; longest = longer })
longest_front bytes (suc n) longer =
    ⊎_elim (λ a. (suc n, record { within = omega arith; front = IsUtf8-from_is_utf8 (take (suc n) bytes) a; longest = longer }))
    (λ a. let w = longest_front bytes n (beyond bytes n (λ u. let k = is_utf8-from_IsUtf8 (take (suc n) bytes) u in cc) longer) in
    (w.0, record { within = omega (arith, w.1.within); front = w.1.front; longest = w.1.longest }))
    (cases_Bool (is_utf8 (take (suc n) bytes)))

valid_up_to : (bytes : List ℕ) → ¬ (IsUtf8 bytes) → (at : ℕ) × IsValidUpTo bytes at
valid_up_to bytes garbled =
    let w = longest_front bytes (length bytes) (λ m more u. garbled (rw (take_all m bytes (omega arith)) at u)) in (
      w.0,
      record {
        short =
            ⊎_elim (λ a. ltb-true w.0 (length bytes) a) (λ a. absurd (garbled (rw (take_all w.0 bytes (ltb-false w.0 (length bytes) a)) at w.1.front)))
            (cases_Bool (nat_lt w.0 (length bytes)));
        front = w.1.front;
        longest = w.1.longest;
      },
    )

-- ---- any source
pub lexed_answered : (bytes : List ℕ) → ((ts : List Token) × LexesTo bytes ts) ⊎ ((kind : SourceKind) × ((line : ℕ) × IsSourceFault bytes kind line))
lexed_answered bytes =
    ⊎_elim (λ long. inr (TooLong, (1, inl (inl (refl, (ltb-true 8388608 (length bytes) long, refl))))))
    (λ short. ⊎_elim
    (λ a. ⊎_elim (λ w. inl (w.0, (ltb-false 8388608 (length bytes) short, w.1))) (λ w. inr (w.0, (w.1.0, inr (ltb-false 8388608 (length bytes) short, w.1.1))))
    (utf8_answered bytes (IsUtf8-from_is_utf8 bytes a)))
    (λ a. let w = valid_up_to bytes (λ u. let k = is_utf8-from_IsUtf8 bytes u in cc) in
    inr (NotUtf8, (line_of bytes w.0, inl (inr (refl, (ltb-false 8388608 (length bytes) short, (w.0, w.1, refl)))))))
    (cases_Bool (is_utf8 bytes)))
    (cases_Bool (nat_lt 8388608 (length bytes)))

pub source_answered : (bytes : List ℕ) → ((ts : List Token) × HasTokens bytes ts) ⊎ ((kind : SourceKind) × ((line : ℕ) × IsSourceFault bytes kind line))
source_answered bytes = ⊎_elim (λ w. inl (w.0, w.1.1)) (λ w. inr w) (lexed_answered bytes)
