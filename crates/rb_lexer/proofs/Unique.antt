-- Proves that a text has only one reading.
use Rattle.std.proofs.Common.{◌≡◌, ℕ, ◌+◌, ◌*◌, Bool, true, false, cond, eqb, not, ◌||◌, ◌⊎◌, inl, inr, ⊎_elim, List, [], ◌∷◌, ◌++◌, Option, Some, None, refl}
use Rattle.std.proofs.Common.{sym, ap, subst, ◌∙◌, arith, IsTrue, eqb-true, eq-eqb}
use Rattle.rb_lexer.specs.Lexeme.{is_white, is_punctuation, quote, backslash, slash, star, begins, begins_comment, ends_line, Escape, escape_chars, IsEscape}
use Rattle.rb_lexer.specs.Lexeme.{Comment, line_comment, block_comment, option_chars, IsComment, HasNoEnd, Part, plain, escaped, dropped, parts_chars}
use Rattle.rb_lexer.specs.Lexeme.{IsQuotedPart, AreParts}
use Rattle.rb_lexer.specs.Faults.{Broken, open_quote, open_comment, bad_escape, bad_quoted, broken_chars, IsBroken, NoEscape}
use Rattle.rb_lexer.specs.Atom.{Atom, blank, remark, punct, cited, single, atom_chars, IsAtom}
use Rattle.rb_lexer.proofs.Escapes.{escape_one}

tails : {a b : ℕ} {xs ys : List ℕ} → ◌≡◌ {A = List ℕ} (a ∷ xs) (b ∷ ys) → xs ≡ ys
tails e = cc

heads : {a b : ℕ} {xs ys : List ℕ} → ◌≡◌ {A = List ℕ} (a ∷ xs) (b ∷ ys) → a ≡ b
heads e = cc

tails2 : {a b c d : ℕ} {xs ys : List ℕ} → ◌≡◌ {A = List ℕ} (a ∷ b ∷ xs) (c ∷ d ∷ ys) → xs ≡ ys
tails2 e = cc

not_both : (b : Bool) → IsTrue (not b) → b ≡ true → ⊥
not_both true h e = cc
not_both false h e = cc

-- ---- quoted pieces
abbrev Ends : List ℕ → Type 0
Ends [] = Unit {0}
Ends (c ∷ cs) = (c ≡ quote) ⊎ ((c ≡ backslash) × NoEscape cs)

pub neither : (c : ℕ) → IsTrue (not (eqb c quote || eqb c backslash)) → (c ≡ quote → ⊥) × (c ≡ backslash → ⊥)
neither c h = (λ e. absurd (not_both (eqb c quote || eqb c backslash) h (rw e refl)), λ e. absurd (not_both (eqb c quote || eqb c backslash) h (rw e refl)))

not_plain : (c : ℕ) (cs : List ℕ) → Ends (c ∷ cs) → IsTrue (not (eqb c quote || eqb c backslash)) → ⊥
not_plain c cs ends h = ⊎_elim (λ e. (neither c h).0 e) (λ w. (neither c h).1 w.0) ends

not_escape : (c : ℕ) (cs : List ℕ) → Ends (c ∷ cs) → c ≡ backslash → (e : Escape) (rest : List ℕ) → cs ≡ escape_chars e rest → IsEscape e rest → ⊥
not_escape c cs ends is e rest same good = ⊎_elim (λ q. absurd (quote_not_back (sym q ∙ is))) (λ w. w.1 e rest same good) ends
  where
    quote_not_back : quote ≡ backslash → ⊥
    quote_not_back q = omega arith

parts_cons : (p q : Part) (ps qs : List Part) (more other : List ℕ) → p ≡ q → (ps ≡ qs) × (more ≡ other) → (p ∷ ps ≡ q ∷ qs) × (more ≡ other)
parts_cons p q ps qs more other e w = (ap (λ (x : Part). x ∷ ps) e ∙ ap (λ (xs : List Part). q ∷ xs) w.0, w.1)

parts_one : (ps qs : List Part) (more other : List ℕ) → Ends more → Ends other → AreParts IsQuotedPart ps more → AreParts IsQuotedPart qs other
    → parts_chars ps more ≡ parts_chars qs other → (ps ≡ qs) × (more ≡ other)
parts_one [] [] more other a b g h e = (refl, e)
parts_one [] (plain c ∷ qs) more other a b g h e = absurd (not_plain c (parts_chars qs other) (subst Ends e a) h.0)
parts_one [] (escaped d ∷ qs) more other a b g h e =
    absurd (not_escape backslash (escape_chars d (parts_chars qs other)) (subst Ends e a) refl d (parts_chars qs other) refl h.0)
parts_one [] (dropped c ∷ qs) more other a b g h e = absurd h.0
parts_one (plain c ∷ ps) [] more other a b g h e = absurd (not_plain c (parts_chars ps more) (subst Ends (sym e) b) g.0)
parts_one (plain c ∷ ps) (plain d ∷ qs) more other a b g h e =
    parts_cons (plain c) (plain d) ps qs more other (ap plain (heads e)) (parts_one ps qs more other a b g.1 h.1 (tails e))
parts_one (plain c ∷ ps) (escaped d ∷ qs) more other a b g h e = absurd ((neither c g.0).1 (heads e))
parts_one (plain c ∷ ps) (dropped d ∷ qs) more other a b g h e = absurd h.0
parts_one (escaped d ∷ ps) [] more other a b g h e =
    absurd (not_escape backslash (escape_chars d (parts_chars ps more)) (subst Ends (sym e) b) refl d (parts_chars ps more) refl g.0)
parts_one (escaped d ∷ ps) (plain c ∷ qs) more other a b g h e = absurd ((neither c h.0).1 (sym (heads e)))
parts_one (escaped d ∷ ps) (escaped f ∷ qs) more other a b g h e =
    let w = escape_one d f (parts_chars ps more) (parts_chars qs other) g.0 h.0 (tails e) in
    parts_cons (escaped d) (escaped f) ps qs more other (ap escaped w.0) (parts_one ps qs more other a b g.1 h.1 w.1)
parts_one (escaped d ∷ ps) (dropped c ∷ qs) more other a b g h e = absurd h.0
parts_one (dropped c ∷ ps) qs more other a b g h e = absurd g.0

-- ---- comments
nil_cons : (x : ℕ) (xs : List ℕ) → ◌≡◌ {A = List ℕ} [] (x ∷ xs) → ⊥
nil_cons x xs e = cc

line_cons : (x y : ℕ) (a c : List ℕ) (b d : Option ℕ) (r s : List ℕ) → x ≡ y → (a ≡ c) × (b ≡ d) × (r ≡ s) → (x ∷ a ≡ y ∷ c) × (b ≡ d) × (r ≡ s)
line_cons x y a c b d r s e w = (ap (λ n. n ∷ a) e ∙ ap (λ (xs : List ℕ). y ∷ xs) w.0, w.1, w.2)

-- a line comment without its first character
pub line_rest : (x : ℕ) (a : List ℕ) (b : Option ℕ) (r : List ℕ) → IsComment (line_comment (x ∷ a) b) r
    → IsTrue (not (ends_line x)) × IsComment (line_comment a b) r
line_rest x a None r g = (g.0.0, (g.0.1, g.1))
line_rest x a (Some c) r g = (g.0.0, (g.0.1, g.1))

-- what follows the last character of a line comment ends it
line_ends : (b : Option ℕ) (r : List ℕ) (y : ℕ) (c : List ℕ) → IsComment (line_comment [] b) r → option_chars b r ≡ y ∷ c
    → IsTrue (not (ends_line y)) → ⊥
line_ends None r y c g e h = nil_cons y c (sym g.1 ∙ e)
line_ends (Some x) r y c g e h = not_both (ends_line y) h (rw (sym (heads e)) g.1)

line_one : (a c : List ℕ) (b d : Option ℕ) (r s : List ℕ) → IsComment (line_comment a b) r → IsComment (line_comment c d) s
    → a ++ option_chars b r ≡ c ++ option_chars d s → (a ≡ c) × (b ≡ d) × (r ≡ s)
line_one [] [] None None r s g h e = (refl, refl, e)
line_one [] [] None (Some y) r s g h e = absurd (nil_cons y s (sym g.1 ∙ e))
line_one [] [] (Some x) None r s g h e = absurd (nil_cons x r (sym h.1 ∙ sym e))
line_one [] [] (Some x) (Some y) r s g h e = (refl, ap (λ (n : ℕ). Some n) (heads e), tails e)
line_one [] (y ∷ c) b d r s g h e = absurd (line_ends b r y (c ++ option_chars d s) g e (line_rest y c d s h).0)
line_one (x ∷ a) [] b d r s g h e = absurd (line_ends d s x (a ++ option_chars b r) h (sym e) (line_rest x a b r g).0)
line_one (x ∷ a) (y ∷ c) b d r s g h e =
    line_cons x y a c b d r s (heads e) (line_one a c b d r s (line_rest x a b r g).1 (line_rest y c d s h).1 (tails e))

starts : (c : List ℕ) (x : ℕ) (a r s : List ℕ) → x ∷ a ≡ c ++ star ∷ slash ∷ s → a ≡ slash ∷ r → x ≡ star → HasNoEnd c → c ≡ []
starts [] x a r s e f k h = refl
starts (y ∷ []) x a r s e f k h = absurd (let m : star ≡ slash = heads (sym (tails e) ∙ f) in omega arith)
starts (y ∷ z ∷ c) x a r s e f k h = absurd (not_both (eqb z slash) (h.0 (eq-eqb y star (sym (heads e) ∙ k))) (eq-eqb z slash (heads (sym (tails e) ∙ f))))

block_one : (a c : List ℕ) (r s : List ℕ) → HasNoEnd a → HasNoEnd c → a ++ star ∷ slash ∷ r ≡ c ++ star ∷ slash ∷ s → (a ≡ c) × (r ≡ s)
block_one [] c r s g h e = let k = starts c star (slash ∷ r) r s e refl refl h in (sym k, tails2 (e ∙ ap (λ (xs : List ℕ). xs ++ star ∷ slash ∷ s) k))
block_one (x ∷ a) [] r s g h e = absurd (nil_cons x a (sym (starts (x ∷ a) star (slash ∷ s) s r (sym e) refl refl g)))
block_one (x ∷ a) (y ∷ c) r s g h e = let w = block_one a c r s g.1 h.1 (tails e) in (ap (λ n. n ∷ a) (heads e) ∙ ap (λ (xs : List ℕ). y ∷ xs) w.0, w.1)

block_never : (a r c : List ℕ) → HasNoEnd a → HasNoEnd c → a ++ star ∷ slash ∷ r ≡ c → ⊥
block_never [] r c g h e = let k : HasNoEnd (star ∷ slash ∷ r) = subst HasNoEnd (sym e) h in absurd (not_both true (k.0 refl) refl)
block_never (x ∷ a) r [] g h e = absurd (nil_cons x (a ++ star ∷ slash ∷ r) (sym e))
block_never (x ∷ a) r (y ∷ c) g h e = block_never a r c g.1 h.1 (tails e)

-- ---- what a text begins with
pub data Front : Type 0 where
  at_atom : Atom → List ℕ → Front
  at_broken : Broken → Front
  at_end : Front

abbrev front_chars : Front → List ℕ
front_chars (at_atom a r) = atom_chars a r
front_chars (at_broken b) = broken_chars b
front_chars at_end = []

abbrev IsFront : Front → Type 0
IsFront (at_atom a r) = IsAtom a r
IsFront (at_broken b) = IsBroken b
IsFront at_end = Unit {0}

abbrev comment_class : Comment → ℕ
comment_class (line_comment a b) = 0
comment_class (block_comment a) = 1

abbrev part_class : Part → ℕ
part_class (plain c) = 0
part_class (escaped e) = 1
part_class (dropped c) = 2

abbrev broken_class : Broken → ℕ
broken_class (open_quote ps) = 0
broken_class (open_comment cs) = 1
broken_class (bad_escape r) = 2
broken_class (bad_quoted ps r) = 0

-- Two fronts of one text have one class: 1 white space, 2 punctuation, 3 a line comment, 4 a character, 10 a quote, 11 a block comment, 12 a backslash.
abbrev class : Front → ℕ
class (at_atom (blank c) r) = 1
class (at_atom (remark c) r) = 3 + 8 * comment_class c
class (at_atom (punct c) r) = 2
class (at_atom (cited ps) r) = 10
class (at_atom (single p) r) = 4 + 8 * part_class p
class (at_broken b) = 10 + broken_class b
class at_end = 0

abbrev text_class : List ℕ → ℕ
text_class [] = 0
text_class (c ∷ cs) =
    cond (is_white c) 1 (cond (is_punctuation c) 2 (cond (eqb c quote) 10
    (cond (eqb c backslash) 12 (cond (begins_comment (c ∷ cs)) (cond (begins (λ d. eqb d slash) cs) 3 11) 4))))

pub or_true : (a b : Bool) → (a || b) ≡ true → (a ≡ true) ⊎ (b ≡ true)
or_true true b e = inl refl
or_true false b e = inr e

punctuation_class : (c : ℕ) (r : List ℕ) → is_punctuation c ≡ true → text_class (c ∷ r) ≡ 2
punctuation_class c r h =
    ⊎_elim (λ h1. ⊎_elim (λ h2. ⊎_elim (λ h3. rw (eqb-true c 0x7B h3) refl) (λ h3. rw (eqb-true c 0x7D h3) refl) (or_true (eqb c 0x7B) (eqb c 0x7D) h2))
    (λ h2. rw (eqb-true c 0x2C h2) refl) (or_true (eqb c 0x7B || eqb c 0x7D) (eqb c 0x2C) h1)) (λ h1. rw (eqb-true c 0x3A h1) refl)
    (or_true ((eqb c 0x7B || eqb c 0x7D) || eqb c 0x2C) (eqb c 0x3A) h)

pub four_false : (a b c d : Bool) → IsTrue (not (((a || b) || c) || d)) → (a ≡ false) × (b ≡ false) × (c ≡ false) × (d ≡ false)
four_false false false false false h = (refl, refl, refl, refl)
four_false true b c d h = cc
four_false false true c d h = cc
four_false false false true d h = cc
four_false false false false true h = cc

pub not_false : (b : Bool) → IsTrue (not b) → b ≡ false
not_false true h = cc
not_false false h = refl

plain_class : (c : ℕ) (r : List ℕ) → IsTrue (not (((is_white c || eqb c quote) || eqb c backslash) || is_punctuation c)) → IsTrue (not (begins_comment (c ∷ r)))
    → text_class (c ∷ r) ≡ 4
plain_class c r h k = let w = four_false (is_white c) (eqb c quote) (eqb c backslash) (is_punctuation c) h in
    rw (w.0, w.3, w.1, w.2, not_false (begins_comment (c ∷ r)) k) refl

classed : (x : Front) → IsFront x → text_class (front_chars x) ≡ class x
classed (at_atom (blank c) r) g = rw g refl
classed (at_atom (remark (line_comment a b)) r) g = refl
classed (at_atom (remark (block_comment a)) r) g = refl
classed (at_atom (punct c) r) g = punctuation_class c r g
classed (at_atom (cited ps) r) g = refl
classed (at_atom (single (plain c)) r) g = plain_class c r g.1.0 g.1.1
classed (at_atom (single (escaped e)) r) g = refl
classed (at_atom (single (dropped c)) r) g = absurd g.0
classed (at_broken (open_quote ps)) g = refl
classed (at_broken (open_comment cs)) g = refl
classed (at_broken (bad_escape r)) g = refl
classed (at_broken (bad_quoted ps r)) g = refl
classed at_end g = refl

line_same : (a : List ℕ) (b : Option ℕ) (r aa : List ℕ) (bb : Option ℕ) (rr : List ℕ) → (a ≡ aa) × (b ≡ bb) × (r ≡ rr)
    → at_atom (remark (line_comment a b)) r ≡ at_atom (remark (line_comment aa bb)) rr
line_same a b r aa bb rr w = rw (w.0, w.1, w.2) refl

block_same : (a r aa rr : List ℕ) → (a ≡ aa) × (r ≡ rr) → at_atom (remark (block_comment a)) r ≡ at_atom (remark (block_comment aa)) rr
block_same a r aa rr w = rw (w.0, w.1) refl

escaped_same : (a : Escape) (r : List ℕ) (aa : Escape) (rr : List ℕ) → (a ≡ aa) × (r ≡ rr) → at_atom (single (escaped a)) r ≡ at_atom (single (escaped aa)) rr
escaped_same a r aa rr w = rw (w.0, w.1) refl

-- how a quoted piece ends: at a quote, at the end of the text, or at a backslash that begins no escape
data Close : Type 0 where
  by_quote : List ℕ → Close
  by_end : Close
  by_backslash : List ℕ → Close

abbrev close_chars : Close → List ℕ
close_chars (by_quote r) = quote ∷ r
close_chars by_end = []
close_chars (by_backslash r) = backslash ∷ r

abbrev IsClose : Close → Type 0
IsClose (by_quote r) = Unit {0}
IsClose by_end = Unit {0}
IsClose (by_backslash r) = NoEscape r

close_ends : (x : Close) → IsClose x → Ends (close_chars x)
close_ends (by_quote r) h = inl refl
close_ends by_end h = tt
close_ends (by_backslash r) h = inr (refl, h)

quote_back : (r s : List ℕ) → ◌≡◌ {A = List ℕ} (quote ∷ r) (backslash ∷ s) → ⊥
quote_back r s e = let k : quote ≡ backslash = heads e in omega arith

close_one : (x y : Close) → close_chars x ≡ close_chars y → x ≡ y
close_one (by_quote r) (by_quote s) e = ap (λ (xs : List ℕ). by_quote xs) (tails e)
close_one (by_quote r) by_end e = absurd (nil_cons quote r (sym e))
close_one (by_quote r) (by_backslash s) e = absurd (quote_back r s e)
close_one by_end (by_quote s) e = absurd (nil_cons quote s e)
close_one by_end by_end e = refl
close_one by_end (by_backslash s) e = absurd (nil_cons backslash s e)
close_one (by_backslash r) (by_quote s) e = absurd (quote_back s r (sym e))
close_one (by_backslash r) by_end e = absurd (nil_cons backslash r (sym e))
close_one (by_backslash r) (by_backslash s) e = ap (λ (xs : List ℕ). by_backslash xs) (tails e)

abbrev quoted_front : List Part → Close → Front
quoted_front ps (by_quote r) = at_atom (cited ps) r
quoted_front ps by_end = at_broken (open_quote ps)
quoted_front ps (by_backslash r) = at_broken (bad_quoted ps r)

quoted_one : (ps qs : List Part) (x y : Close) → AreParts IsQuotedPart ps (close_chars x) → IsClose x → AreParts IsQuotedPart qs (close_chars y) → IsClose y
    → quote ∷ parts_chars ps (close_chars x) ≡ quote ∷ parts_chars qs (close_chars y) → quoted_front ps x ≡ quoted_front qs y
quoted_one ps qs x y g p h q e =
    let w = parts_one ps qs (close_chars x) (close_chars y) (close_ends x p) (close_ends y q) g h (tails e) in
    ap (λ (zs : List Part). quoted_front zs x) w.0 ∙ ap (quoted_front qs) (close_one x y w.1)

one : (x y : Front) → IsFront x → IsFront y → front_chars x ≡ front_chars y → class x ≡ class y → x ≡ y
one (at_atom (blank a) r) (at_atom (blank aa) rr) g h e k = cc
one (at_atom (blank a) r) y g h e k = absurd (omega arith)
one (at_atom (remark (line_comment a b)) r) (at_atom (remark (line_comment aa bb)) rr) g h e k =
    line_same a b r aa bb rr (line_one a aa b bb r rr g h (tails2 e))
one (at_atom (remark (line_comment a b)) r) y g h e k = absurd (omega arith)
one (at_atom (remark (block_comment a)) r) (at_atom (remark (block_comment aa)) rr) g h e k = block_same a r aa rr (block_one a aa r rr g h (tails2 e))
one (at_atom (remark (block_comment a)) r) (at_broken (open_comment aa)) g h e k = absurd (block_never a r aa g h (tails2 e))
one (at_atom (remark (block_comment a)) r) y g h e k = absurd (omega arith)
one (at_atom (punct a) r) (at_atom (punct aa) rr) g h e k = cc
one (at_atom (punct a) r) y g h e k = absurd (omega arith)
one (at_atom (cited a) r) (at_atom (cited aa) rr) g h e k = quoted_one a aa (by_quote r) (by_quote rr) g tt h tt e
one (at_atom (cited a) r) (at_broken (open_quote aa)) g h e k = quoted_one a aa (by_quote r) by_end g tt h tt e
one (at_atom (cited a) r) (at_broken (bad_quoted aa rr)) g h e k = quoted_one a aa (by_quote r) (by_backslash rr) g tt h.0 h.1 e
one (at_atom (cited a) r) y g h e k = absurd (omega arith)
one (at_atom (single (plain a)) r) (at_atom (single (plain aa)) rr) g h e k = cc
one (at_atom (single (plain a)) r) y g h e k = absurd (omega arith)
one (at_atom (single (escaped a)) r) (at_atom (single (escaped aa)) rr) g h e k = escaped_same a r aa rr (escape_one a aa r rr g.1 h.1 (tails e))
one (at_atom (single (escaped a)) r) (at_broken (bad_escape rr)) g h e k = absurd (h a r (sym (tails e)) g.1)
one (at_atom (single (escaped a)) r) y g h e k = absurd (omega arith)
one (at_atom (single (dropped a)) r) y g h e k = absurd g.0
one (at_broken (open_quote a)) (at_atom (cited aa) rr) g h e k = quoted_one a aa by_end (by_quote rr) g tt h tt e
one (at_broken (open_quote a)) (at_broken (open_quote aa)) g h e k = quoted_one a aa by_end by_end g tt h tt e
one (at_broken (open_quote a)) (at_broken (bad_quoted aa rr)) g h e k = quoted_one a aa by_end (by_backslash rr) g tt h.0 h.1 e
one (at_broken (open_quote a)) y g h e k = absurd (omega arith)
one (at_broken (open_comment a)) (at_atom (remark (block_comment aa)) rr) g h e k = absurd (block_never aa rr a h g (tails2 (sym e)))
one (at_broken (open_comment a)) (at_broken (open_comment aa)) g h e k = ap (λ (xs : List ℕ). at_broken (open_comment xs)) (tails2 e)
one (at_broken (open_comment a)) y g h e k = absurd (omega arith)
one (at_broken (bad_escape r)) (at_atom (single (escaped aa)) rr) g h e k = absurd (g aa rr (tails e) h.1)
one (at_broken (bad_escape r)) (at_broken (bad_escape rr)) g h e k = ap (λ (xs : List ℕ). at_broken (bad_escape xs)) (tails e)
one (at_broken (bad_escape r)) y g h e k = absurd (omega arith)
one (at_broken (bad_quoted a r)) (at_atom (cited aa) rr) g h e k = quoted_one a aa (by_backslash r) (by_quote rr) g.0 g.1 h tt e
one (at_broken (bad_quoted a r)) (at_broken (open_quote aa)) g h e k = quoted_one a aa (by_backslash r) by_end g.0 g.1 h tt e
one (at_broken (bad_quoted a r)) (at_broken (bad_quoted aa rr)) g h e k = quoted_one a aa (by_backslash r) (by_backslash rr) g.0 g.1 h.0 h.1 e
one (at_broken (bad_quoted a r)) y g h e k = absurd (omega arith)
one at_end at_end g h e k = refl
one at_end (at_atom (blank aa) rr) g h e k = absurd (omega arith)
one at_end y g h e k = absurd (omega arith)

pub front_one : (x y : Front) → IsFront x → IsFront y → front_chars x ≡ front_chars y → x ≡ y
front_one x y g h e = one x y g h e (sym (classed x g) ∙ ap text_class e ∙ classed y h)
