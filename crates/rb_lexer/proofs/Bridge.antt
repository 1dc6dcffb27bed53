-- Proves that both readings, by lexemes and by their atoms, have the same tokens.
use Rattle.std.proofs.Common.{◌≡◌, ℕ, ◌+◌, true, false, List, [], ◌∷◌, ◌++◌, Option, Some, None, refl, sym, ap, ◌∙◌, arith, append_assoc, append-nil, ◌⊎◌, inl}
use Rattle.std.proofs.Common.{inr, ⊎_elim}
use Rattle.rb_lexer.specs.declared.token.Token.{Token}
use Rattle.rb_lexer.specs.declared.pending.PendingText.{PendingText}
use Rattle.rb_lexer.specs.Lexeme.{quote, Comment, comment_chars, IsComment, Part, plain, escaped, dropped, part_chars, parts_chars, part_units, parts_units}
use Rattle.rb_lexer.specs.Lexeme.{IsUnquotedPart, AreParts, Stays, LastStays, FirstStays, Lexeme, white, comment, punctuation, quoted, unquoted, chars_of}
use Rattle.rb_lexer.specs.Lexeme.{EndsUnquoted, AreLexemes}
use Rattle.rb_lexer.specs.Tokens.{width, past_lexeme, tokens_of}
use Rattle.rb_lexer.specs.Merging.{grown, between, piece, tokens_from, punctuation_token, flushed}
use Rattle.rb_lexer.specs.Atom.{Atom, blank, remark, punct, cited, single, atom_chars, IsAtom, atoms_chars, AreAtoms, past_atom, atoms_tokens, longer}
use Rattle.rb_lexer.proofs.Turns.{width_atom}
use Rattle.rb_lexer.proofs.Merged.{merged}

abbrev pub part_atom : Part → Atom
part_atom (plain c) = single (plain c)
part_atom (escaped e) = single (escaped e)
part_atom (dropped c) = remark c

abbrev pub parts_atoms : List Part → List Atom → List Atom
parts_atoms [] xs = xs
parts_atoms (p ∷ ps) xs = part_atom p ∷ parts_atoms ps xs

abbrev pub flat : List Lexeme → List Atom
flat [] = []
flat (white c ∷ ls) = blank c ∷ flat ls
flat (comment c ∷ ls) = remark c ∷ flat ls
flat (punctuation c ∷ ls) = punct c ∷ flat ls
flat (quoted ps ∷ ls) = cited ps ∷ flat ls
flat (unquoted ps ∷ ls) = parts_atoms ps (flat ls)

part_same : (p : Part) (rest : List ℕ) → atom_chars (part_atom p) rest ≡ part_chars p rest
part_same (plain c) rest = refl
part_same (escaped e) rest = refl
part_same (dropped c) rest = refl

parts_same : (ps : List Part) (xs : List Atom) (rest : List ℕ) → atoms_chars (parts_atoms ps xs) rest ≡ parts_chars ps (atoms_chars xs rest)
parts_same [] xs rest = refl
parts_same (p ∷ ps) xs rest = part_same p (atoms_chars (parts_atoms ps xs) rest) ∙ ap (part_chars p) (parts_same ps xs rest)

pub flat_chars : (ls : List Lexeme) (rest : List ℕ) → atoms_chars (flat ls) rest ≡ chars_of ls rest
flat_chars [] rest = refl
flat_chars (white c ∷ ls) rest = ap (λ (xs : List ℕ). c ∷ xs) (flat_chars ls rest)
flat_chars (comment c ∷ ls) rest = ap (comment_chars c) (flat_chars ls rest)
flat_chars (punctuation c ∷ ls) rest = ap (λ (xs : List ℕ). c ∷ xs) (flat_chars ls rest)
flat_chars (quoted ps ∷ ls) rest = ap (λ (xs : List ℕ). quote ∷ parts_chars ps (quote ∷ xs)) (flat_chars ls rest)
flat_chars (unquoted ps ∷ ls) rest = parts_same ps (flat ls) rest ∙ ap (parts_chars ps) (flat_chars ls rest)

part_good : (p : Part) (rest : List ℕ) → IsUnquotedPart p rest → IsAtom (part_atom p) rest
part_good (plain c) rest h = (tt, h)
part_good (escaped e) rest h = (tt, h)
part_good (dropped c) rest h = h

parts_good : (ps : List Part) (xs : List Atom) (rest : List ℕ) → AreParts IsUnquotedPart ps (atoms_chars xs rest) → AreAtoms xs rest
    → AreAtoms (parts_atoms ps xs) rest
parts_good [] xs rest h good = good
parts_good (p ∷ ps) xs rest h good = (rw (parts_same ps xs rest) (part_good p (parts_chars ps (atoms_chars xs rest)) h.0), parts_good ps xs rest h.1 good)

pub flat_good : (ls : List Lexeme) (rest : List ℕ) → AreLexemes ls rest → AreAtoms (flat ls) rest
flat_good [] rest h = tt
flat_good (white c ∷ ls) rest h = (h.0, flat_good ls rest h.1)
flat_good (comment c ∷ ls) rest h = (rw (flat_chars ls rest) h.0, flat_good ls rest h.1)
flat_good (punctuation c ∷ ls) rest h = (h.0, flat_good ls rest h.1)
flat_good (quoted ps ∷ ls) rest h = (rw (flat_chars ls rest) h.0, flat_good ls rest h.1)
flat_good (unquoted ps ∷ ls) rest h = parts_good ps (flat ls) rest (rw (flat_chars ls rest) h.0) (flat_good ls rest h.4)

-- ---- from atoms to lexemes
-- these lexemes continue with an unquoted piece
record GoesOnWith (ls : List Lexeme) (rest : List ℕ) (ps : List Part) (more : List Lexeme) : Type 0 where
  spelled : chars_of ls rest ≡ parts_chars ps (chars_of more rest)
  atoms : flat ls ≡ parts_atoms ps (flat more)
  parts : AreParts IsUnquotedPart ps (chars_of more rest)
  last : LastStays ps
  ends : EndsUnquoted more
  good : AreLexemes more rest

last_with : (p : Part) (ps : List Part) → LastStays ps → LastStays (p ∷ ps)
last_with p [] h = absurd h
last_with p (q ∷ ps) h = h

comment_with : (c : Comment) (ls : List Lexeme) (rest : List ℕ) → IsComment c (chars_of ls rest) → (ps : List Part) (more : List Lexeme)
    → GoesOnWith ls rest ps more → GoesOnWith (comment c ∷ ls) rest (dropped c ∷ ps) more
comment_with c ls rest is ps more g = record {
  spelled = ap (comment_chars c) g.spelled;
  atoms = ap (λ (ys : List Atom). remark c ∷ ys) g.atoms;
  parts = (rw (sym g.spelled) is, g.parts);
  last = last_with (dropped c) ps g.last;
  ends = g.ends;
  good = g.good;
}

abbrev GoesOr : List Lexeme → List ℕ → Type 0
GoesOr ls rest = EndsUnquoted ls ⊎ ((ps : List Part) × ((more : List Lexeme) × GoesOnWith ls rest ps more))

goes_or : (ls : List Lexeme) (rest : List ℕ) → AreLexemes ls rest → GoesOr ls rest
goes_or [] rest h = inl tt
goes_or (white c ∷ ls) rest h = inl tt
goes_or (comment c ∷ ls) rest h = ⊎_elim (λ e. inl e) (λ w. inr (dropped c ∷ w.0, (w.1.0, comment_with c ls rest h.0 w.0 w.1.0 w.1.1))) (goes_or ls rest h.1)
goes_or (punctuation c ∷ ls) rest h = inl tt
goes_or (quoted ps ∷ ls) rest h = inl tt
goes_or (unquoted ps ∷ ls) rest h = inr (ps, (ls, record { spelled = refl; atoms = refl; parts = h.0; last = h.2; ends = h.3; good = h.4 }))

single_atoms : (p : Part) (ls : List Lexeme) (xs : List Atom) → flat ls ≡ xs → Stays p → part_atom p ∷ flat ls ≡ single p ∷ xs
single_atoms (plain c) ls xs e h = ap (λ (ys : List Atom). single (plain c) ∷ ys) e
single_atoms (escaped d) ls xs e h = ap (λ (ys : List Atom). single (escaped d) ∷ ys) e
single_atoms (dropped c) ls xs e h = absurd h

single_with : (p : Part) (ls : List Lexeme) (xs : List Atom) (rest : List ℕ) → flat ls ≡ xs → Stays p × IsUnquotedPart p (atoms_chars xs rest)
    → AreLexemes ls rest → (ms : List Lexeme) × (flat ms ≡ single p ∷ xs) × AreLexemes ms rest
single_with p ls xs rest e is good =
    let here : IsUnquotedPart p (chars_of ls rest) = rw (← flat_chars ls rest, e) is.1 in
    ⊎_elim
    (λ ends. (unquoted (p ∷ []) ∷ ls, single_atoms p ls xs e is.0, ((here, tt), is.0, is.0, ends, good)))
    (λ w. (
      unquoted (p ∷ w.0) ∷ w.1.0,
      ap (λ (ys : List Atom). part_atom p ∷ ys) (sym w.1.1.atoms)
          ∙ single_atoms p ls xs e is.0,
      ((rw (sym w.1.1.spelled) here, w.1.1.parts), is.0, last_with p w.0 w.1.1.last, w.1.1.ends, w.1.1.good),
    ))
    (goes_or ls rest good)

-- Atoms are lexemes.
pub grouped : (xs : List Atom) (rest : List ℕ) → AreAtoms xs rest → (ls : List Lexeme) × (flat ls ≡ xs) × AreLexemes ls rest
grouped [] rest h = ([], refl, tt)
grouped (blank c ∷ xs) rest h = let w = grouped xs rest h.1 in (white c ∷ w.0, ap (λ (ys : List Atom). blank c ∷ ys) w.1, (h.0, w.2))
grouped (remark c ∷ xs) rest h = let w = grouped xs rest h.1 in
    (comment c ∷ w.0, ap (λ (ys : List Atom). remark c ∷ ys) w.1, (rw (← flat_chars w.0 rest, w.1) h.0, w.2))
grouped (punct c ∷ xs) rest h = let w = grouped xs rest h.1 in (punctuation c ∷ w.0, ap (λ (ys : List Atom). punct c ∷ ys) w.1, (h.0, w.2))
grouped (cited ps ∷ xs) rest h = let w = grouped xs rest h.1 in
    (quoted ps ∷ w.0, ap (λ (ys : List Atom). cited ps ∷ ys) w.1, (rw (← flat_chars w.0 rest, w.1) h.0, w.2))
grouped (single p ∷ xs) rest h = let w = grouped xs rest h.1 in single_with p w.0 xs rest w.1 h.0 w.2

-- ---- the tokens
longer_grown : (bytes : List ℕ) (pending : Option PendingText) (at q r first : ℕ) (us vs : List ℕ)
    → longer (Some (grown pending (piece bytes us false at q))) (piece bytes vs false first r) ≡ grown pending (piece bytes (us ++ vs) false at r)
longer_grown bytes None at q r first us vs = refl
longer_grown bytes (Some a) at q r first us vs =
    ap (λ (ws : List ℕ). record { units = ws; is_quoted = false; first = a.first; past = r; line = a.line })
    (append_assoc (a.units ++ between a (piece bytes us false at q)) us vs)

abbrev PlaceOr : List Part → ℕ → ℕ → Type 0
PlaceOr [] q cur = q ≡ cur
PlaceOr (p ∷ ps) q cur = LastStays (p ∷ ps)

place_next : (p : Part) (ps : List Part) (cur : ℕ) → LastStays (p ∷ ps) → PlaceOr ps cur cur
place_next p [] cur h = refl
place_next p (q ∷ ps) cur h = h

place_kept : (c : Comment) (ps : List Part) (q cur : ℕ) → LastStays (dropped c ∷ ps) → PlaceOr ps q cur
place_kept c [] q cur h = absurd h
place_kept c (p ∷ ps) q cur h = h

parts_width : (p : Part) (ps : List Part) → width (parts_chars (p ∷ ps) []) ≡ width (atom_chars (part_atom p) []) + width (parts_chars ps [])
parts_width p ps = ap width (sym (part_same p (parts_chars ps []))) ∙ width_atom (part_atom p) (parts_chars ps [])

module _ (bytes : List ℕ) (pending : Option PendingText) (at : ℕ) (xs : List Atom) where
  abbrev Run : List Part → List ℕ → ℕ → ℕ → Type 0
  Run ps us q cur = atoms_tokens bytes cur (Some (grown pending (piece bytes us false at q))) true (parts_atoms ps xs)
      ≡ atoms_tokens bytes (cur + width (parts_chars ps []))
      (Some (grown pending (piece bytes (us ++ parts_units ps) false at (cur + width (parts_chars ps []))))) true xs

  stay_run : (p : Part) (ps : List Part) (us : List ℕ) (q cur : ℕ) → part_atom p ≡ single p → ((vs : List ℕ) (r : ℕ) → PlaceOr ps r r → Run ps vs r r)
      → LastStays (p ∷ ps) → Run (p ∷ ps) us q cur
  stay_run p ps us q cur is again last =
      let r = past_atom cur (single p) in
      let place : cur + width (parts_chars (p ∷ ps) []) ≡ r + width (parts_chars ps []) =
      omega (arith, parts_width p ps, ap (λ (a : Atom). width (atom_chars a [])) is) in
      ap (λ (a : Atom). atoms_tokens bytes cur (Some (grown pending (piece bytes us false at q))) true (a ∷ parts_atoms ps xs)) is
      ∙ ap (λ (h : PendingText). atoms_tokens bytes r (Some h) true (parts_atoms ps xs)) (longer_grown bytes pending at q r cur us (part_units p))
      ∙ again (us ++ part_units p) r (place_next p ps r last)
      ∙ ap (λ n. atoms_tokens bytes n (Some (grown pending (piece bytes ((us ++ part_units p) ++ parts_units ps) false at n))) true xs) (sym place)
      ∙ ap (λ (ws : List ℕ). atoms_tokens bytes (cur + width (parts_chars (p ∷ ps) []))
      (Some (grown pending (piece bytes ws false at (cur + width (parts_chars (p ∷ ps) []))))) true xs) (append_assoc us (part_units p) (parts_units ps))

  parts_run : (ps : List Part) (us : List ℕ) (q cur : ℕ) → PlaceOr ps q cur → Run ps us q cur
  parts_run [] us q cur h = let e : cur + width [] ≡ q = omega (arith, h) in rw (append-nil us, e, h) refl
  parts_run (plain c ∷ ps) us q cur h = stay_run (plain c) ps us q cur refl (λ vs r k. parts_run ps vs r r k) h
  parts_run (escaped d ∷ ps) us q cur h = stay_run (escaped d) ps us q cur refl (λ vs r k. parts_run ps vs r r k) h
  parts_run (dropped c ∷ ps) us q cur h =
      let r = past_atom cur (remark c) in
      let place : cur + width (parts_chars (dropped c ∷ ps) []) ≡ r + width (parts_chars ps []) = omega (arith, parts_width (dropped c) ps) in
      parts_run ps us q r (place_kept c ps q r h)
      ∙ ap (λ n. atoms_tokens bytes n (Some (grown pending (piece bytes (us ++ parts_units ps) false at n))) true xs) (sym place)

open_or : (bytes : List ℕ) (at : ℕ) (pending : Option PendingText) (ls : List Lexeme) → EndsUnquoted ls
    → atoms_tokens bytes at pending true (flat ls) ≡ atoms_tokens bytes at pending false (flat ls)
open_or bytes at pending [] h = refl
open_or bytes at pending (white c ∷ ls) h = refl
open_or bytes at pending (comment c ∷ ls) h = open_or bytes (past_atom at (remark c)) pending ls h
open_or bytes at pending (punctuation c ∷ ls) h = refl
open_or bytes at pending (quoted ps ∷ ls) h = refl
open_or bytes at pending (unquoted ps ∷ ls) h = absurd h

unquoted_tokens : (bytes : List ℕ) (pending : Option PendingText) (at : ℕ) (xs : List Atom) (ps : List Part) → FirstStays ps → LastStays ps
    → atoms_tokens bytes at pending false (parts_atoms ps xs)
    ≡ atoms_tokens bytes (at + width (parts_chars ps [])) (Some (grown pending (piece bytes (parts_units ps) false at (at + width (parts_chars ps [])))))
    true xs
unquoted_tokens bytes pending at xs [] h k = absurd h
unquoted_tokens bytes pending at xs (plain c ∷ ps) h k =
    let r = past_atom at (single (plain c)) in
    let place : at + width (parts_chars (plain c ∷ ps) []) ≡ r + width (parts_chars ps []) = omega (arith, parts_width (plain c) ps) in
    parts_run bytes pending at xs ps (part_units (plain c)) r r (place_next (plain c) ps r k)
    ∙ ap (λ n. atoms_tokens bytes n (Some (grown pending (piece bytes (parts_units (plain c ∷ ps)) false at n))) true xs) (sym place)
unquoted_tokens bytes pending at xs (escaped d ∷ ps) h k =
    let r = past_atom at (single (escaped d)) in
    let place : at + width (parts_chars (escaped d ∷ ps) []) ≡ r + width (parts_chars ps []) = omega (arith, parts_width (escaped d) ps) in
    parts_run bytes pending at xs ps (part_units (escaped d)) r r (place_next (escaped d) ps r k)
    ∙ ap (λ n. atoms_tokens bytes n (Some (grown pending (piece bytes (parts_units (escaped d ∷ ps)) false at n))) true xs) (sym place)
unquoted_tokens bytes pending at xs (dropped c ∷ ps) h k = absurd h

flat_tokens : (bytes : List ℕ) (ls : List Lexeme) (rest : List ℕ) → AreLexemes ls rest → (at : ℕ) (pending : Option PendingText)
    → atoms_tokens bytes at pending false (flat ls) ≡ tokens_from bytes at pending ls
flat_tokens bytes [] rest h at pending = refl
flat_tokens bytes (white c ∷ ls) rest h at pending = flat_tokens bytes ls rest h.1 (past_lexeme at (white c)) pending
flat_tokens bytes (comment c ∷ ls) rest h at pending = flat_tokens bytes ls rest h.1 (past_lexeme at (comment c)) pending
flat_tokens bytes (punctuation c ∷ ls) rest h at pending =
    ap (λ (ts : List Token). flushed pending (punctuation_token bytes c at (past_lexeme at (punctuation c)) ∷ ts))
    (flat_tokens bytes ls rest h.1 (past_lexeme at (punctuation c)) None)
flat_tokens bytes (quoted ps ∷ ls) rest h at pending =
    flat_tokens bytes ls rest h.1 (past_lexeme at (quoted ps)) (Some (grown pending (piece bytes (parts_units ps) true at (past_lexeme at (quoted ps)))))
flat_tokens bytes (unquoted ps ∷ ls) rest h at pending =
    unquoted_tokens bytes pending at (flat ls) ps h.1 h.2
    ∙ open_or bytes (past_lexeme at (unquoted ps)) (Some (grown pending (piece bytes (parts_units ps) false at (past_lexeme at (unquoted ps))))) ls h.3
    ∙ flat_tokens bytes ls rest h.4 (past_lexeme at (unquoted ps)) (Some (grown pending (piece bytes (parts_units ps) false at (past_lexeme at (unquoted ps)))))

pub flat_tokens_of : (bytes : List ℕ) (ls : List Lexeme) → AreLexemes ls [] → atoms_tokens bytes 0 None false (flat ls) ≡ tokens_of bytes ls
flat_tokens_of bytes ls good = flat_tokens bytes ls [] good 0 None ∙ merged bytes ls
