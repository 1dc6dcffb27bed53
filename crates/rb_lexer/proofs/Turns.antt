-- Proves the loop over items.
use Rattle.std.proofs.Common.{◌≡◌, ℕ, ◌+◌, ◌-◌, ◌≤◌, List, [], ◌∷◌, ◌++◌, length, Some, None, refl, sym, ap, ◌∙◌, arith, encode_utf8_all}
use Rattle.std.proofs.Common.{length-append, append_assoc, count_by, take, drop, eqb, cond, zero-le, take-add}
use Rattle.std.proofs.lemmas.List.Sums.{sum_by-append}
use Rattle.std.proofs.lemmas.Str.{encodes-append}
use Rattle.rb_lexer.specs.Lexeme.{quote, Escape, four, eight, hex, octal, letter, escape_chars, Comment, line_comment, block_comment, comment_chars, Part}
use Rattle.rb_lexer.specs.Lexeme.{plain, escaped, dropped, part_chars, parts_chars, slash, star}
use Rattle.rb_lexer.specs.Faults.{Broken, open_quote, open_comment, bad_escape, bad_quoted, broken_chars, from_fault}
use Rattle.rb_lexer.specs.Tokens.{width, line_of}
use Rattle.rb_lexer.specs.Atom.{Atom, blank, remark, punct, cited, single, atom_chars, atoms_chars, AreAtoms}

-- ---- widths
front : (ds rest : List ℕ) → ds ++ rest ≡ (ds ++ []) ++ rest
front ds rest = sym (append_assoc ds [] rest)

pub escape_front : (e : Escape) (rest : List ℕ) → escape_chars e rest ≡ escape_chars e [] ++ rest
escape_front (four ds) rest = ap (λ (xs : List ℕ). 0x75 ∷ xs) (front ds rest)
escape_front (eight ds) rest = ap (λ (xs : List ℕ). 0x55 ∷ xs) (front ds rest)
escape_front (hex ds) rest = ap (λ (xs : List ℕ). 0x78 ∷ xs) (front ds rest)
escape_front (octal ds) rest = front ds rest
escape_front (letter c) rest = refl

pub comment_front : (c : Comment) (rest : List ℕ) → comment_chars c rest ≡ comment_chars c [] ++ rest
comment_front (line_comment cs None) rest = ap (λ (xs : List ℕ). slash ∷ slash ∷ xs) (front cs rest)
comment_front (line_comment cs (Some c)) rest = ap (λ (xs : List ℕ). slash ∷ slash ∷ xs) (sym (append_assoc cs (c ∷ []) rest))
comment_front (block_comment cs) rest = ap (λ (xs : List ℕ). slash ∷ star ∷ xs) (sym (append_assoc cs (star ∷ slash ∷ []) rest))

part_front : (p : Part) (rest : List ℕ) → part_chars p rest ≡ part_chars p [] ++ rest
part_front (plain c) rest = refl
part_front (escaped e) rest = ap (λ (xs : List ℕ). 0x5C ∷ xs) (escape_front e rest)
part_front (dropped c) rest = comment_front c rest

pub parts_front : (ps : List Part) (mid rest : List ℕ) → parts_chars ps (mid ++ rest) ≡ parts_chars ps mid ++ rest
parts_front [] mid rest = refl
parts_front (p ∷ ps) mid rest =
    part_front p (parts_chars ps (mid ++ rest)) ∙ ap (λ (xs : List ℕ). part_chars p [] ++ xs) (parts_front ps mid rest)
    ∙ sym (append_assoc (part_chars p []) (parts_chars ps mid) rest) ∙ ap (λ (xs : List ℕ). xs ++ rest) (sym (part_front p (parts_chars ps mid)))

pub atom_front : (a : Atom) (rest : List ℕ) → atom_chars a rest ≡ atom_chars a [] ++ rest
atom_front (blank c) rest = refl
atom_front (remark c) rest = comment_front c rest
atom_front (punct c) rest = refl
atom_front (cited ps) rest = ap (λ (xs : List ℕ). quote ∷ xs) (parts_front ps (quote ∷ []) rest)
atom_front (single p) rest = part_front p rest

pub width_append : (xs ys : List ℕ) → width (xs ++ ys) ≡ width xs + width ys
width_append xs ys = ap length (encodes-append xs ys) ∙ length-append (encode_utf8_all xs) (encode_utf8_all ys)

pub width_atom : (a : Atom) (rest : List ℕ) → width (atom_chars a rest) ≡ width (atom_chars a []) + width rest
width_atom a rest = ap width (atom_front a rest) ∙ width_append (atom_chars a []) rest

pub width_part : (p : Part) (rest : List ℕ) → width (part_chars p rest) ≡ width (part_chars p []) + width rest
width_part p rest = ap width (part_front p rest) ∙ width_append (part_chars p []) rest

pub width_atoms : (xs : List Atom) (rest : List ℕ) → width (atoms_chars xs rest) ≡ width (atoms_chars xs []) + width rest
width_atoms [] rest = omega arith
width_atoms (a ∷ xs) rest = omega (arith, width_atom a (atoms_chars xs rest), width_atom a (atoms_chars xs []), width_atoms xs rest)

-- ---- atoms in front of others
pub chars_front : (xs ys : List Atom) (rest : List ℕ) → atoms_chars (xs ++ ys) rest ≡ atoms_chars xs (atoms_chars ys rest)
chars_front [] ys rest = refl
chars_front (a ∷ xs) ys rest = ap (atom_chars a) (chars_front xs ys rest)

pub are_front : (xs ys : List Atom) (rest : List ℕ) → AreAtoms xs (atoms_chars ys rest) → AreAtoms ys rest → AreAtoms (xs ++ ys) rest
are_front [] ys rest h k = k
are_front (a ∷ xs) ys rest h k = (rw (chars_front xs ys rest) h.0, are_front xs ys rest h.1 k)

-- ---- the loop
pub turn_place : (first : ℕ) (rest after : List ℕ) (all : ℕ) → first + width rest ≡ all → (front : List Atom) → rest ≡ atoms_chars front after
    → first + (width (atoms_chars front []) + width after) ≡ all
turn_place first rest after all at front e = ap (λ n. first + n) (sym (ap width e ∙ width_atoms front after)) ∙ at

pub lines_between : (bytes : List ℕ) (first past : ℕ) → first ≤ past
    → line_of bytes first + count_by (λ b. eqb b 0x0A) (take (past - first) (drop first bytes)) ≡ line_of bytes past
lines_between bytes first past order =
    let whole : past ≡ first + (past - first) = omega arith in
    let parts =
    ap (λ n. count_by (λ b. eqb b 0x0A) (take n bytes)) whole ∙ ap (count_by (λ b. eqb b 0x0A)) (take-add first (past - first) bytes)
    ∙ sum_by-append (λ b. cond (eqb b 0x0A) 1 0) (take first bytes) (take (past - first) (drop first bytes)) in
    omega (arith, parts)

-- ---- where an error is
atoms_width : (xs : List Atom) (end : List ℕ) → width end ≤ width (atoms_chars xs end)
atoms_width [] end = omega arith
atoms_width (a ∷ xs) end = omega (arith, atoms_width xs end, width_atom a (atoms_chars xs end))

broken_width : (b : Broken) → width (from_fault b) ≤ width (broken_chars b)
broken_width (open_quote ps) = zero-le
broken_width (open_comment cs) = zero-le
broken_width (bad_escape rest) = omega arith
broken_width (bad_quoted ps rest) =
    omega (
      arith,
      ap width (parts_front ps [] (0x5C ∷ rest)),
      width_append (parts_chars ps []) (0x5C ∷ rest),
      width_append (quote ∷ []) (parts_chars ps (0x5C ∷ rest)),
    )

pub fault_width : (xs : List Atom) (b : Broken) → width (from_fault b) ≤ width (atoms_chars xs (broken_chars b))
fault_width xs b = omega (arith, atoms_width xs (broken_chars b), broken_width b)
