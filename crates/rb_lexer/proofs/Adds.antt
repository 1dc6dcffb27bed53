-- Proves that the builder adds the tokens of the atoms.
use Rattle.std.proofs.Common.{◌≡◌, ℕ, ◌+◌, Bool, true, false, List, [], ◌∷◌, ◌++◌, Option, Some, None, refl, sym, ap, ◌∙◌, arith, append_assoc, append-nil}
use Rattle.std.proofs.Common.{◌&&◌, is_some}
use Rattle.rb_lexer.specs.declared.token.Token.{Token}
use Rattle.rb_lexer.specs.declared.pending.PendingText.{PendingText}
use Rattle.rb_lexer.specs.Lexeme.{Part, part_chars, part_units, parts_chars, parts_units}
use Rattle.rb_lexer.specs.Tokens.{width, line_of}
use Rattle.rb_lexer.specs.Merging.{grown, between, piece}
use Rattle.rb_lexer.specs.Atom.{Atom, blank, blanks, single, singles, atoms_chars, atoms_tokens, past_atom, with_character, extended, Shows}
use Rattle.rb_lexer.specs.declared.scan.Scanned.TheVariants.{White, Run}
use Rattle.rb_lexer.proofs.Turns.{width_part, width_atom}

-- a piece with more units
abbrev stretched : PendingText → List ℕ → ℕ → PendingText
stretched h us past = record { units = h.units ++ us; is_quoted = h.is_quoted; first = h.first; past = past; line = h.line }

stretched_twice : (h : PendingText) (us vs : List ℕ) (at past : ℕ) → stretched (stretched h us at) vs past ≡ stretched h (us ++ vs) past
stretched_twice h us vs at past =
    ap (λ (ws : List ℕ). record { units = ws; is_quoted = h.is_quoted; first = h.first; past = past; line = h.line }) (append_assoc h.units us vs)

stretched_grown : (bytes : List ℕ) (pending : Option PendingText) (us vs : List ℕ) (first at past : ℕ)
    → stretched (grown pending (piece bytes us false first at)) vs past ≡ grown pending (piece bytes (us ++ vs) false first past)
stretched_grown bytes None us vs first at past = refl
stretched_grown bytes (Some a) us vs first at past =
    ap (λ (ws : List ℕ). record { units = ws; is_quoted = false; first = a.first; past = past; line = a.line })
    (append_assoc (a.units ++ between a (piece bytes us false first at)) us vs)

pub singles_chars : (ps : List Part) (rest : List ℕ) → parts_chars ps rest ≡ atoms_chars (singles ps) rest
singles_chars [] rest = refl
singles_chars (p ∷ ps) rest = ap (part_chars p) (singles_chars ps rest)

module _ (bytes : List ℕ) (rest : List Atom) where
  -- after a piece that ends here
  run_on : (ps : List Part) (at : ℕ) (h : PendingText) (us : List ℕ) → atoms_tokens bytes at (Some (stretched h us at)) true (singles ps ++ rest)
      ≡ atoms_tokens bytes (at + width (parts_chars ps [])) (Some (stretched h (us ++ parts_units ps) (at + width (parts_chars ps [])))) true rest
  run_on [] at h us = let e : at + width [] ≡ at = omega arith in rw (append-nil us, e) refl
  run_on (p ∷ ps) at h us =
      let past = past_atom at (single p) in
      let place : past + width (parts_chars ps []) ≡ at + width (parts_chars (p ∷ ps) []) = omega (arith, width_part p (parts_chars ps [])) in
      ap (λ (k : PendingText). atoms_tokens bytes past (Some k) true (singles ps ++ rest)) (stretched_twice h us (part_units p) at past)
      ∙ run_on ps past h (us ++ part_units p)
      ∙ ap (λ (vs : List ℕ). atoms_tokens bytes (past + width (parts_chars ps [])) (Some (stretched h vs (past + width (parts_chars ps [])))) true rest)
      (append_assoc us (part_units p) (parts_units ps))
      ∙ ap (λ n. atoms_tokens bytes n (Some (stretched h (us ++ parts_units (p ∷ ps)) n)) true rest) place

  run_place : (p : Part) (ps : List Part) (at : ℕ) → past_atom at (single p) + width (parts_chars ps []) ≡ at + width (atoms_chars (singles (p ∷ ps)) [])
  run_place p ps at = omega (arith, width_part p (parts_chars ps []), ap width (singles_chars (p ∷ ps) []))

  -- an unquoted piece that continues
  run_goes_on : (p : Part) (ps : List Part) (at : ℕ) (h : PendingText) → atoms_tokens bytes at (Some h) true (singles (p ∷ ps) ++ rest)
      ≡ atoms_tokens bytes (at + width (atoms_chars (singles (p ∷ ps)) []))
      (Some (stretched h (parts_units (p ∷ ps)) (at + width (atoms_chars (singles (p ∷ ps)) [])))) true rest
  run_goes_on p ps at h =
      run_on ps (past_atom at (single p)) h (part_units p) ∙ ap (λ n. atoms_tokens bytes n (Some (stretched h (parts_units (p ∷ ps)) n)) true rest)
      (run_place p ps at)

  -- an unquoted piece that begins
  run_begins : (p : Part) (ps : List Part) (at : ℕ) (pending : Option PendingText) (is_open : Bool)
      → ((b : PendingText) → with_character is_open pending b ≡ grown pending b) → atoms_tokens bytes at pending is_open (singles (p ∷ ps) ++ rest)
      ≡ atoms_tokens bytes (at + width (atoms_chars (singles (p ∷ ps)) []))
      (Some (grown pending (piece bytes (parts_units (p ∷ ps)) false at (at + width (atoms_chars (singles (p ∷ ps)) []))))) true rest
  run_begins p ps at pending is_open same =
      let past = past_atom at (single p) in
      ap (λ (k : PendingText). atoms_tokens bytes past (Some k) true (singles ps ++ rest))
      (same (piece bytes (part_units p) false at past) ∙ sym (stretched_grown bytes pending [] (part_units p) at at past))
      ∙ run_on ps past (grown pending (piece bytes [] false at at)) (part_units p)
      ∙ ap (λ n. atoms_tokens bytes n (Some (stretched (grown pending (piece bytes [] false at at)) (parts_units (p ∷ ps)) n)) true rest) (run_place p ps at)
      ∙ ap (λ (k : PendingText). atoms_tokens bytes (at + width (atoms_chars (singles (p ∷ ps)) [])) (Some k) true rest)
      (stretched_grown bytes pending [] (parts_units (p ∷ ps)) at at (at + width (atoms_chars (singles (p ∷ ps)) [])))

-- white space
module _ (bytes : List ℕ) (rest : List Atom) (pending : Option PendingText) where
  blanks_added : (cs : List ℕ) (at : ℕ)
      → atoms_tokens bytes at pending false (blanks cs ++ rest) ≡ atoms_tokens bytes (at + width (atoms_chars (blanks cs) [])) pending false rest
  blanks_added [] at = let e : at ≡ at + width [] = omega arith in ap (λ n. atoms_tokens bytes n pending false rest) e
  blanks_added (c ∷ cs) at =
      let place : past_atom at (blank c) + width (atoms_chars (blanks cs) []) ≡ at + width (atoms_chars (blanks (c ∷ cs)) []) =
      omega (arith, width_atom (blank c) (atoms_chars (blanks cs) [])) in
      blanks_added cs (past_atom at (blank c)) ∙ ap (λ n. atoms_tokens bytes n pending false rest) place

  pub white_added : (us : List ℕ) (xs : List Atom) (is_open : Bool) (first past : ℕ) → Shows White us xs → past ≡ first + width (atoms_chars xs [])
      → atoms_tokens bytes first pending is_open (xs ++ rest) ≡ atoms_tokens bytes past pending false rest
  white_added us xs is_open first past shows to =
      let place : past_atom first (blank shows.0) + width (atoms_chars (blanks shows.1.0) []) ≡ past =
      omega (arith, width_atom (blank shows.0) (atoms_chars (blanks shows.1.0) []), to, ap (λ (ys : List Atom). width (atoms_chars ys [])) shows.1.1) in
      ap (λ (ys : List Atom). atoms_tokens bytes first pending is_open (ys ++ rest)) shows.1.1
      ∙ blanks_added shows.1.0 (past_atom first (blank shows.0)) ∙ ap (λ n. atoms_tokens bytes n pending false rest) place

grows : (is_open : Bool) (pending : Option PendingText) → (is_open && is_some pending) ≡ false → (b : PendingText)
    → with_character is_open pending b ≡ grown pending b
grows false pending off b = refl
grows true None off b = refl
grows true (Some h) off b = cc

module _ (bytes : List ℕ) (tokens : List Token) (xs rest : List Atom) (first past : ℕ) (units : List ℕ) (shows : Shows Run units xs)
    (to : past ≡ first + width (atoms_chars xs [])) where
  pub run_added : (pending after : Option PendingText) (is_open open_after : Bool) (tokens' : List Token) → (is_open && is_some pending) ≡ true
      → tokens' ≡ tokens → after ≡ extended pending units past → open_after ≡ is_open
      → tokens ++ atoms_tokens bytes first pending is_open (xs ++ rest) ≡ tokens' ++ atoms_tokens bytes past after open_after rest
  run_added pending after false open_after tokens' on kept is_after stays = cc
  run_added None after true open_after tokens' on kept is_after stays = cc
  run_added (Some h) after true open_after tokens' on kept is_after stays =
      rw (is_after, kept, stays, to, shows.1.1, shows.1.2) (ap (λ (ts : List Token). tokens ++ ts) (run_goes_on bytes rest shows.0 shows.1.0 first h))

  pub run_joined : (pending after : Option PendingText) (is_open : Bool) (line : ℕ) (tokens' : List Token) → (is_open && is_some pending) ≡ false
      → line ≡ line_of bytes first → tokens' ≡ tokens
      → after ≡ Some (grown pending (record { units = units; is_quoted = false; first = first; past = past; line = line }))
      → tokens ++ atoms_tokens bytes first pending is_open (xs ++ rest) ≡ tokens' ++ atoms_tokens bytes past after true rest
  run_joined pending after is_open line tokens' off at_line kept is_after =
      rw (is_after, kept, at_line, to, shows.1.1, shows.1.2)
      (ap (λ (ts : List Token). tokens ++ ts) (run_begins bytes rest shows.0 shows.1.0 first pending is_open (grows is_open pending off)))
