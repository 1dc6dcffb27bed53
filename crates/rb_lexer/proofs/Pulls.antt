-- Proves that reading on demand returns the tokens of the source.
use Rattle.std.proofs.Common.{◌≡◌, ℕ, ◌+◌, ◌≤◌, List, [], ◌∷◌, ◌++◌, length, drop, length-drop, append-nil, Option, Some, None, MatchOption, refl, sym, ap, subst}
use Rattle.std.proofs.Common.{◌∙◌, arith, false, IsTrue, encode_utf8_all}
use Rattle.std.proofs.Common.{◌⊎◌, inl, inr, ⊎_elim}
use Rattle.std.proofs.lemmas.Str.{chars-nil}
use Rattle.std.specs.Str.{chars, all_scalars}
use Rattle.rb_lexer.specs.declared.builder.Builder.{Builder}
use Rattle.rb_lexer.specs.declared.pending.PendingText.{PendingText}
use Rattle.rb_lexer.specs.declared.reader.Reader.{Reader}
use Rattle.rb_lexer.specs.declared.token.Token.{Token}
use Rattle.rb_lexer.specs.declared.fault.SourceKind.TheVariants.{Memory}
use Rattle.rb_lexer.specs.declared.fault.LexError.{LexError}
use Rattle.rb_lexer.specs.Faults.{Broken}
use Rattle.rb_lexer.specs.declared.scan.Scanned.{Scanned}
use Rattle.rb_lexer.specs.declared.span.Span.{Span}
use Rattle.rb_lexer.specs.Tokens.{width, line_of, HasTokens}
use Rattle.rb_lexer.specs.Merging.{flushed}
use Rattle.rb_lexer.specs.Atom.{Atom, atoms_chars, AreAtoms, atoms_tokens, Begins, Stops}
use Rattle.rb_lexer.specs.inner.Added.{Adds}
use Rattle.rb_lexer.specs.inner.Passing.{IsUnbroken}
use Rattle.rb_lexer.specs.inner.Left.{IsAtStart, IsPlaced, Gives, Left}
use Rattle.rb_lexer.specs.Coming.{atoms_at, left}
use Rattle.rb_lexer.proofs.Coming.{atoms_read}
use Rattle.rb_lexer.proofs.Decided.{tail, texts_one}
use Rattle.rb_lexer.proofs.Total.{reading}
use Rattle.rb_lexer.proofs.Turns.{chars_front, are_front, turn_place, width_atoms}
use Rattle.rb_lexer.proofs.Whole.{found, memory_or}

-- no characters, no atoms
pub none_left : (xs : List Atom) → [] ≡ atoms_chars xs [] → AreAtoms xs [] → xs ≡ []
none_left xs e good = sym (texts_one [] xs None None tt tt tt good e).0

-- what follows the first atoms
pub rest_of : (xs front : List Atom) (after : List ℕ) → atoms_chars xs [] ≡ atoms_chars front after → AreAtoms xs [] → AreAtoms front after
    → (ys : List Atom) × (after ≡ atoms_chars ys []) × AreAtoms ys [] × (xs ≡ front ++ ys)
rest_of xs front after e good are =
    let r = reading after in
    let w =
    texts_one xs (front ++ r.0) None r.1.0 tt r.1.3 good (are_front front r.0 (tail r.1.0) (rw (sym r.1.1) are) r.1.2)
    (e ∙ ap (atoms_chars front) r.1.1 ∙ sym (chars_front front r.0 (tail r.1.0))) in
    let none : tail r.1.0 ≡ [] = ap tail (sym w.1) in
    (r.0, r.1.1 ∙ ap (atoms_chars r.0) none, rw none at r.1.2, w.0)

-- The text after an item is no longer than the text that begins with it.
pub follows_within : (cs after us : List ℕ) (item : Scanned) → Begins cs item us after → width after ≤ width cs
follows_within cs after us item w = omega (arith, ap width w.1, width_atoms w.0 after)

-- The tokens that are to come are the same after an item is taken.
pub taken : (r s : Reader) (ts : List Token) (item : Scanned) (us : List ℕ) (at : Span) → IsPlaced r → Begins (chars r.rest.now) item us (chars s.rest.now)
    → Adds r.builder s.builder item us at → at.first ≡ r.first → at.line ≡ r.line → at.past + width (chars s.rest.now) ≡ length r.text.now
    → s.first ≡ at.past → s.text.now ≡ r.text.now → Gives r ts → Gives s ts
taken r s ts item us at placed w adds first line past to same g =
    let p = turn_place r.first (chars r.rest.now) (chars s.rest.now) (length r.text.now) placed.at w.0 w.1 in
    let y = rest_of g.atoms w.0 (chars s.rest.now) (sym g.spelled ∙ w.1) g.good w.2 in
    record {
      atoms = y.0;
      spelled = y.1;
      good = y.2;
      tokens =
          g.tokens ∙ ap (λ (xs : List Atom). r.builder.tokens.items ++ atoms_tokens r.text.now r.first r.builder.pending r.builder.is_open xs) y.3
          ∙ rw (same, to, ← first) (adds r.text.now w.0 y.0 w.3 (line ∙ placed.line_is ∙ ap (line_of r.text.now) (sym first)) (omega (arith, p, past, first)));
    }

-- Reading stops only when out of memory.
pub no_stop : (xs : List Atom) (cs : List ℕ) → cs ≡ atoms_chars xs [] → AreAtoms xs [] → (s : LexError) → Stops s cs → s.kind ≡ Memory
no_stop xs cs e good s stops =
    ⊎_elim (λ m. m)
    (λ other. let b = stops other in
    let k : ◌≡◌ {A = Option Broken} (Some b.0) None = (texts_one [] xs (Some b.0) None b.2 tt tt good (sym b.1 ∙ e)).1 in cc)
    (memory_or s.kind)

-- ---- what waits, and what is left
front_is : (t : Token) (us ts : List Token) → ts ≡ t ∷ us → ts ≡ t ∷ drop 1 ts
front_is t us ts e = e ∙ ap (λ (xs : List Token). t ∷ xs) (sym (ap (drop 1) e))

-- two wait, or nothing else is left
abbrev TwoOr : List Token → List Token → Type 0
TwoOr items more = (2 ≤ length items) ⊎ (more ≡ [])

first_shown : {X : Type 0} (now : X → Token) (o : Option X) (items more ts : List Token) → ts ≡ items ++ more → TwoOr items more
    → MatchOption o (items ≡ []) (λ x. items ≡ now x ∷ drop 1 items) → MatchOption o (ts ≡ []) (λ x. ts ≡ now x ∷ drop 1 ts)
first_shown now None items more ts e (inl two) h = absurd (omega (arith, ap length h))
first_shown now None items more ts e (inr none) h = rw (e, h, none) refl
first_shown now (Some x) items more ts e full h = front_is (now x) (drop 1 items ++ more) ts (e ∙ ap (λ (xs : List Token). xs ++ more) h)

second_shown : {X : Type 0} (now : X → Token) (o : Option X) (items more ts : List Token) → ts ≡ items ++ more → TwoOr items more
    → MatchOption o (drop 1 items ≡ []) (λ x. drop 1 items ≡ now x ∷ drop 1 (drop 1 items))
    → MatchOption o (drop 1 ts ≡ []) (λ x. drop 1 ts ≡ now x ∷ drop 1 (drop 1 ts))
second_shown now None items more ts e (inl two) h = absurd (omega (arith, ap length h, length-drop 1 items))
second_shown now None items more ts e (inr none) h = rw (e, none, append-nil items) h
second_shown now (Some x) [] more ts e full h = absurd cc
second_shown now (Some x) (t ∷ items) more ts e full h =
    front_is (now x) (drop 1 items ++ more) (drop 1 ts) (ap (drop 1) e ∙ ap (λ (xs : List Token). xs ++ more) h)

popped : (items more ts : List Token) → ts ≡ items ++ more → TwoOr items more → drop 1 ts ≡ drop 1 items ++ more
popped [] more ts e (inl two) = absurd (omega arith)
popped [] more ts e (inr none) = rw (e, none) refl
popped (t ∷ items) more ts e full = ap (drop 1) e

module _ (r : Reader) (ts : List Token) where
  abbrev more_of : List Atom → List Token
  more_of atoms = atoms_tokens r.text.now r.first r.builder.pending r.builder.is_open atoms

  at_end : Gives r ts → chars r.rest.now ≡ [] → ts ≡ r.builder.tokens.items ++ flushed r.builder.pending []
  at_end g none = g.tokens ∙ ap (λ (xs : List Atom). r.builder.tokens.items ++ more_of xs) (none_left g.atoms (sym none ∙ g.spelled) g.good)

  pub flush_gives : Gives r ts → chars r.rest.now ≡ [] → (b : Builder) → b.tokens.items ≡ r.builder.tokens.items ++ flushed r.builder.pending []
      → b.pending ≡ None → ts ≡ b.tokens.items ++ flushed b.pending []
  flush_gives g none b all off =
      at_end g none ∙ sym all ∙ sym (append-nil b.tokens.items) ∙ ap (λ (k : Option PendingText). b.tokens.items ++ flushed k []) (sym off)

  two_or : (l : Left r ts) → TwoOr r.builder.tokens.items (more_of l.gives.atoms)
  two_or l =
      ⊎_elim (λ two. inl two)
      (λ d. inr (ap more_of (none_left l.gives.atoms (sym d.0 ∙ l.gives.spelled) l.gives.good) ∙ ap (λ (k : Option PendingText). flushed k []) d.1)) l.full

  pub first_of : (l : Left r ts) → {X : Type 0} (now : X → Token) (o : Option X)
      → MatchOption o (r.builder.tokens.items ≡ []) (λ x. r.builder.tokens.items ≡ now x ∷ drop 1 r.builder.tokens.items)
      → MatchOption o (ts ≡ []) (λ x. ts ≡ now x ∷ drop 1 ts)
  first_of l now o h = first_shown now o r.builder.tokens.items (more_of l.gives.atoms) ts l.gives.tokens (two_or l) h

  pub second_of : (l : Left r ts) → {X : Type 0} (now : X → Token) (o : Option X)
      → MatchOption o (drop 1 r.builder.tokens.items ≡ []) (λ x. drop 1 r.builder.tokens.items ≡ now x ∷ drop 1 (drop 1 r.builder.tokens.items))
      → MatchOption o (drop 1 ts ≡ []) (λ x. drop 1 ts ≡ now x ∷ drop 1 (drop 1 ts))
  second_of l now o h = second_shown now o r.builder.tokens.items (more_of l.gives.atoms) ts l.gives.tokens (two_or l) h

  pub pop_gives : (l : Left r ts) → drop 1 ts ≡ drop 1 r.builder.tokens.items ++ more_of l.gives.atoms
  pop_gives l = popped r.builder.tokens.items (more_of l.gives.atoms) ts l.gives.tokens (two_or l)

-- ---- where reading begins
module _ (bytes : List ℕ) where
  abbrev pub all_of : (cs : List ℕ) → IsUnbroken cs → List Token
  all_of cs u = atoms_tokens bytes 0 None false u.0

  pub has_all : (cs : List ℕ) (u : IsUnbroken cs) → encode_utf8_all cs ≡ bytes → IsTrue (all_scalars cs) → HasTokens bytes (all_of cs u)
  has_all cs u encoded scalars = found bytes cs encoded scalars (all_of cs u) (u.0, u.1, u.2, refl)

  pub gives_all : (r : Reader) (text : List ℕ) (u : IsUnbroken (chars text)) → IsAtStart r text → text ≡ bytes → Gives r (all_of (chars text) u)
  gives_all r text u s same = record {
    atoms = u.0;
    spelled = rw s.rest_is u.1;
    good = u.2;
    tokens = rw (s.text_is ∙ same, s.first_is, s.no_tokens, s.no_pending, s.closed) refl;
  }

pub placed_at_start : (r : Reader) (text : List ℕ) → IsAtStart r text → length text ≤ 8388608 → width (chars text) ≡ length text → IsPlaced r
placed_at_start r text s short wide = record {
  short = rw s.text_is short;
  at = rw (s.text_is, s.rest_is, s.first_is) (omega (arith, wide));
  line_is = rw (s.line_is, s.first_is) refl;
}

-- A source without bytes gives no tokens.
pub none_at_start : (r : Reader) → IsAtStart r [] → Left r []
none_at_start r s =
    let nothing : chars r.rest.now ≡ [] = rw s.rest_is chars-nil in
    record {
      placed = placed_at_start r [] s (omega arith) (ap width chars-nil);
      full = inr (nothing, s.no_pending);
      gives = record { atoms = []; spelled = nothing; good = tt; tokens = rw (s.no_tokens, s.no_pending) refl };
    }

-- ---- the tokens that are left, as a function
pub left_one : (r : Reader) (ts : List Token) → Left r ts → ts ≡ left r
unfolding left
left_one r ts l =
    let cs = chars r.rest.now in
    let read : atoms_at (length cs) cs ≡ l.gives.atoms = rw l.gives.spelled (atoms_read (length (atoms_chars l.gives.atoms [])) l.gives.atoms (omega arith) l.gives.good) in
    l.gives.tokens ∙ ap (λ (xs : List Atom). r.builder.tokens.items ++ more_of r ts xs) (sym read)

pub left_is : (r : Reader) (ts : List Token) → Left r ts → Left r (left r)
left_is r ts l = subst (Left r) (left_one r ts l) l

-- After the next token was taken.
pub pop_leaves : (s : Reader) (ts : List Token) (found : Option Token) → Left s (drop 1 ts) → MatchOption found (ts ≡ []) (λ t. ts ≡ t ∷ drop 1 ts)
    → MatchOption found (ts ≡ []) (λ t. ts ≡ t ∷ left s)
pop_leaves s ts None l h = h
pop_leaves s ts (Some t) l h = h ∙ ap (λ (us : List Token). t ∷ us) (left_one s (drop 1 ts) l)
