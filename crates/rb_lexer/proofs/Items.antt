-- Proves which item begins a text.
use Rattle.std.proofs.Common.{◌≡◌, ◌≢◌, ℕ, Some, None, Bool, true, false, eqb, ◌||◌, ◌&&◌, List, [], ◌∷◌, refl, sym, ap, ◌∙◌, ne_eqb, ◌+◌, arith}
use Rattle.rb_lexer.specs.Lexeme.{quote, backslash, slash, star, is_white, is_punctuation, begins, begins_comment, Escape, escape_value, units_of, Part, plain}
use Rattle.rb_lexer.specs.Lexeme.{escaped, part_chars, part_units, AreParts, line_comment, block_comment, HasNoEnd}
use Rattle.rb_lexer.specs.Escapes.{escape_at}
use Rattle.rb_lexer.specs.Tokens.{punctuation_mark, width}
use Rattle.rb_lexer.specs.Faults.{open_comment, bad_escape}
use Rattle.rb_lexer.specs.declared.fault.SourceKind.TheVariants.{BadEscape, OpenComment}
use Rattle.rb_lexer.specs.declared.fault.LexError.{LexError}
use Rattle.rb_lexer.specs.declared.token.Mark.{Mark}
use Rattle.rb_lexer.specs.declared.scan.Scanned.TheVariants.{White, Comment as CommentItem, Punctuation, Quoted, Run}
use Rattle.rb_lexer.specs.Atom.{remark, punct, cited, singles, blanks, IsSingle, atoms_chars, AreAtoms, Begins, Stops, IsPastQuote, IsPastRun}
use Rattle.rb_lexer.proofs.Escapes.{escape_takes, no_escape}
use Rattle.rb_lexer.proofs.Comments.{PastLine, PastBlock}
use Rattle.rb_lexer.proofs.Turns.{width_append}
use Rattle.rb_lexer.proofs.Adds.{singles_chars}

singles_good : (ps : List Part) (rest : List ℕ) → AreParts IsSingle ps rest → AreAtoms (singles ps) rest
singles_good [] rest h = tt
singles_good (p ∷ ps) rest h = (rw (sym (singles_chars ps rest)) h.0, singles_good ps rest h.1)

run_item : (p : Part) (text after units rest : List ℕ) → text ≡ part_chars p after → IsSingle p after → IsPastRun (part_units p) after units rest
    → Begins text Run units rest
run_item p text after units rest e here r = (
  singles (p ∷ r.0),
  e ∙ ap (part_chars p) (r.1 ∙ singles_chars r.0 rest),
  (rw (sym (r.1 ∙ singles_chars r.0 rest)) here, singles_good r.0 rest r.2),
  (p, (r.0, refl, r.3)),
)

module _ (text : List ℕ) (c : ℕ) (after : List ℕ) (spelled : text ≡ c ∷ after) where
  pub white_item : (units rest : List ℕ) → is_white c ≡ true → (cs : List ℕ) × (after ≡ atoms_chars (blanks cs) rest) × AreAtoms (blanks cs) rest
      → Begins text White units rest
  white_item units rest e w = (blanks (c ∷ w.0), spelled ∙ ap (λ (xs : List ℕ). c ∷ xs) w.1, (e, w.2), (c, (w.0, refl)))

  pub punctuation_item : (mark : Mark) (units : List ℕ) → is_punctuation c ≡ true → mark ≡ punctuation_mark c → Begins text (Punctuation mark) units after
  punctuation_item mark units e is = (punct c ∷ [], spelled, (e, tt), (c, refl, is))

  pub quoted_item : (units rest : List ℕ) → c ≡ quote → IsPastQuote after units rest → Begins text Quoted units rest
  quoted_item units rest e p = (cited p.0 ∷ [], spelled ∙ rw e (ap (λ (xs : List ℕ). quote ∷ xs) p.1), (p.2, tt), (p.0, refl, p.3))

  pub plain_item : (units rest : List ℕ) → is_white c ≡ false → is_punctuation c ≡ false → c ≢ quote → c ≢ backslash → begins_comment (c ∷ after) ≡ false
      → IsPastRun (units_of c) after units rest → Begins text Run units rest
  plain_item units rest w s q b k run =
      run_item (plain c) text after units rest spelled (tt, (rw (w, s, ne_eqb c quote q, ne_eqb c backslash b) refl, rw k refl)) run

module _ (after : List ℕ) where
  pub escape_item : (code : ℕ) (past units rest : List ℕ) (e : Escape) → escape_at after ≡ Some (e, past) → code ≡ escape_value e
      → IsPastRun (units_of code) past units rest → Begins (backslash ∷ after) Run units rest
  escape_item code past units rest e read value run =
      let t = escape_takes after e past read in
      run_item (escaped e) (backslash ∷ after) past units rest (ap (λ (xs : List ℕ). backslash ∷ xs) t.0) (tt, t.1) (rw (sym value) run)

  backslash_width : width (backslash ∷ []) ≡ 1
  unfolding lib.Utf8.encode
  backslash_width = refl

  pub escape_stop : escape_at after ≡ None → (s : LexError) → s.kind ≡ BadEscape → s.left ≡ width after + 1 → Stops s (backslash ∷ after)
  escape_stop none s kind left not_memory =
      (bad_escape after, refl, no_escape after none, kind, omega (arith, left, backslash_width, width_append (backslash ∷ []) after))

  pub line_item : (inside units rest : List ℕ) → after ≡ slash ∷ inside → PastLine inside rest → Begins (slash ∷ after) CommentItem units rest
  line_item inside units rest e p = (remark (line_comment p.0 p.1.0) ∷ [], rw e p.1.1.0, (p.1.1.1, tt), (line_comment p.0 p.1.0, refl))

  pub block_item : (inside units rest : List ℕ) → after ≡ star ∷ inside → PastBlock inside rest → Begins (slash ∷ after) CommentItem units rest
  block_item inside units rest e p = (remark (block_comment p.0) ∷ [], rw e p.1.0, (p.1.1, tt), (block_comment p.0, refl))

  pub block_stop : (inside : List ℕ) → after ≡ star ∷ inside → HasNoEnd inside → (s : LexError) → s.kind ≡ OpenComment → s.left ≡ 0 → Stops s (slash ∷ after)
  block_stop inside e p s kind left not_memory = (open_comment inside, rw e refl, p, kind, left)

  pub slash_item : (units rest : List ℕ) → begins_comment (slash ∷ after) ≡ false → IsPastRun (units_of slash) after units rest
      → Begins (slash ∷ after) Run units rest
  slash_item units rest k run = run_item (plain slash) (slash ∷ after) after units rest refl (tt, (refl, rw k refl)) run

pub no_slash : (c : ℕ) (after : List ℕ) → c ≢ slash → begins_comment (c ∷ after) ≡ false
no_slash c after h = rw (ne_eqb c slash h) refl

second : (c : ℕ) (after : List ℕ) → ((cs : List ℕ) → after ≡ slash ∷ cs → ⊥) → ((cs : List ℕ) → after ≡ star ∷ cs → ⊥)
    → begins (λ d. eqb d slash || eqb d star) after ≡ false
second c [] h k = refl
second c (d ∷ after) h k = rw (ne_eqb d slash (λ e. h after (ap (λ x. x ∷ after) e)), ne_eqb d star (λ e. k after (ap (λ x. x ∷ after) e))) refl

pub lone_slash : (c : ℕ) (after : List ℕ) → ((cs : List ℕ) → after ≡ slash ∷ cs → ⊥) → ((cs : List ℕ) → after ≡ star ∷ cs → ⊥)
    → begins_comment (c ∷ after) ≡ false
lone_slash c after h k = by_test (eqb c slash)
  where
    by_test : (b : Bool) → (b && begins (λ d. eqb d slash || eqb d star) after) ≡ false
    by_test true = second c after h k
    by_test false = refl
