-- Proves that the second reading agrees with the definitions.
use Rattle.std.proofs.Common.{◌≡◌, ℕ, ◌-◌, ◌≤◌, false, List, [], length, None, refl, sym, ap, ◌∙◌, arith, IsTrue, encode_utf8_all, ◌⊎◌, inl, inr}
use Rattle.std.specs.Str.{all_scalars}
use Rattle.rb_lexer.specs.declared.token.Token.{Token}
use Rattle.rb_lexer.specs.declared.fault.SourceKind.{SourceKind}
use Rattle.rb_lexer.specs.declared.fault.SourceKind.TheVariants.{Memory}
use Rattle.rb_lexer.specs.Lexeme.{chars_of}
use Rattle.rb_lexer.specs.Tokens.{width, line_of, HasTokens}
use Rattle.rb_lexer.specs.Faults.{Broken, broken_chars, IsBroken, broken_kind, from_fault, HasFault}
use Rattle.rb_lexer.specs.Atom.{Atom, atoms_chars, AreAtoms, atoms_tokens}
use Rattle.rb_lexer.proofs.Turns.{fault_width}
use Rattle.rb_lexer.proofs.Bridge.{flat_chars, flat_tokens_of, grouped}

module _ (bytes cs : List ℕ) (encoded : encode_utf8_all cs ≡ bytes) (scalars : IsTrue (all_scalars cs)) where
  pub found : (ts : List Token) → (xs : List Atom) × (cs ≡ atoms_chars xs []) × AreAtoms xs [] × (ts ≡ atoms_tokens bytes 0 None false xs) → HasTokens bytes ts
  found ts w =
      let g = grouped w.0 [] w.2 in
      let same : cs ≡ chars_of g.0 [] = w.1 ∙ ap (λ (xs : List Atom). atoms_chars xs []) (sym g.1) ∙ flat_chars g.0 [] in
      record {
        lexemes = g.0;
        spelled = sym encoded ∙ ap encode_utf8_all same;
        scalars = rw (sym same) scalars;
        good = g.2;
        tokens = w.3 ∙ ap (atoms_tokens bytes 0 None false) (sym g.1) ∙ flat_tokens_of bytes g.0 g.2;
      }

  pub left_fits : (left : ℕ) (xs : List Atom) (b : Broken) → cs ≡ atoms_chars xs (broken_chars b) → left ≡ width (from_fault b) → left ≤ length bytes
  left_fits left xs b is e = omega (arith, fault_width xs b, ap width is, ap length encoded)

  pub faulty : (kind : SourceKind) (left line : ℕ) (xs : List Atom) (b : Broken) → cs ≡ atoms_chars xs (broken_chars b) → AreAtoms xs (broken_chars b)
      → IsBroken b → kind ≡ broken_kind b → left ≡ width (from_fault b) → line ≡ line_of bytes (length bytes - left) → HasFault bytes kind line
  faulty kind left line xs b is good broken is_kind is_left is_line =
      let g = grouped xs (broken_chars b) good in
      let same : cs ≡ chars_of g.0 (broken_chars b) =
      is ∙ ap (λ (ys : List Atom). atoms_chars ys (broken_chars b)) (sym g.1) ∙ flat_chars g.0 (broken_chars b) in
      let fits : left ≤ length bytes = left_fits left xs b is is_left in
      record {
        front = g.0;
        broken = b;
        at = length bytes - left;
        spelled = sym encoded ∙ ap encode_utf8_all same;
        scalars = rw (sym same) scalars;
        good = g.2;
        is_broken = broken;
        is_kind = is_kind;
        is_at = omega arith;
        is_line = is_line;
      }

-- ---- memory or not
pub memory_or : (kind : SourceKind) → (kind ≡ Memory) ⊎ (kind ≡ Memory → ⊥)
memory_or Memory = inl refl
memory_or other = inr (λ e. cc)
