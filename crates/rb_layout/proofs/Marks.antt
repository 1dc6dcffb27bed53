use Rattle.std.proofs.Common.{refl, ◌≡◌, ◌<◌, ◌∷◌, ◌∙◌, ℕ, List, suc, ap, sym, subst, drop, length, arith}
use Rattle.rb_lexer.specs.declared.token.Token.{Token}
use Rattle.rb_lexer.proofs.Decided.{tokens_one}
use Rattle.rb_tree.specs.SourceTree.{SourceTree}
use Rattle.rb_grammar.specs.Form.{marks}
use Rattle.rb_grammar.specs.Good.{IsGoodWithin}
use Rattle.rb_parser.specs.Source.{IsGoodSource}
use Rattle.rb_lexer.specs.declared.fault.SourceFault.{SourceFault}
use Rattle.rb_lexer.specs.declared.fault.SourceKind.{SourceKind}
use Rattle.rb_lexer.specs.declared.fault.SourceKind.TheVariants as kinds
use Rattle.rb_parser.specs.Source.{IsRefusal}
use Rattle.rb_layout.specs.declared.fault.FormatFault.{FormatFault}
use Rattle.rb_layout.specs.declared.fault.FormatFault.TheVariants.{Refused, TooLarge, Differs, Memory}
use Rattle.rb_layout.specs.Formatted.{SpellSame, SpellOne, IsOwnFault, IsFaultOf, fault_by_kind}

-- Lists that begin with the same mark, and continue with the same ones, have the same marks.
pub same_more : (a b p q : List Token) (t u : Token) → a ≡ t ∷ drop 1 a → b ≡ u ∷ drop 1 b → t.what ≡ u.what
    → p ≡ drop 1 a → q ≡ drop 1 b → marks p ≡ marks q → marks a ≡ marks b
same_more a b p q t u ea eb e da db h =
    ap (λ ts. marks ts) ea ∙ ap (λ m. m ∷ marks (drop 1 a)) e
    ∙ ap (λ ms. u.what ∷ ms) (ap (λ ts. marks ts) (sym da) ∙ h ∙ ap (λ ts. marks ts) db) ∙ sym (ap (λ ts. marks ts) eb)

pub shorter : (a p : List Token) (t : Token) → a ≡ t ∷ drop 1 a → p ≡ drop 1 a → length p < length a
shorter a p t ea da =
    let x : length a ≡ suc (length (drop 1 a)) = ap (λ ts. length ts) ea in
    let y : length p ≡ length (drop 1 a) = ap (λ ts. length ts) da in
    omega arith

pub same_spelling : (old new name : List ℕ) (source : SourceTree) → SpellSame old new → IsGoodSource old name source → IsGoodSource new name source
same_spelling old new name source s g =
    let one : g.tokens ≡ s.old_tokens = tokens_one old g.tokens s.old_tokens g.cut s.old_lexes.1 in
    record {
      short = s.new_lexes.0;
      tokens = s.new_tokens;
      cut = s.new_lexes.1;
      good = subst (λ ms. IsGoodWithin 64 ms name source) (ap (λ ts. marks ts) one ∙ s.same) g.good;
    }

pub other_way : (old new : List ℕ) → SpellSame old new → SpellSame new old
other_way old new s = record {
  old_tokens = s.new_tokens;
  new_tokens = s.old_tokens;
  old_lexes = s.new_lexes;
  new_lexes = s.old_lexes;
  same = sym s.same;
}

-- a good text has the same tokens as itself
pub same_as_itself : (text new name : List ℕ) (source : SourceTree) → IsGoodSource text name source → new ≡ text → SpellSame text new
same_as_itself text new name source g e = subst (λ bytes. SpellSame text bytes) (sym e)
    (record { old_tokens = g.tokens; new_tokens = g.tokens; old_lexes = (g.short, g.cut); new_lexes = (g.short, g.cut); same = refl })

pub spell_one : (old new name : List ℕ) (source : SourceTree) → IsGoodSource old name source → SpellSame old new → SpellOne old new
spell_one old new name source g s = record { name = name; source = source; old_good = g; new_good = same_spelling old new name source s g }

-- an error that says nothing of the text
pub own_fault : (text : List ℕ) (e : FormatFault) → IsOwnFault e → IsFaultOf text e
own_fault text (Refused fault) o = absurd o
own_fault text TooLarge o = tt
own_fault text Differs o = tt
own_fault text Memory o = tt

pub refused : (text : List ℕ) (kind : SourceKind) (fault : SourceFault) → IsRefusal text fault → IsFaultOf text (fault_by_kind kind fault)
refused text kinds.TooLong fault r = r
refused text kinds.NotUtf8 fault r = r
refused text kinds.BadEscape fault r = r
refused text kinds.OpenQuote fault r = r
refused text kinds.OpenComment fault r = r
refused text kinds.Unexpected fault r = r
refused text kinds.UnknownType fault r = r
refused text kinds.BadKey fault r = r
refused text kinds.DuplicateKey fault r = r
refused text kinds.BadInt fault r = r
refused text kinds.BadHex fault r = r
refused text kinds.TooDeep fault r = r
refused text kinds.TrailingText fault r = r
refused text kinds.TooLarge fault r = r
refused text kinds.Memory fault r = tt
