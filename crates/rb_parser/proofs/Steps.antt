-- Steps of reading, as the code takes them.
use Rattle.std.proofs.Common.{◌≡◌, ℕ, List, Option, Some, None, Result, Ok, Err, option_map, refl, sym, ap, ap₂, ◌∙◌}
use Rattle.rb_lexer.specs.declared.token.Token.{Token}
use Rattle.rb_lexer.specs.declared.fault.SourceKind.{SourceKind}
use Rattle.rb_lexer.specs.declared.fault.SourceFault.{SourceFault}
use Rattle.rb_grammar.specs.Reading.{Stop, stop, ◌>>=◌, tail, first_text, text_or, text_at, Word, first_word, all_words, word_at}
use Rattle.rb_grammar.specs.Faults.{line_at}
use Rattle.rb_parser.specs.inner.Reads.{located}
use Rattle.rb_parser.specs.inner.Views.{word_of}
use Rattle.rb_parser.specs.declared.word.Word as program

pub located_bind : {A B : Type 0} (end : ℕ) (r : Result A Stop) (f : A → Result B Stop) (e : SourceFault) → located end r ≡ Err e
    → located end (r >>= f) ≡ Err e
located_bind end (Ok x) f e h = absurd cc
located_bind end (Err s) f e h = cc

pub fault_is : (e : SourceFault) (kind : SourceKind) (line : ℕ) → e.kind ≡ kind → e.line ≡ line → ◌≡◌ {A = SourceFault} (record { kind = kind; line = line }) e
fault_is e kind line p q = ap₂ (λ (k : SourceKind) (l : ℕ). let f : SourceFault = record { kind = k; line = l } in f) (sym p) (sym q)

-- an error at the first token
pub stops_at : {A : Type 0} (end : ℕ) (kind : SourceKind) (ts : List Token) (e : SourceFault) (read : Result A Stop) → read ≡ Err (stop kind ts) → e.kind ≡ kind
    → e.line ≡ line_at end ts → located end read ≡ Err e
stops_at end kind ts e read is k l = rw is (ap Err (fault_is e kind (line_at end ts) k l))

pub text_parts : (ts r : List Token) (s : List ℕ) → text_at ts ≡ Ok (s, r) → (first_text ts ≡ Some s) × (tail ts ≡ r)
text_parts ts r s e = by (first_text ts) refl e where
  by : (o : Option (List ℕ)) → first_text ts ≡ o → text_or ts o ≡ Ok (s, r) → (first_text ts ≡ Some s) × (tail ts ≡ r)
  by None is e = absurd cc
  by (Some x) is e =
      let same : ◌≡◌ {A = List ℕ × List Token} (x, tail ts) (s, r) = cc in
      (is ∙ ap (λ (p : List ℕ × List Token). Some p.0) same, ap (λ (p : List ℕ × List Token). p.1) same)

some_is : (v w : program.Word) → ◌≡◌ {A = Option program.Word} (Some v) (Some w) → v ≡ w
some_is v w e = cc

-- a type word
pub word_reads : (ts r : List Token) (s : List ℕ) (w : program.Word) → text_at ts ≡ Ok (s, r) → Some w ≡ option_map word_of (first_word s all_words)
    → (v : Word) × (word_at ts ≡ Ok (v, r)) × (w ≡ word_of v)
word_reads ts r s w e named = by (first_word s all_words) refl named where
  rest_is : tail ts ≡ r
  rest_is = (text_parts ts r s e).1

  by : (o : Option Word) → first_word s all_words ≡ o → Some w ≡ option_map word_of o → (v : Word) × (word_at ts ≡ Ok (v, r)) × (w ≡ word_of v)
  by None is h = absurd cc
  by (Some v) is h = (v, rw (e, is) (ap (λ (l : List Token). Ok (v, l)) rest_is), some_is w (word_of v) h)
