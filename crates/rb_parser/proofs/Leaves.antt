-- Texts of leaves, as the code reads them.
use Rattle.std.proofs.Common.{◌≡◌, ℕ, ℤ, suc, ◌<◌, ◌++◌, ◌-◌, Bool, true, false, List, [], ◌∷◌, length, Option, Some, None, Ok, Err, refl, sym, ap, subst, ◌∙◌}
use Rattle.std.proofs.Common.{append_assoc, arith, Vec, Global}
use Rattle.std.specs.Prelude.{MatchOption}
use Rattle.rb_lexer.specs.declared.token.Token.{Token}
use Rattle.rb_lexer.specs.declared.fault.SourceKind.{SourceKind}
use Rattle.rb_lexer.specs.declared.fault.SourceKind.TheVariants.{BadInt, BadHex}
use Rattle.rb_lexer.specs.declared.fault.SourceFault.{SourceFault}
use Rattle.rb_grammar.specs.Faults.{line_at}
use Rattle.rb_grammar.specs.Good.{text_or_none, AreElementTexts}
use Rattle.rb_grammar.specs.Numeral.{IsIntText, IsElementText, IsHexText}
use Rattle.rb_tree.specs.Resource as resource
use Rattle.rb_tree.specs.declared.tree.Tree.TheVariants.{String, Int, Ints, Binary, Alias}
use Rattle.rb_grammar.specs.Form.{string, alias, binary, int, ints}
use Rattle.rb_grammar.specs.Reading.{Word, anything, stop, Read, ◌>>=◌, tail, first_text, text_at, maybe_at, checked_at, has_comma, after_comma, numbers}
use Rattle.rb_grammar.specs.Reading.{numbers_step}
use Rattle.rb_grammar.specs.Tests.{the_tests}
use Rattle.rb_grammar.proofs.Conditions.{are_tests, means_passes, none_fails}
use Rattle.rb_parser.specs.inner.Reads.{located, Reads, leaf_at, IsLeafTree, AreNumbers}
use Rattle.rb_parser.specs.inner.Views.{word_of}
use Rattle.rb_parser.specs.declared.word.Word.TheVariants as word
use Rattle.rb_parser.specs.declared.word.Leaf.TheVariants as leaf
use Rattle.rb_parser.proofs.Words.{is_string, is_alias, is_binary, is_int, is_ints}
use Rattle.rb_parser.proofs.Steps.{located_bind, stops_at}

maybe_passes : (kind : SourceKind) (test : List ℕ → Bool) (ts r : List Token) (s : List ℕ) → first_text ts ≡ Some s → r ≡ tail ts → test s ≡ true
    → maybe_at kind test ts ≡ Ok (Some s, r)
maybe_passes kind test ts r s comes left passes = rw (comes, passes) (ap (λ (l : List Token). Ok (Some s, l)) (sym left))

maybe_stops : (kind : SourceKind) (test : List ℕ → Bool) (ts : List Token) (s : List ℕ) → first_text ts ≡ Some s → test s ≡ false
    → maybe_at kind test ts ≡ Err (stop kind ts)
maybe_stops kind test ts s comes fails = rw (comes, fails) refl

checked_passes : (kind : SourceKind) (test : List ℕ → Bool) (ts r : List Token) (s : List ℕ) → text_at ts ≡ Ok (s, r) → test s ≡ true
    → checked_at kind test ts ≡ Ok (s, r)
checked_passes kind test ts r s comes passes = rw (comes, passes) refl

checked_stops : (kind : SourceKind) (test : List ℕ → Bool) (ts r : List Token) (s : List ℕ) → text_at ts ≡ Ok (s, r) → test s ≡ false
    → checked_at kind test ts ≡ Err (stop kind ts)
checked_stops kind test ts r s comes fails = rw (comes, fails) refl

pub bytes_some : (o : Option (Vec ℕ Global)) (v : Vec ℕ Global) (t s : List ℕ)
    → MatchOption o ((bytes : List ℕ) → IsHexText t bytes → ⊥) (λ v. IsHexText t v.items) → o ≡ Some v → t ≡ s → IsHexText s v.items
bytes_some o v t s h is same = let g : MatchOption (Some v) ((bytes : List ℕ) → IsHexText t bytes → ⊥) (λ v. IsHexText t v.items) =
    subst (λ (o : Option (Vec ℕ Global)). MatchOption o ((bytes : List ℕ) → IsHexText t bytes → ⊥) (λ v. IsHexText t v.items)) is h in
    subst (λ (s : List ℕ). IsHexText s v.items) same g

pub bytes_none : (o : Option (Vec ℕ Global)) (t s : List ℕ) → MatchOption o ((bytes : List ℕ) → IsHexText t bytes → ⊥) (λ v. IsHexText t v.items) → o ≡ None
    → t ≡ s → (bytes : List ℕ) → IsHexText s bytes → ⊥
bytes_none o t s h is same = let g : (bytes : List ℕ) → IsHexText t bytes → ⊥ =
    subst (λ (o : Option (Vec ℕ Global)). MatchOption o ((bytes : List ℕ) → IsHexText t bytes → ⊥) (λ v. IsHexText t v.items)) is h in
    subst (λ (s : List ℕ). (bytes : List ℕ) → IsHexText s bytes → ⊥) same g

pub bytes_read : (ts r : List Token) (s bytes : List ℕ) → first_text ts ≡ Some s → r ≡ tail ts → IsHexText s bytes
    → (t : Option (List ℕ)) × (maybe_at BadHex the_tests.is_hex ts ≡ Ok (t, r)) × IsHexText (text_or_none t) bytes
bytes_read ts r s bytes comes left means =
    (Some s, maybe_passes BadHex the_tests.is_hex ts r s comes left (means_passes the_tests.is_hex IsHexText s bytes are_tests.bytes means), means)

pub no_bytes : (end : ℕ) (ts : List Token) (s : List ℕ) (e : SourceFault) → first_text ts ≡ Some s → ((bytes : List ℕ) → IsHexText s bytes → ⊥)
    → e.kind ≡ BadHex → e.line ≡ line_at end ts → located end (maybe_at BadHex the_tests.is_hex ts) ≡ Err e
no_bytes end ts s e comes none k l =
    stops_at end BadHex ts e (maybe_at BadHex the_tests.is_hex ts)
    (maybe_stops BadHex the_tests.is_hex ts s comes (none_fails the_tests.is_hex IsHexText s are_tests.bytes none)) k l

pub int_read : (ts r : List Token) (s : List ℕ) (n : ℕ) → text_at ts ≡ Ok (s, r) → IsIntText s n
    → (t : List ℕ) × (checked_at BadInt the_tests.is_int ts ≡ Ok (t, r)) × IsIntText t n
int_read ts r s n comes means =
    (s, checked_passes BadInt the_tests.is_int ts r s comes (means_passes the_tests.is_int IsIntText s n are_tests.ints means), means)

pub no_int : (end : ℕ) (ts r : List Token) (s : List ℕ) (e : SourceFault) → text_at ts ≡ Ok (s, r) → ((n : ℕ) → IsIntText s n → ⊥) → e.kind ≡ BadInt
    → e.line ≡ line_at end ts → located end (checked_at BadInt the_tests.is_int ts) ≡ Err e
no_int end ts r s e comes none k l =
    stops_at end BadInt ts e (checked_at BadInt the_tests.is_int ts)
    (checked_stops BadInt the_tests.is_int ts r s comes (none_fails the_tests.is_int IsIntText s are_tests.ints none)) k l

-- ---- the numbers of a vector

abbrev Number : Type 0
Number = List ℕ × Bool

abbrev put_first : Number → List Number × List Token → Read (List Number)
put_first one x = Ok (one ∷ x.0, x.1)

abbrev put_after : List Number → List Number × List Token → Read (List Number)
put_after before x = Ok (before ++ x.0, x.1)

-- Some numbers are read, in as many turns as are enough; what more there is, is read from here on.
pub record NumbersSoFar (n : ℕ) (start : List Token) (zs : List ℤ) (ts : List Token) : Type 0 where
  pub turns : ℕ
  pub enough : length ts < turns
  pub before : List Number
  pub are : AreElementTexts before zs
  pub same : numbers the_tests.is_element n start ≡ (numbers the_tests.is_element turns ts >>= put_after before)

unchanged : (r : Read (List Number)) → r ≡ (r >>= put_after [])
unchanged (Ok x) = refl
unchanged (Err s) = refl

pub numbers_start : (n : ℕ) (ts : List Token) → length ts < n → NumbersSoFar n ts [] ts
numbers_start n ts enough = record { turns = n; enough = enough; before = []; are = tt; same = unchanged (numbers the_tests.is_element n ts) }

are_more : (ns : List Number) (zs : List ℤ) (s : List ℕ) (c : Bool) (z : ℤ) → AreElementTexts ns zs → IsElementText s z
    → AreElementTexts (ns ++ (s, c) ∷ []) (zs ++ z ∷ [])
are_more [] [] s c z are means = (means, tt)
are_more [] (y ∷ zs) s c z are means = absurd are
are_more (n ∷ ns) [] s c z are means = absurd are
are_more (n ∷ ns) (y ∷ zs) s c z are means = (are.0, are_more ns zs s c z are.1 means)

regroup : (before : List Number) (one : Number) (r : Read (List Number)) → ((r >>= put_first one) >>= put_after before) ≡ (r >>= put_after (before ++ one ∷ []))
regroup before one (Ok x) = ap (λ (ns : List Number). Ok (ns, x.1)) (sym (append_assoc before (one ∷ []) x.0))
regroup before one (Err s) = refl

module _ (m k : ℕ) (ts : List Token) (some : m ≡ suc k) where
  numbers_is : numbers the_tests.is_element m ts ≡ numbers_step the_tests.is_element (numbers the_tests.is_element k) ts (first_text ts)
  unfolding numbers
  numbers_is = rw some refl

  number_is : (s : List ℕ) (z : ℤ) → first_text ts ≡ Some s → IsElementText s z
      → numbers the_tests.is_element m ts ≡ (numbers the_tests.is_element k (after_comma (tail ts)) >>= put_first (s, has_comma (tail ts)))
  number_is s z comes means =
      let passes : the_tests.is_element s ≡ true = means_passes the_tests.is_element IsElementText s z are_tests.elements means in
      rw (numbers_is, comes, passes) refl

  number_isnt : (s : List ℕ) → first_text ts ≡ Some s → ((z : ℤ) → IsElementText s z → ⊥) → numbers the_tests.is_element m ts ≡ Err (stop BadInt ts)
  number_isnt s comes none =
      let fails : the_tests.is_element s ≡ false = none_fails the_tests.is_element IsElementText s are_tests.elements none in
      rw (numbers_is, comes, fails) refl

  no_number : first_text ts ≡ None → numbers the_tests.is_element m ts ≡ Ok ([], ts)
  no_number none = rw (numbers_is, none) refl

pub numbers_turn : (n : ℕ) (start ts after : List Token) (zs : List ℤ) (s : List ℕ) (z : ℤ) → NumbersSoFar n start zs ts → first_text ts ≡ Some s
    → IsElementText s z → after ≡ after_comma (tail ts) → length after < length ts
    → NumbersSoFar n start (zs ++ z ∷ []) after
numbers_turn n start ts after zs s z so comes means is shorter =
    let k : (k : ℕ) × (so.turns ≡ suc k) = (so.turns - 1, omega (arith, so.enough)) in
    record {
      turns = k.0;
      enough = omega (arith, so.enough, k.1);
      before = so.before ++ (s, has_comma (tail ts)) ∷ [];
      are = are_more so.before zs s (has_comma (tail ts)) z so.are means;
      same =
          so.same ∙ ap (λ (r : Read (List Number)). r >>= put_after so.before) (number_is so.turns k.0 ts k.1 s z comes means)
          ∙ regroup so.before (s, has_comma (tail ts)) (numbers the_tests.is_element k.0 (after_comma (tail ts)))
          ∙ ap (λ (l : List Token). numbers the_tests.is_element k.0 l >>= put_after (so.before ++ (s, has_comma (tail ts)) ∷ [])) (sym is);
    }

pub numbers_stop : (n end : ℕ) (start ts : List Token) (zs : List ℤ) (s : List ℕ) (e : SourceFault) → NumbersSoFar n start zs ts → first_text ts ≡ Some s
    → ((z : ℤ) → IsElementText s z → ⊥) → e.kind ≡ BadInt → e.line ≡ line_at end ts
    → located end (numbers the_tests.is_element n start) ≡ Err e
numbers_stop n end start ts zs s e so comes none k l =
    let below : (k : ℕ) × (so.turns ≡ suc k) = (so.turns - 1, omega (arith, so.enough)) in
    ap (located end) so.same ∙ located_bind end (numbers the_tests.is_element so.turns ts) (put_after so.before) e
    (stops_at end BadInt ts e (numbers the_tests.is_element so.turns ts) (number_isnt so.turns below.0 ts below.1 s comes none) k l)

pub numbers_end : (n : ℕ) (start ts : List Token) (zs : List ℤ) → NumbersSoFar n start zs ts → first_text ts ≡ None
    → (ns : List Number) × (numbers the_tests.is_element n start ≡ Ok (ns, ts)) × AreElementTexts ns zs
numbers_end n start ts zs so none =
    let below : (k : ℕ) × (so.turns ≡ suc k) = (so.turns - 1, omega (arith, so.enough)) in (
      so.before ++ [],
      so.same ∙ ap (λ (r : Read (List Number)). r >>= put_after so.before) (no_number so.turns below.0 ts below.1 none),
      whole so.before zs so.are,
    ) where
      whole : (ns : List Number) (zs : List ℤ) → AreElementTexts ns zs → AreElementTexts (ns ++ []) zs
      whole [] zs are = are
      whole (n ∷ ns) [] are = absurd are
      whole (n ∷ ns) (z ∷ zs) are = (are.0, whole ns zs are.1)

-- ---- what the code makes of a leaf

module _ (end : ℕ) (ts rest : List Token) (w : Word) where
  pub string_reads : (us : List ℕ) → word_of w ≡ word.Leaf leaf.String
      → Reads (λ (units : List ℕ) (t : Option (List ℕ)). units ≡ text_or_none t) end (Ok us) rest (maybe_at BadHex anything ts)
      → Reads IsLeafTree end (Ok (String us)) rest (leaf_at w ts)
  string_reads us is r = rw (is_string w is) (string r.0, rw r.1 refl, ap resource.string r.2)

  pub alias_reads : (us : List ℕ) → word_of w ≡ word.Leaf leaf.Alias
      → Reads (λ (units : List ℕ) (t : Option (List ℕ)). units ≡ text_or_none t) end (Ok us) rest (maybe_at BadHex anything ts)
      → Reads IsLeafTree end (Ok (Alias us)) rest (leaf_at w ts)
  alias_reads us is r = rw (is_alias w is) (alias r.0, rw r.1 refl, ap resource.alias r.2)

  pub binary_reads : (bytes : List ℕ) → word_of w ≡ word.Leaf leaf.Binary
      → Reads (λ (bytes : List ℕ) (t : Option (List ℕ)). IsHexText (text_or_none t) bytes) end (Ok bytes) rest (maybe_at BadHex the_tests.is_hex ts)
      → Reads IsLeafTree end (Ok (Binary bytes)) rest (leaf_at w ts)
  binary_reads bytes is r = let long = is_binary w is in rw long.1 (binary long.0 r.0, rw r.1 refl, (bytes, r.2, refl))

  pub int_reads : (n : ℕ) → word_of w ≡ word.Leaf leaf.Int → Reads (λ (n : ℕ) (s : List ℕ). IsIntText s n) end (Ok n) rest
      (checked_at BadInt the_tests.is_int ts) → Reads IsLeafTree end (Ok (Int n)) rest (leaf_at w ts)
  int_reads n is r = let long = is_int w is in rw long.1 (int long.0 r.0, rw r.1 refl, (n, r.2, refl))

  pub ints_reads : (zs : List ℤ) → word_of w ≡ word.Leaf leaf.Ints → Reads AreNumbers end (Ok zs) rest (numbers the_tests.is_element (suc (length ts)) ts)
      → Reads IsLeafTree end (Ok (Ints zs)) rest (leaf_at w ts)
  ints_reads zs is r = rw (is_ints w is) (ints r.0, rw r.1 refl, (zs, r.2, refl))
