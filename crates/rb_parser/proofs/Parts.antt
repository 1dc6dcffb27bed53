-- The elements of an array, one after another, as the code reads them.
use Rattle.std.proofs.Common.{◌≡◌, ℕ, suc, ◌<◌, ◌++◌, ◌-◌, ◌||◌, Bool, true, false, List, [], ◌∷◌, length, Some, None, Ok, Err, refl, sym, ap, ◌∙◌, arith}
use Rattle.rb_lexer.specs.declared.token.Token.{Token}
use Rattle.rb_lexer.specs.declared.fault.SourceKind.TheVariants.{TooDeep}
use Rattle.rb_lexer.specs.declared.fault.SourceFault.{SourceFault}
use Rattle.rb_tree.specs.Resource as resource
use Rattle.rb_tree.specs.Resource.{Resource, Resources, tree_and}
use Rattle.rb_tree.specs.View.{view_of, views_of}
use Rattle.rb_tree.specs.declared.tree.Tree.{Tree}
use Rattle.rb_tree.specs.declared.tree.Tree.TheVariants.{String}
use Rattle.rb_grammar.specs.Faults.{line_at}
use Rattle.rb_grammar.specs.Form.{Body, Elements, no_elements, one_text, one_body}
use Rattle.rb_grammar.specs.Good.{EachSpells}
use Rattle.rb_grammar.specs.Reading.{stop, Read, ◌>>=◌, left, right, colon, begins, tail, first_text, punctuation_at, has_comma, after_comma, elements_step}
use Rattle.rb_grammar.specs.Reading.{elements}
use Rattle.rb_parser.specs.inner.Reads.{located, IsBodyTree}
use Rattle.rb_parser.proofs.Steps.{located_bind, stops_at}

-- an element that was read, and whether a comma follows
pub data Part : Type 0 where
  a_text : List ℕ → Bool → Part
  a_body : Body → Bool → Part

abbrev parts_first : List Part → Elements → Elements
parts_first [] xs = xs
parts_first (a_text s c ∷ ps) xs = one_text s c (parts_first ps xs)
parts_first (a_body b c ∷ ps) xs = one_body b c (parts_first ps xs)

abbrev put_text : List ℕ → Bool → Elements × List Token → Read Elements
put_text s c x = Ok (one_text s c x.0, x.1)

abbrev put_body : Body → Bool → Elements × List Token → Read Elements
put_body b c x = Ok (one_body b c x.0, x.1)

abbrev put_parts : List Part → Elements × List Token → Read Elements
put_parts ps x = Ok (parts_first ps x.0, x.1)

abbrev IsPart : Part → Tree → Type 0
IsPart (a_text s c) t = view_of t ≡ resource.string s
IsPart (a_body b c) t = IsBodyTree t b

abbrev AreParts : List Tree → List Part → Type 0
AreParts [] [] = Unit {0}
AreParts [] (p ∷ ps) = ⊥
AreParts (t ∷ ts) [] = ⊥
AreParts (t ∷ ts) (p ∷ ps) = IsPart p t × AreParts ts ps

parts_push_text : (ps : List Part) (s : List ℕ) (c : Bool) (xs : Elements) → parts_first (ps ++ a_text s c ∷ []) xs ≡ parts_first ps (one_text s c xs)
parts_push_text [] s c xs = refl
parts_push_text (a_text q d ∷ ps) s c xs = ap (one_text q d) (parts_push_text ps s c xs)
parts_push_text (a_body q d ∷ ps) s c xs = ap (one_body q d) (parts_push_text ps s c xs)

parts_push_body : (ps : List Part) (b : Body) (c : Bool) (xs : Elements) → parts_first (ps ++ a_body b c ∷ []) xs ≡ parts_first ps (one_body b c xs)
parts_push_body [] b c xs = refl
parts_push_body (a_text q d ∷ ps) b c xs = ap (one_text q d) (parts_push_body ps b c xs)
parts_push_body (a_body q d ∷ ps) b c xs = ap (one_body q d) (parts_push_body ps b c xs)

are_more : (ts : List Tree) (ps : List Part) (t : Tree) (p : Part) → AreParts ts ps → IsPart p t → AreParts (ts ++ t ∷ []) (ps ++ p ∷ [])
are_more [] [] t p are is = (is, tt)
are_more [] (q ∷ ps) t p are is = absurd are
are_more (u ∷ ts) [] t p are is = absurd are
are_more (u ∷ ts) (q ∷ ps) t p are is = (are.0, are_more ts ps t p are.1 is)

are_elements : (ts : List Tree) (ps : List Part) → AreParts ts ps → EachSpells (parts_first ps no_elements) (views_of ts)
are_elements [] [] are = refl
are_elements [] (p ∷ ps) are = absurd are
are_elements (t ∷ ts) [] are = absurd are
are_elements (t ∷ ts) (a_text s c ∷ ps) are = (views_of ts, ap (λ (d : Resource). tree_and d (views_of ts)) are.0, are_elements ts ps are.1)
are_elements (t ∷ ts) (a_body b c ∷ ps) are = (view_of t, views_of ts, refl, are.0, are_elements ts ps are.1)

regroup_text : (ps : List Part) (s : List ℕ) (c : Bool) (x : Read Elements)
    → ((x >>= put_text s c) >>= put_parts ps) ≡ (x >>= put_parts (ps ++ a_text s c ∷ []))
regroup_text ps s c (Ok x) = ap (λ (xs : Elements). Ok (xs, x.1)) (sym (parts_push_text ps s c x.0))
regroup_text ps s c (Err e) = refl

regroup_body : (ps : List Part) (b : Body) (c : Bool) (x : Read Elements) → ((x >>= put_body b c) >>= put_parts ps) ≡ (x >>= put_parts (ps ++ a_body b c ∷ []))
regroup_body ps b c (Ok x) = ap (λ (xs : Elements). Ok (xs, x.1)) (sym (parts_push_body ps b c x.0))
regroup_body ps b c (Err e) = refl

module _ (room : Bool) (reads : List Token → Read Body) where
  -- Some elements are read, in as many turns as are enough; what more there is, is read from here on.
  pub record ElementsSoFar (n : ℕ) (start : List Token) (trees : List Tree) (ts : List Token) : Type 0 where
    pub turns : ℕ
    pub enough : length ts < turns
    pub parts : List Part
    pub are : AreParts trees parts
    pub same : elements room reads n start ≡ (elements room reads turns ts >>= put_parts parts)

  unchanged : (r : Read Elements) → r ≡ (r >>= put_parts [])
  unchanged (Ok x) = refl
  unchanged (Err s) = refl

  pub elements_start : (n : ℕ) (ts : List Token) → length ts < n → ElementsSoFar n ts [] ts
  elements_start n ts enough = record { turns = n; enough = enough; parts = []; are = tt; same = unchanged (elements room reads n ts) }

  module _ (m k : ℕ) (ts : List Token) (some : m ≡ suc k) where
    step_is : elements room reads m ts ≡ elements_step room reads (elements room reads k) ts (first_text ts)
    unfolding elements
    step_is = rw some refl

    closed : (r : List Token) → first_text ts ≡ None → (begins colon ts || begins left ts) ≡ false → punctuation_at right ts ≡ Ok r
        → elements room reads m ts ≡ Ok (no_elements, r)
    closed r none other h = rw (step_is, none, other, h) refl

    not_closed : (end : ℕ) (e : SourceFault) → first_text ts ≡ None → (begins colon ts || begins left ts) ≡ false
        → located end (punctuation_at right ts) ≡ Err e → located end (elements room reads m ts) ≡ Err e
    not_closed end e none other h = rw (step_is, none, other) (located_bind end (punctuation_at right ts) (λ after. Ok (no_elements, after)) e h)

    too_deep : (s : List ℕ) → first_text ts ≡ Some s → room ≡ false → elements room reads m ts ≡ Err (stop TooDeep ts)
    too_deep s comes full = rw (step_is, comes, full) refl

    bad_body : (end : ℕ) (e : SourceFault) → first_text ts ≡ None → (begins colon ts || begins left ts) ≡ true → located end (reads ts) ≡ Err e
        → located end (elements room reads m ts) ≡ Err e
    bad_body end e none opens h =
        rw (step_is, none, opens) (located_bind end (reads ts)
        (λ b. elements room reads k (after_comma b.1) >>= λ xs. Ok (one_body b.0 (has_comma b.1) xs.0, xs.1)) e h)

    next_text : (s : List ℕ) → first_text ts ≡ Some s → room ≡ true
        → elements room reads m ts ≡ (elements room reads k (after_comma (tail ts)) >>= put_text s (has_comma (tail ts)))
    next_text s comes free = rw (step_is, comes, free) refl

    next_body : (b : Body) (r : List Token) → first_text ts ≡ None → (begins colon ts || begins left ts) ≡ true → reads ts ≡ Ok (b, r)
        → elements room reads m ts ≡ (elements room reads k (after_comma r) >>= put_body b (has_comma r))
    next_body b r none opens h = rw (step_is, none, opens, h) refl

  module _ (n : ℕ) (start ts : List Token) (trees : List Tree) (so : ElementsSoFar n start trees ts) where
    below : (k : ℕ) × (so.turns ≡ suc k)
    below = (so.turns - 1, omega (arith, so.enough))

    stops : (end : ℕ) (e : SourceFault) → located end (elements room reads so.turns ts) ≡ Err e → located end (elements room reads n start) ≡ Err e
    stops end e h = ap (located end) so.same ∙ located_bind end (elements room reads so.turns ts) (put_parts so.parts) e h

    pub stop_deep : (end : ℕ) (s : List ℕ) (e : SourceFault) → first_text ts ≡ Some s → room ≡ false → e.kind ≡ TooDeep → e.line ≡ line_at end ts
        → located end (elements room reads n start) ≡ Err e
    stop_deep end s e comes full k l =
        stops end e (stops_at end TooDeep ts e (elements room reads so.turns ts) (too_deep so.turns below.0 ts below.1 s comes full) k l)

    pub stop_element : (end : ℕ) (e : SourceFault) → first_text ts ≡ None → (begins colon ts || begins left ts) ≡ true → located end (reads ts) ≡ Err e
        → located end (elements room reads n start) ≡ Err e
    stop_element end e none opens h = stops end e (bad_body so.turns below.0 ts below.1 end e none opens h)

    pub stop_open : (end : ℕ) (e : SourceFault) → first_text ts ≡ None → (begins colon ts || begins left ts) ≡ false
        → located end (punctuation_at right ts) ≡ Err e → located end (elements room reads n start) ≡ Err e
    stop_open end e none other h = stops end e (not_closed so.turns below.0 ts below.1 end e none other h)

    pub elements_end : (r : List Token) → first_text ts ≡ None → (begins colon ts || begins left ts) ≡ false → punctuation_at right ts ≡ Ok r
        → (xs : Elements) × (elements room reads n start ≡ Ok (xs, r)) × EachSpells xs (views_of trees)
    elements_end r none other h = (
      parts_first so.parts no_elements,
      so.same ∙ ap (λ (x : Read Elements). x >>= put_parts so.parts) (closed so.turns below.0 ts below.1 r none other h),
      are_elements trees so.parts so.are,
    )

    pub text_turn : (s : List ℕ) (after : List Token) → first_text ts ≡ Some s → room ≡ true → after ≡ after_comma (tail ts) → length after < length ts
        → ElementsSoFar n start (trees ++ String s ∷ []) after
    text_turn s after comes free is shorter = record {
      turns = below.0;
      enough = omega (arith, so.enough, below.1);
      parts = so.parts ++ a_text s (has_comma (tail ts)) ∷ [];
      are = are_more trees so.parts (String s) (a_text s (has_comma (tail ts))) so.are refl;
      same = so.same ∙ ap (λ (x : Read Elements). x >>= put_parts so.parts) (next_text so.turns below.0 ts below.1 s comes free)
          ∙ regroup_text so.parts s (has_comma (tail ts)) (elements room reads below.0 (after_comma (tail ts)))
          ∙ ap (λ (l : List Token). elements room reads below.0 l >>= put_parts (so.parts ++ a_text s (has_comma (tail ts)) ∷ [])) (sym is);
    }

    pub body_turn : (b : Body) (r after : List Token) (t : Tree) → first_text ts ≡ None → (begins colon ts || begins left ts) ≡ true → reads ts ≡ Ok (b, r)
        → IsBodyTree t b → after ≡ after_comma r → length after < length ts → ElementsSoFar n start (trees ++ t ∷ []) after
    body_turn b r after t none opens h means is shorter = record {
      turns = below.0;
      enough = omega (arith, so.enough, below.1);
      parts = so.parts ++ a_body b (has_comma r) ∷ [];
      are = are_more trees so.parts t (a_body b (has_comma r)) so.are means;
      same = so.same ∙ ap (λ (x : Read Elements). x >>= put_parts so.parts) (next_body so.turns below.0 ts below.1 b r none opens h)
          ∙ regroup_body so.parts b (has_comma r) (elements room reads below.0 (after_comma r))
          ∙ ap (λ (l : List Token). elements room reads below.0 l >>= put_parts (so.parts ++ a_body b (has_comma r) ∷ [])) (sym is);
    }
