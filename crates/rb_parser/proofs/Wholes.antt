-- Whole sources.
use Rattle.std.proofs.Common.{◌≡◌, ℕ, suc, ◌<◌, ◌≤◌, List, [], ◌∷◌, length, Result, Ok, Err, refl, sym, ap, subst, ◌∙◌, arith, ◌⊎◌, inl, inr}
use Rattle.std.proofs.lemmas.Bool.{cases_lt}
use Rattle.std.specs.Prelude.{◌≢◌}
use Rattle.rb_lexer.specs.declared.token.Token.{Token}
use Rattle.rb_lexer.specs.declared.fault.SourceKind.{SourceKind}
use Rattle.rb_lexer.specs.declared.fault.SourceKind.TheVariants.{TooLong, TrailingText, TooLarge, Memory}
use Rattle.rb_lexer.specs.declared.fault.SourceFault.{SourceFault}
use Rattle.rb_lexer.specs.Tokens.{HasTokens}
use Rattle.rb_lexer.proofs.Decided.{tokens_one, source_or}
use Rattle.rb_lexer.proofs.Total.{source_answered}
use Rattle.rb_lexer.proofs.Whole.{memory_or}
use Rattle.rb_tree.specs.Resource.{Resource, height, weight}
use Rattle.rb_tree.specs.SourceTree.{SourceTree}
use Rattle.rb_tree.specs.Parts.{Fits, kind_of}
use Rattle.rb_tree.specs.declared.kind.Kind.TheVariants.{Table}
use Rattle.rb_tree.specs.View.{view_of}
use Rattle.rb_grammar.specs.Faults as grammar
use Rattle.rb_grammar.specs.Faults.{line_at}
use Rattle.rb_grammar.specs.Form.{marks, table, Entries, Head}
use Rattle.rb_grammar.specs.Good.{IsSpelled, IsGood}
use Rattle.rb_grammar.specs.Reading.{Stop, Read, ◌>>=◌, left, punctuation_at, text_at, type_at, body, entries, table_at, ended, bundle}
use Rattle.rb_grammar.specs.Tests.{the_tests}
use Rattle.rb_grammar.proofs.Conditions.{are_tests}
use Rattle.rb_grammar.proofs.Trees.{tree_one}
use Rattle.rb_grammar.proofs.Fault.{stop_is_fault}
use Rattle.rb_grammar.proofs.Faultless.{good_faultless, good_or_faulty}
use Rattle.rb_grammar.proofs.Meaning.{same_source, spelled_one, read_spelled, spelled_read}
use Rattle.rb_parser.specs.inner.Reads.{located, inner_at}
use Rattle.rb_parser.specs.inner.ReadsBundle.{ReadsBundle}
use Rattle.rb_parser.specs.Source.{source_tree, IsGoodSourceWithin, IsGoodSource, last_line, IsFault, IsRefusal}
use Rattle.rb_parser.specs.declared.source.Source.{Source}
use Rattle.rb_parser.proofs.Steps.{located_bind, stops_at}
use Rattle.rb_parser.proofs.Bodies.{located_same}

-- ---- bundles

module _ (ts : List Token) where
  pub no_name : (end : ℕ) (e : SourceFault) → located end (text_at ts) ≡ Err e → located end (bundle the_tests ts) ≡ Err e
  unfolding bundle
  no_name end e h =
      located_bind end (text_at ts) (λ name. type_at name.1 >>= λ head. punctuation_at left head.1 >>= λ after. entries the_tests (body the_tests 63)
      (suc (length after)) [] after >>= λ es. ended name.0 head.0 es.0 es.1) e h

  module _ (name : List ℕ) (mid : List Token) (named : text_at ts ≡ Ok (name, mid)) where
    pub no_type_here : (end at : ℕ) (e : SourceFault) → at ≡ end → located at (type_at mid) ≡ Err e → located end (bundle the_tests ts) ≡ Err e
    unfolding bundle
    no_type_here end at e same h =
        rw (named, sym same) (located_bind at (type_at mid) (λ head. punctuation_at left head.1 >>= λ after. entries the_tests (body the_tests 63)
        (suc (length after)) [] after >>= λ es. ended name head.0 es.0 es.1) e h)

    module _ (head : Head) (brace : List Token) (type : type_at mid ≡ Ok (head, brace)) where
      pub no_brace : (end at : ℕ) (e : SourceFault) → at ≡ end → located at (punctuation_at left brace) ≡ Err e → located end (bundle the_tests ts) ≡ Err e
      unfolding bundle
      no_brace end at e same h =
          rw (named, type, sym same) (located_bind at (punctuation_at left brace)
          (λ after. entries the_tests (body the_tests 63) (suc (length after)) [] after >>= λ es. ended name head es.0 es.1) e h)

      module _ (after : List Token) (opened : punctuation_at left brace ≡ Ok after) where
        bundle_is : bundle the_tests ts ≡ (table_at the_tests (inner_at 63) after >>= λ es. ended name head es.0 es.1)
        unfolding bundle
        bundle_is = rw (named, type, opened) refl

        pub no_table : (end at : ℕ) (e : SourceFault) → at ≡ end → located at (table_at the_tests (inner_at 63) after) ≡ Err e
            → located end (bundle the_tests ts) ≡ Err e
        no_table end at e same h =
            located_same end at (table_at the_tests (inner_at 63) after >>= λ es. ended name head es.0 es.1) (bundle the_tests ts) e same bundle_is
            (located_bind at (table_at the_tests (inner_at 63) after) (λ es. ended name head es.0 es.1) e h)

        module _ (es : Entries) (rest : List Token) (read : table_at the_tests (inner_at 63) after ≡ Ok (es, rest)) where
          ends : bundle the_tests ts ≡ ended name head es rest
          ends = bundle_is ∙ ap (λ (r : Read Entries). r >>= λ es. ended name head es.0 es.1) read

          pub whole : rest ≡ [] → bundle the_tests ts ≡ Ok (name, head, es)
          whole none = ends ∙ ap (ended name head es) none

          trails : (end : ℕ) (rest : List Token) (e : SourceFault) → (rest ≡ [] → ⊥) → e.kind ≡ TrailingText → e.line ≡ line_at end rest
              → located end (ended name head es rest) ≡ Err e
          trails end [] e some k l = absurd (some refl)
          trails end (t ∷ ts) e some k l = stops_at end TrailingText (t ∷ ts) e (ended name head es (t ∷ ts)) refl k l

          pub trailing : (end : ℕ) (e : SourceFault) → (rest ≡ [] → ⊥) → e.kind ≡ TrailingText → e.line ≡ line_at end rest
              → located end (bundle the_tests ts) ≡ Err e
          trailing end e some k l = ap (located end) ends ∙ trails end rest e some k l

-- ---- sources

is_memory : (k : SourceKind) → (k ≢ Memory → ⊥) → k ≡ Memory
is_memory k h = elim (memory_or k) [ inl m ↦ m | inr other ↦ absurd (h other) ]

pub spelled : (ts : List Token) (s : Source) (end : ℕ) → ReadsBundle end (Ok s) (bundle the_tests ts) → IsSpelled (marks ts) s.name (source_tree s)
spelled ts s end r =
    let t = read_spelled the_tests are_tests ts s.name r.0 r.1 r.2 in
    let same = same_source t.source (source_tree s) (tree_one (table r.1) t.source.tree (view_of s.tree) t.means r.3) (t.flag ∙ sym r.4) in
    subst (IsSpelled (marks ts) s.name) same t.spelled

pub good : (bytes : List ℕ) (ts : List Token) (s : Source) (end : ℕ) → length bytes ≤ 8388608 → HasTokens bytes ts
    → ReadsBundle end (Ok s) (bundle the_tests ts) → Fits (view_of s.tree) → IsGoodSource bytes s.name (source_tree s)
good bytes ts s end short cut r fits =
    record { short = short; tokens = ts; cut = cut; good = record { whole = spelled ts s end r; low = fits.low; light = fits.light } }

same_tokens : (bytes : List ℕ) (ts : List Token) (name : List ℕ) (source : SourceTree) → HasTokens bytes ts → IsGoodSource bytes name source
    → IsGood (marks ts) name source
same_tokens bytes ts name source cut g = subst (λ (us : List Token). IsGood (marks us) name source) (tokens_one bytes g.tokens ts g.cut cut) g.good

pub good_one : (bytes : List ℕ) (name other : List ℕ) (source another : SourceTree) → IsGoodSource bytes name source → IsGoodSource bytes other another
    → (name ≡ other) × (source ≡ another)
good_one bytes name other source another g h =
    spelled_one (marks g.tokens) name other source another g.good.whole (same_tokens bytes g.tokens other another g.cut h).whole

-- fewer levels are allowed by more
pub good_higher : (low high : ℕ) (bytes name : List ℕ) (source : SourceTree) → low ≤ high → IsGoodSourceWithin low bytes name source
    → IsGoodSourceWithin high bytes name source
good_higher low high bytes name source more g =
    record { short = g.short; tokens = g.tokens; cut = g.cut; good = record { whole = g.good.whole; low = omega (arith, g.good.low); light = g.good.light } }

pub good_same : (bytes : List ℕ) (ts : List Token) (s : Source) (end : ℕ) (name : List ℕ) (source : SourceTree) → HasTokens bytes ts
    → ReadsBundle end (Ok s) (bundle the_tests ts) → IsGoodSource bytes name source → (s.name ≡ name) × (source_tree s ≡ source)
good_same bytes ts s end name source cut r g =
    spelled_one (marks ts) s.name name (source_tree s) source (spelled ts s end r) (same_tokens bytes ts name source cut g).whole

not_both : {A : Type 0} (end : ℕ) (x : A) (e : SourceFault) (r : Result A Stop) → r ≡ Ok x → located end r ≡ Err e → ⊥
not_both end x e (Ok y) is h = cc
not_both end x e (Err s) is h = cc

pub good_memory : (bytes : List ℕ) (ts : List Token) (e : SourceFault) (end : ℕ) (name : List ℕ) (source : SourceTree) → HasTokens bytes ts
    → ReadsBundle end (Err e) (bundle the_tests ts) → IsGoodSource bytes name source → e.kind ≡ Memory
good_memory bytes ts e end name source cut r g =
    let h = same_tokens bytes ts name source cut g in
    let x : List ℕ × Head × Entries = (name, h.whole.head, h.whole.form) in
    is_memory e.kind (λ other. not_both end x e (bundle the_tests ts) (spelled_read the_tests are_tests ts name source h.whole h.low) (r other))

-- a good source that was read has a tree that fits
pub fits_of_good : (bytes : List ℕ) (s : Source) (name : List ℕ) (source : SourceTree) → kind_of (view_of s.tree) ≡ Table
    → (s.name ≡ name) × (source_tree s ≡ source) → IsGoodSource bytes name source → Fits (view_of s.tree)
fits_of_good bytes s name source is_table same g =
    record {
      is_table = is_table;
      low = subst (λ (d : SourceTree). height d.tree ≤ 64) (sym same.1) g.good.low;
      light = subst (λ (d : SourceTree). weight d.tree ≤ 33554432) (sym same.1) g.good.light;
    }

-- what was read is a table within the limit of height
pub read_table_low : (ts : List Token) (s : Source) (end : ℕ) → ReadsBundle end (Ok s) (bundle the_tests ts)
    → (kind_of (view_of s.tree) ≡ Table) × (height (view_of s.tree) ≤ 64)
read_table_low ts s end r =
    let t = read_spelled the_tests are_tests ts s.name r.0 r.1 r.2 in
    let same : t.source.tree ≡ view_of s.tree = tree_one (table r.1) t.source.tree (view_of s.tree) t.means r.3 in
    (ap kind_of r.3.1, subst (λ (d : Resource). height d ≤ 64) same t.low)

-- a tree that does not fit, though it is a table within that limit, weighs too much
pub heavy_if_unfit : (s : Source) → kind_of (view_of s.tree) ≡ Table → height (view_of s.tree) ≤ 64 → (Fits (view_of s.tree) → ⊥)
    → 33554432 < weight (view_of s.tree)
heavy_if_unfit s is_table low over = elim (cases_lt 33554432 (weight (view_of s.tree))) [
  | inl h ↦ h
  | inr light ↦ absurd (over (record { is_table = is_table; low = low; light = light }))
]

-- ---- errors

stop_located : (ts : List Token) (end : ℕ) (r : Result (List ℕ × Head × Entries) Stop) (e : SourceFault) → bundle the_tests ts ≡ r → located end r ≡ Err e
    → grammar.IsFault ts end e.kind e.line
stop_located ts end (Ok x) e is h = absurd cc
stop_located ts end (Err s) e is h =
    let made : SourceFault = record { kind = s.kind; line = line_at end s.rest } in
    let same : made ≡ e = cc in
    subst (λ (f : SourceFault). grammar.IsFault ts end f.kind f.line) same (stop_is_fault the_tests are_tests ts end s is)

-- the error that is reported where reading stops: it has line 0 where memory ran out
pub refused : (bytes : List ℕ) (ts : List Token) (end : ℕ) (e reported : SourceFault) → length bytes ≤ 8388608 → HasTokens bytes ts → end ≡ last_line bytes
    → ReadsBundle end (Err e) (bundle the_tests ts)
    → reported.kind ≡ e.kind → (reported.kind ≡ Memory → reported.line ≡ 0) → ((reported.kind ≡ Memory → ⊥) → reported.line ≡ e.line) → IsRefusal bytes reported
refused bytes ts end e reported short cut is r kind none line = elim (memory_or reported.kind) [
  | inl memory ↦ inl (memory, none memory)
  | inr other ↦
      let fault : grammar.IsFault ts end e.kind e.line = stop_located ts end (bundle the_tests ts) e refl (r (λ m. other (kind ∙ m))) in
      let here : grammar.IsFault ts end reported.kind reported.line =
      subst (λ (n : ℕ). grammar.IsFault ts end reported.kind n) (sym (line other))
      (subst (λ (k : SourceKind). grammar.IsFault ts end k e.line) (sym kind) fault) in
      inr (inr (record { short = short; tokens = ts; cut = cut; fault = subst (λ (n : ℕ). grammar.IsFault ts n reported.kind reported.line) is here }))
]

-- a tree that was read and weighs too much is an error of the text
pub too_heavy : (bytes : List ℕ) (ts : List Token) (s : Source) (end : ℕ) → length bytes ≤ 8388608 → HasTokens bytes ts
    → ReadsBundle end (Ok s) (bundle the_tests ts) → 33554432 < weight (view_of s.tree) → IsFault bytes TooLarge 1
too_heavy bytes ts s end short cut r heavy =
    let low = (read_table_low ts s end r).1 in
    let large : grammar.IsTooLarge (marks ts) = record { name = s.name; source = source_tree s; whole = spelled ts s end r; low = low; heavy = heavy } in
    inr (record { short = short; tokens = ts; cut = cut; fault = inr (refl, large, refl) })

pub good_apart : (bytes : List ℕ) (name : List ℕ) (source : SourceTree) (kind : SourceKind) (line : ℕ) → IsGoodSource bytes name source
    → IsFault bytes kind line → ⊥
good_apart bytes name source kind line g (inl lexical) = source_or bytes g.tokens kind line g.short g.cut lexical
good_apart bytes name source kind line g (inr f) =
    good_faultless f.tokens name source (last_line bytes) kind line (same_tokens bytes f.tokens name source f.cut g) f.fault

abbrev Decided : List ℕ → Type 0
Decided bytes = ((name : List ℕ) × (source : SourceTree) × IsGoodSource bytes name source) ⊎ ((kind : SourceKind) × (line : ℕ) × IsFault bytes kind line)

pub good_or : (bytes : List ℕ) → Decided bytes
good_or bytes = elim (source_answered bytes) [
  | inr f ↦ inr (f.0, f.1.0, inl f.1.1)
  | inl t ↦ elim (cases_lt 8388608 (length bytes)) [
    | inl long ↦ inr (TooLong, 1, inl (inl (inl (refl, (long, refl)))))
    | inr short ↦ elim (good_or_faulty the_tests are_tests t.0 (last_line bytes)) [
      | inl g ↦ inl (g.0, g.1, record { short = short; tokens = t.0; cut = t.1; good = g.2 })
      | inr f ↦ inr (f.0, f.1, inr (record { short = short; tokens = t.0; cut = t.1; fault = f.2 }))
    ]
  ]
]
