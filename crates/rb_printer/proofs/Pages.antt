-- The characters of a page are a text of its bundle.
use Rattle.std.proofs.Common.{◌≡◌, ℕ, suc, ◌≤◌, ◌<◌, Bool, true, false, List, [], ◌∷◌, ◌++◌, refl, sym, ap, subst, ◌∙◌, length, get_or, encode_utf8_all}
use Rattle.rb_tree.specs.Resource.{Resource, string, int, ints, binary, alias, array, table, Members, height}
use Rattle.rb_tree.specs.Parts.{kind_of}
use Rattle.rb_tree.specs.declared.kind.Kind.TheVariants as Kinds
use Rattle.rb_printer.specs.inner.Growth.{Adds, Exceeds}
use Rattle.rb_printer.specs.declared.error.PrintError.{PrintError}
use Rattle.rb_printer.proofs.Growths.{adds_more, owes_all, owes_step, exceeds_in}
use Rattle.rb_printer.proofs.Loops.{owes_as}
use Rattle.rb_printer.proofs.Puts.{adds_as}
use Rattle.rb_printer.proofs.Splits.{same, front, head_splits, entries_split}
use Rattle.rb_printer.proofs.Least.{page_light}
use Rattle.rb_grammar.specs.Form.{has_no_fallback}
use Rattle.rb_printer.specs.Sign.{feed, left, right, text, is_name, sign_chars, signs_chars}
use Rattle.rb_printer.specs.Page.{page, head_signs, entries_signs, members_of}
use Rattle.rb_printer.specs.inner.Formed.{entries_form, head_form}
use Rattle.rb_printer.specs.Sound.{AreUnits, IsSound, IsBundleTree}
use Rattle.rb_printer.specs.inner.Lexed.{lexemes}
use Rattle.rb_printer.specs.Whole.{IsBundleText}
use Rattle.rb_lexer.specs.Tokens.{tokens_of}
use Rattle.rb_printer.proofs.Cutting.{cuts}
use Rattle.rb_printer.proofs.Forming.{page_marks, page_apart}
use Rattle.rb_printer.proofs.Meaning.{are_forms, table_has_keys, table_means}

flag_is : (b : Bool) → b ≡ has_no_fallback (head_form b)
flag_is true = refl
flag_is false = refl

pub page_spells : (bytes name : List ℕ) (no_fallback : Bool) (es : Members) → AreUnits name → IsSound (table es) → height (table es) ≤ 64
    → bytes ≡ encode_utf8_all (signs_chars (page name no_fallback es)) → length bytes ≤ 8388608
    → IsBundleText bytes name (record { tree = table es; no_fallback = no_fallback })
page_spells bytes name no_fallback es u s low e short =
    let cut = cuts bytes (page name no_fallback es) e (page_apart name no_fallback es u s) in
    record {
      tokens = tokens_of bytes (lexemes (page name no_fallback es));
      lexed = (short, cut.0);
      good = record {
        whole = record {
          head = head_form no_fallback;
          form = entries_form es;
          spelled = cut.1 ∙ page_marks name no_fallback es;
          good = are_forms es;
          keys = table_has_keys es s;
          means = table_means es s;
          flag = flag_is no_fallback;
        };
        low = low;
        light = page_light name no_fallback es (subst (λ (bs : List ℕ). length bs ≤ 8388608) e short);
      };
    }

-- ---- what is written

page_parts : (name : List ℕ) (no_fallback : Bool) (es : Members)
    → signs_chars (page name no_fallback es)
    ≡ sign_chars (text (is_name name) name) ++ (signs_chars (head_signs no_fallback (left ∷ feed ∷ []))
    ++ (signs_chars (entries_signs 1 es []) ++ (0x7D ∷ 0x0A ∷ [])))
page_parts name no_fallback es =
    let end = right ∷ feed ∷ [] in
    let begin = signs_chars (head_signs no_fallback (left ∷ feed ∷ [])) in
    ap (λ (cs : List ℕ). sign_chars (text (is_name name) name) ++ cs)
    ((head_splits no_fallback (front left (front feed same))).are (entries_signs 1 es end) ∙ ap (λ (cs : List ℕ). begin ++ cs) ((entries_split es 1).are end))

pub page_put : (old a b c new name : List ℕ) (no_fallback : Bool) (es : Members) → Adds old a (sign_chars (text (is_name name) name))
    → Adds a b (signs_chars (head_signs no_fallback (left ∷ feed ∷ []))) → Adds b c (signs_chars (entries_signs 1 es [])) → Adds c new (0x7D ∷ 0x0A ∷ [])
    → Adds old new (signs_chars (page name no_fallback es))
page_put old a b c new name no_fallback es p q r s = adds_as (adds_more p (adds_more q (adds_more r s))) (sym (page_parts name no_fallback es))

-- entries that are too long make the page too long
pub page_exceeds : (old a b name : List ℕ) (no_fallback : Bool) (es : Members) (err : PrintError) → Adds old a (sign_chars (text (is_name name) name))
    → Adds a b (signs_chars (head_signs no_fallback (left ∷ feed ∷ []))) → Exceeds b (signs_chars (entries_signs 1 es [])) err
    → Exceeds old (signs_chars (page name no_fallback es)) err
page_exceeds old a b name no_fallback es err p q h =
    let entries = signs_chars (entries_signs 1 es []) in
    let end = 0x7D ∷ 0x0A ∷ [] in
    let begin = signs_chars (head_signs no_fallback (left ∷ feed ∷ [])) in
    exceeds_in entries end err
    (owes_step (entries ++ end) (owes_step (begin ++ (entries ++ end)) (owes_as (owes_all old (signs_chars (page name no_fallback es))) (page_parts name no_fallback es)) p) q) h

table_is : (t : Resource) → kind_of t ≡ Kinds.Table → table (members_of t) ≡ t
table_is (string us) k = absurd cc
table_is (int n) k = absurd cc
table_is (ints zs) k = absurd cc
table_is (binary bs) k = absurd cc
table_is (alias us) k = absurd cc
table_is (array ts) k = absurd cc
table_is (table es) k = refl

pub units_are : (us : List ℕ) → ((i : ℕ) → get_or us i 0 < 65536) → AreUnits us
units_are [] h = tt
units_are (u ∷ us) h = (h 0, units_are us (λ i. h (suc i)))

pub page_printed : (bytes name : List ℕ) (no_fallback : Bool) (t : Resource) → IsBundleTree t → IsSound t → AreUnits name → Adds [] bytes (signs_chars (page name no_fallback (members_of t))) → length bytes ≤ 8388608
    → IsBundleText bytes name (record { tree = t; no_fallback = no_fallback })
page_printed bytes name no_fallback t whole sound units a short =
    let is = table_is t whole.is_table in
    subst (λ (u : Resource). IsBundleText bytes name (record { tree = u; no_fallback = no_fallback })) is
    (page_spells bytes name no_fallback (members_of t) units (subst IsSound (sym is) sound)
    (subst (λ (u : Resource). height u ≤ 64) (sym is) whole.low) a.is short)
