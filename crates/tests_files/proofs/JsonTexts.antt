-- Printed values have their own tokens, and tokens have one value of integers.
use Rattle.std.proofs.Common.{◌≡◌, ◌<◌, ◌*◌, ◌++◌, ◌∙◌, ◌^◌, ℕ, zero, suc, ℤ, pos, negsuc, List, [], ◌∷◌, Bool, true, false, unwrap_or, refl, ap, ap₂, sym, subst, arith, inl, inr, map, replicate, append_assoc, le_refl}
use Rattle.std.specs.Fmt.{signed_decimal}
use Rattle.std.specs.Int.Signed.{mag}
use Rattle.json.specs.Token.{Token, begin_object, end_object, begin_array, end_array, key, string, number, boolean, null, bad}
use Rattle.json.specs.Lex.{tokens}
use Rattle.json.specs.Json as json
use Rattle.json.specs.Print.{ends, begins, token_text, separator, IsNumber, ArePrintable}
use Rattle.json.specs.Layout.{Last, nothing, bracket, name, value, is_value, gap, depth_at, step, piece, pretty, pretty_from}
use Rattle.json.specs.Spaced.{IsGap, AreGaps, print_spaced}
use Rattle.json.specs.Tree.{json_tokens, depth, HasNumbers, ItemsHaveNumbers, MembersHaveNumbers}
use Rattle.json.proofs.Found.{one_reading, Some_inj}
use Rattle.json.proofs.Printed.Decimals.{IsNumber-signed_decimal}
use Rattle.json.proofs.Printed.Tokens.{tokens-print, tokens-print_spaced}
use Rattle.json.proofs.Printed.Trees.{value-json_tokens, ArePrintable-json_tokens}
use Rattle.serde_json.specs.Data as form
use Rattle.serde_json.specs.Data.{Data, Items, Members, unsigned}
use Rattle.serde_json.specs.Find.{of_integer}
use Rattle.serde_json.specs.Read.{number_of}
use Rattle.serde_json.specs.Written.{number_text, outline, items_outline, members_outline}
use Rattle.serde_json.proofs.Numbers.{number_of-decimal, number_of-negative}
use Rattle.serde_json.proofs.Texts.{print-outline}
use Rattle.rb_json.specs.Tokens.{data_tokens}
use Rattle.rb_json.specs.Printed.{laid_out}
use Rattle.rb_json.specs.declared.layout.Layout.{Layout}
use Rattle.rb_json.specs.declared.layout.Layout.TheVariants.{Compact, Pretty}

-- each number is an integer that a signed number of 64 bits can have
abbrev mutual
  pub HasIntegers : Data → Type 0
  HasIntegers form.null = Unit {0}
  HasIntegers (form.boolean b) = Unit {0}
  HasIntegers (form.number n) = (z : ℤ) × (n ≡ of_integer z) × (mag z < 2 ^ 63)
  HasIntegers (form.string s) = Unit {0}
  HasIntegers (form.array ds) = ItemsHaveIntegers ds
  HasIntegers (form.object ms) = MembersHaveIntegers ms

  pub ItemsHaveIntegers : Items → Type 0
  ItemsHaveIntegers form.no_items = Unit {0}
  ItemsHaveIntegers (form.item d ds) = HasIntegers d × ItemsHaveIntegers ds

  pub MembersHaveIntegers : Members → Type 0
  MembersHaveIntegers form.no_members = Unit {0}
  MembersHaveIntegers (form.member k d ms) = HasIntegers d × MembersHaveIntegers ms

-- ---- texts of numbers
integer_text : (z : ℤ) → signed_decimal z ≡ number_text (of_integer z)
integer_text (pos n) = refl
integer_text (negsuc n) = refl

mutual
  has_numbers : (d : Data) → HasIntegers d → HasNumbers (outline d)
  has_numbers form.null h = tt
  has_numbers (form.boolean b) h = tt
  has_numbers (form.number n) h =
      subst (λ m. IsNumber (number_text m)) (sym h.1) (subst IsNumber (integer_text h.0) (IsNumber-signed_decimal h.0 h.2))
  has_numbers (form.string s) h = tt
  has_numbers (form.array ds) h = items_numbers ds h
  has_numbers (form.object ms) h = members_numbers ms h

  items_numbers : (ds : Items) → ItemsHaveIntegers ds → ItemsHaveNumbers (items_outline ds)
  items_numbers form.no_items h = tt
  items_numbers (form.item d ds) h = (has_numbers d h.0, items_numbers ds h.1)

  members_numbers : (ms : Members) → MembersHaveIntegers ms → MembersHaveNumbers (members_outline ms)
  members_numbers form.no_members h = tt
  members_numbers (form.member k d ms) h = (has_numbers d h.0, members_numbers ms h.1)

-- ---- the value that an outline is of
abbrev mutual
  inline : json.Json → Data
  inline json.null = form.null
  inline (json.boolean b) = form.boolean b
  inline (json.number s) = form.number (unwrap_or (number_of s) (unsigned 0))
  inline (json.string s) = form.string s
  inline (json.array js) = form.array (items_inline js)
  inline (json.object ms) = form.object (members_inline ms)

  items_inline : json.Items → Items
  items_inline json.no_items = form.no_items
  items_inline (json.item j js) = form.item (inline j) (items_inline js)

  members_inline : json.Members → Members
  members_inline json.no_members = form.no_members
  members_inline (json.member k j ms) = form.member k (inline j) (members_inline ms)

number_back : (z : ℤ) → mag z < 2 ^ 63 → unwrap_or (number_of (number_text (of_integer z))) (unsigned 0) ≡ of_integer z
number_back (pos n) h = ap (λ o. unwrap_or o (unsigned 0)) (number_of-decimal n (omega arith))
number_back (negsuc n) h = ap (λ o. unwrap_or o (unsigned 0)) (number_of-negative n h)

mutual
  back : (d : Data) → HasIntegers d → inline (outline d) ≡ d
  back form.null h = refl
  back (form.boolean b) h = refl
  back (form.number n) h =
      ap (λ m. form.number (unwrap_or (number_of (number_text m)) (unsigned 0))) h.1 ∙ ap form.number (number_back h.0 h.2 ∙ sym h.1)
  back (form.string s) h = refl
  back (form.array ds) h = ap form.array (items_back ds h)
  back (form.object ms) h = ap form.object (members_back ms h)

  items_back : (ds : Items) → ItemsHaveIntegers ds → items_inline (items_outline ds) ≡ ds
  items_back form.no_items h = refl
  items_back (form.item d ds) h = ap₂ form.item (back d h.0) (items_back ds h.1)

  members_back : (ms : Members) → MembersHaveIntegers ms → members_inline (members_outline ms) ≡ ms
  members_back form.no_members h = refl
  members_back (form.member k d ms) h = ap₂ (form.member k) (back d h.0) (members_back ms h.1)

-- ---- tokens
json_same : (j k : json.Json) → json_tokens j ≡ json_tokens k → j ≡ k
json_same j k same =
    let ts = json_tokens j ++ [] in
    let first = value-json_tokens j (depth j) [] (le_refl (depth j)) in
    let second = ap (λ l. json.value (depth k) (l ++ [])) same ∙ value-json_tokens k (depth k) [] (le_refl (depth k)) in
    ap (λ p. p.0) (Some_inj (j, []) (k, []) (one_reading (depth j) (depth k) ts (j, []) (k, []) first second))

pub data_same : (d e : Data) → HasIntegers d → HasIntegers e → data_tokens d ≡ data_tokens e → d ≡ e
data_same d e p q same = sym (back d p) ∙ ap inline (json_same (outline d) (outline e) same) ∙ back e q

-- ---- the pretty layout
abbrev spaced : Last × ℕ → List Token → List (List ℕ × Token)
spaced s [] = []
spaced s (t ∷ ts) = (gap s.0 (begins t) (depth_at s.1 t), t) ∷ spaced (step s t) ts

spaces : (n : ℕ) → IsGap (replicate n 32)
spaces zero = tt
spaces (suc n) = (inl refl, spaces n)

gap_is : (l : Last) (opens : Bool) (d : ℕ) → IsGap (gap l opens d)
gap_is nothing opens d = tt
gap_is bracket true d = (inr refl, spaces (2 * d))
gap_is bracket false d = tt
gap_is name opens d = (inl refl, tt)
gap_is value opens d = (inr refl, spaces (2 * d))

gaps : (s : Last × ℕ) (ts : List Token) → AreGaps (spaced s ts)
gaps s [] = tt
gaps s (t ∷ ts) = (gap_is s.0 (begins t) (depth_at s.1 t), gaps (step s t) ts)

only_tokens : (s : Last × ℕ) (ts : List Token) → map (λ p. p.1) (spaced s ts) ≡ ts
only_tokens s [] = refl
only_tokens s (t ∷ ts) = ap (λ l. t ∷ l) (only_tokens (step s t) ts)

step_ends : (s : Last × ℕ) (t : Token) → is_value (step s t).0 ≡ ends t
step_ends s begin_object = refl
step_ends s end_object = refl
step_ends s begin_array = refl
step_ends s end_array = refl
step_ends s (key k) = refl
step_ends s (string k) = refl
step_ends s (number k) = refl
step_ends s (boolean b) = refl
step_ends s null = refl
step_ends s bad = refl

pretty_spaced : (s : Last × ℕ) (ts : List Token) → pretty_from s ts ≡ print_spaced (is_value s.0) (spaced s ts)
unfolding pretty_from print_spaced
pretty_spaced s [] = refl
pretty_spaced s (t ∷ ts) =
    let before = separator (is_value s.0) t in
    let between = gap s.0 (begins t) (depth_at s.1 t) in
    let rest = print_spaced (ends t) (spaced (step s t) ts) in
    ap (λ l. piece s t ++ l) (pretty_spaced (step s t) ts ∙ ap (λ b. print_spaced b (spaced (step s t) ts)) (step_ends s t))
    ∙ append_assoc before (between ++ token_text t) rest ∙ ap (λ l. before ++ l) (append_assoc between (token_text t) rest)

pretty_tokens : (ts : List Token) → ArePrintable ts → tokens (pretty ts) ≡ ts
pretty_tokens ts h =
    let s : Last × ℕ = (nothing, 0) in
    let same = only_tokens s ts in
    ap tokens (pretty_spaced s ts) ∙ tokens-print_spaced (spaced s ts) (gaps s ts) (subst ArePrintable (sym same) h) ∙ same

pub text_tokens : (layout : Layout) (d : Data) → HasIntegers d → tokens (laid_out layout d) ≡ data_tokens d
text_tokens Compact d h =
    ap tokens (sym (print-outline d)) ∙ tokens-print (data_tokens d) (ArePrintable-json_tokens (outline d) (has_numbers d h))
text_tokens Pretty d h = pretty_tokens (data_tokens d) (ArePrintable-json_tokens (outline d) (has_numbers d h))
