-- The tokens of trees without children.
use Rattle.std.proofs.Common.{◌≡◌, ◌∷◌, [], ◌++◌, ℕ, ℤ, List, true, false, cond, refl, sym, ap, ◌∙◌, map, codes, encode_utf8_all, append_assoc, append-nil}
use Rattle.std.specs.Char.Utf16.{has_unpaired_surrogate, utf16_lossy_chars}
use Rattle.json.specs.Token.{Token, begin_array, end_array, begin_object, end_object, key}
use Rattle.json.specs.Token as token
use Rattle.serde_json.specs.Data.{Data, Num, number, string, array}
use Rattle.serde_json.specs.View.{items_of}
use Rattle.serde_json.specs.Find.{of_integer}
use Rattle.serde_json.specs.Written.{number_text}
use Rattle.hex.specs.Hex.{encode_lower}
use Rattle.rb_tree.specs.Resource.{Resource, int, ints, binary, alias}
use Rattle.rb_tree.specs.Resource as tree
use Rattle.rb_json.specs.Leaf.{signed_of, units_data, numbers_data}
use Rattle.rb_json.specs.Tokens.{data_tokens}
use Rattle.rb_json.specs.Value.{value_of, tagged, text_or_units}
use Rattle.rb_json.proofs.Growth.{each, array_tokens}
use Rattle.rb_json_reader.specs.Arranged.{Arranges}
use Rattle.rb_json_reader.specs.inner.Reading.{ReadsTag, ReadsLeaf}

pub each_push : {A : Type 0} (f : A → List Token) (xs : List A) (x : A) → each f (xs ++ x ∷ []) ≡ each f xs ++ f x
each_push f [] x = append-nil (f x)
each_push f (y ∷ xs) x = ap (λ ts. f y ++ ts) (each_push f xs x) ∙ sym (append_assoc (f y) (each f xs) (f x))

-- ---- lists of numbers
abbrev pub number_by : {A : Type 0} → (A → Num) → A → Data
number_by f x = number (f x)

-- the first of the tokens are those of these items, and the others follow
abbrev pub Items : {A : Type 0} → (A → Data) → List Token → List A → List Token → Type 0
Items f old xs now = old ≡ each (λ x. data_tokens (f x)) xs ++ now

pub items_more : {A : Type 0} (f : A → Data) (old : List Token) (xs : List A) (now : List Token) (x : A) (next : List Token) (more : List A) → Items f old xs now
    → now ≡ data_tokens (f x) ++ next → more ≡ xs ++ x ∷ [] → Items f old more next
items_more {A = A} f old xs now x next more so_far step is =
    let g : A → List Token = λ y. data_tokens (f y) in
    so_far ∙ ap (λ ts. each g xs ++ ts) step ∙ sym (append_assoc (each g xs) (g x) next)
    ∙ ap (λ ts. ts ++ next) (sym (each_push g xs x)) ∙ ap (λ ys. each g ys ++ next) (sym is)

pub items_all : {A : Type 0} (f : A → Data) (old : List Token) (xs : List A) (now next : List Token) → Items f old xs now → now ≡ end_array ∷ next
    → begin_array ∷ old ≡ data_tokens (array (items_of (map f xs))) ++ next
items_all {A = A} f old xs now next so_far close =
    let g : A → List Token = λ y. data_tokens (f y) in
    ap (λ ts. begin_array ∷ ts) (so_far ∙ ap (λ ts. each g xs ++ ts) close ∙ sym (append_assoc (each g xs) (end_array ∷ []) next))
    ∙ ap (λ ts. ts ++ next) (sym (array_tokens f xs))

-- ---- tags
pub tag_read : (name : List ℕ) (d : Data) (t : Resource) (old new : List Token) → value_of t ≡ tagged name d → old ≡ data_tokens d ++ new → Arranges t t
    → ReadsTag name old t new
tag_read name d t old new is reads same = (
  same,
  λ rest close.
      ap (λ ts. begin_object ∷ key name ∷ ts)
      (reads ∙ ap (λ ts. data_tokens d ++ ts) close ∙ sym (append_assoc (data_tokens d) (end_object ∷ []) rest))
      ∙ ap (λ x. data_tokens x ++ rest) (sym is),
)

pub ints_read : (zs : List ℤ) (old mid new : List Token) → old ≡ begin_array ∷ mid → begin_array ∷ mid ≡ data_tokens (numbers_data zs) ++ new
    → ReadsTag (codes ":intvector") old (ints zs) new
ints_read zs old mid new first list = tag_read (codes ":intvector") (numbers_data zs) (ints zs) old new refl (first ∙ list) refl

pub units_read : (us : List ℕ) (old mid new : List Token) → old ≡ begin_array ∷ mid → begin_array ∷ mid ≡ data_tokens (units_data us) ++ new
    → has_unpaired_surrogate us ≡ true → ReadsTag (codes ":units") old (tree.string us) new
units_read us old mid new first list lone =
    let is : value_of (tree.string us) ≡ tagged (codes ":units") (units_data us) =
    ap (λ b. cond b (tagged (codes ":units") (units_data us)) (text_or_units us)) lone in
    tag_read (codes ":units") (units_data us) (tree.string us) old new is (first ∙ list) refl

pub lone_alias_read : (us : List ℕ) (old mid new : List Token) → old ≡ begin_array ∷ mid → begin_array ∷ mid ≡ data_tokens (units_data us) ++ new
    → has_unpaired_surrogate us ≡ true → ReadsTag (codes ":alias") old (alias us) new
lone_alias_read us old mid new first list lone =
    let is : value_of (alias us) ≡ tagged (codes ":alias") (units_data us) =
    ap (λ b. tagged (codes ":alias") (cond b (units_data us) (string (encode_utf8_all (utf16_lossy_chars us))))) lone in
    tag_read (codes ":alias") (units_data us) (alias us) old new is (first ∙ list) refl

pub alias_read : (us text : List ℕ) (old new : List Token) → old ≡ token.string text ∷ new → has_unpaired_surrogate us ≡ false
    → encode_utf8_all (utf16_lossy_chars us) ≡ text → ReadsTag (codes ":alias") old (alias us) new
alias_read us text old new first whole is_text =
    let is : value_of (alias us) ≡ tagged (codes ":alias") (string text) =
    ap (λ b. tagged (codes ":alias") (cond b (units_data us) (string (encode_utf8_all (utf16_lossy_chars us))))) whole
    ∙ ap (λ s. tagged (codes ":alias") (string s)) is_text in
    tag_read (codes ":alias") (string text) (alias us) old new is first refl

pub binary_read : (bs text : List ℕ) (old new : List Token) → old ≡ token.string text ∷ new → text ≡ encode_lower bs
    → ReadsTag (codes ":bin") old (binary bs) new
binary_read bs text old new first is_text =
    let is : value_of (binary bs) ≡ tagged (codes ":bin") (string text) = ap (λ s. tagged (codes ":bin") (string s)) (sym is_text) in
    tag_read (codes ":bin") (string text) (binary bs) old new is first refl

pub closed : (name : List ℕ) (old mid new : List Token) (t : Resource) → ReadsTag name old t mid → mid ≡ end_object ∷ new
    → ReadsLeaf (begin_object ∷ key name ∷ old) t new
closed name old mid new t reads close = (reads.1 new close, reads.0)

-- ---- Strings and Ints
pub string_read : (us text : List ℕ) → has_unpaired_surrogate us ≡ false → encode_utf8_all (utf16_lossy_chars us) ≡ text
    → token.string text ∷ [] ≡ data_tokens (value_of (tree.string us))
string_read us text whole is_text =
    sym (ap (λ b. data_tokens (cond b (tagged (codes ":units") (units_data us)) (cond b (units_data us) (string (encode_utf8_all (utf16_lossy_chars us)))))) whole
    ∙ ap (λ s. token.string s ∷ []) is_text)

pub int_read : (n : ℕ) (text : List ℕ) → text ≡ number_text (of_integer (signed_of n)) → token.number text ∷ [] ≡ data_tokens (value_of (int n))
int_read n text is = ap (λ s. token.number s ∷ []) is
