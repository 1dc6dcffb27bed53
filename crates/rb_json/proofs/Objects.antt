-- The texts of objects, member by member.
use Rattle.std.proofs.Common.{◌≡◌, ℕ, List, [], ◌∷◌, ◌++◌, Bool, true, false, cond, Option, Some, None, codes, encode_utf8_all, refl, ap, sym, subst, ◌∙◌, append_assoc}
use Rattle.std.specs.Char.Utf16.{has_unpaired_surrogate, utf16_lossy_chars}
use Rattle.json.specs.Print.{escape, escape_byte, quoted}
use Rattle.serde_json.specs.Data.{Data, Members, member, no_members, object, put, string}
use Rattle.serde_json.specs.Written.{comma_if, compact_text, members_text}
use Rattle.rb_tree.specs.Resource.{Resource, int, ints, binary, alias, array, table}
use Rattle.rb_tree.specs.Resource as tree
use Rattle.rb_tree.specs.Parts.{kind_of}
use Rattle.rb_tree.specs.declared.kind.Kind.TheVariants as Kinds
use Rattle.rb_json.specs.Item.{found_data, item_data, item_members, of_type, text_data, units_data, with_text}
use Rattle.rb_json.specs.Parts.{name_text, rest_text, valid_text, with_valid}

-- ---- the order of members

-- `valid` before others, if it is given
abbrev pub before : Option (List ℕ) → Members → Members
before None ms = ms
before (Some valid) ms = member (codes "valid") (text_data valid) ms

pub type_members : (valid : Option (List ℕ)) (word : List ℕ) → with_valid valid (of_type word) ≡ member (codes "type") (string word) (before valid no_members)
type_members None word = refl
type_members (Some valid) word = refl

pub units_members : (valid : Option (List ℕ)) (d : Data) (word : List ℕ) → with_valid valid (put (codes "units") d (of_type word))
    ≡ member (codes "type") (string word) (member (codes "units") d (before valid no_members))
units_members None d word = refl
units_members (Some valid) d word = refl

pub value_members : (valid : Option (List ℕ)) (d : Data) (word : List ℕ) → with_valid valid (put (codes "value") d (of_type word))
    ≡ member (codes "type") (string word) (before valid (member (codes "value") d no_members))
value_members None d word = refl
value_members (Some valid) d word = refl

pub int_members : (valid : Option (List ℕ)) (s u : Data) (word : List ℕ) → with_valid valid (put (codes "signed") s (put (codes "unsigned") u (of_type word)))
    ≡ member (codes "signed") s (member (codes "type") (string word) (member (codes "unsigned") u (before valid no_members)))
int_members None s u word = refl
int_members (Some valid) s u word = refl

-- `actual` comes before all other members of an item
abbrev with_actual : List ℕ → List ℕ → Members → Members
with_actual a v ms = member (codes "actual") (text_data a) (put (codes "valid") (text_data v) ms)

text_after : (b : Bool) (a v : List ℕ) (u s : Data) (word : List ℕ)
    → put (codes "actual") (text_data a) (put (codes "valid") (text_data v) (cond b (put (codes "units") u (of_type word)) (put (codes "value") s (of_type word))))
    ≡ with_actual a v (cond b (put (codes "units") u (of_type word)) (put (codes "value") s (of_type word)))
text_after true a v u s word = refl
text_after false a v u s word = refl

units_after : (a v us word : List ℕ)
    → put (codes "actual") (text_data a) (put (codes "valid") (text_data v) (with_text us (of_type word))) ≡ with_actual a v (with_text us (of_type word))
units_after a v us word = text_after (has_unpaired_surrogate us) a v (units_data us) (string (encode_utf8_all (utf16_lossy_chars us))) word

pub actual_first : (a v : List ℕ) (t : Resource) → put (codes "actual") (text_data a) (put (codes "valid") (text_data v) (item_members t)) ≡ with_actual a v (item_members t)
actual_first a v (tree.string us) = units_after a v us (codes "string")
actual_first a v (alias us) = units_after a v us (codes "alias")
actual_first a v _ = refl

-- `rest` comes before the members of an alias
text_rest : (b : Bool) (rest u s : Data) (word : List ℕ)
    → put (codes "rest") rest (cond b (put (codes "units") u (of_type word)) (put (codes "value") s (of_type word)))
    ≡ member (codes "rest") rest (cond b (put (codes "units") u (of_type word)) (put (codes "value") s (of_type word)))
text_rest true rest u s word = refl
text_rest false rest u s word = refl

rest_first : (rest us word : List ℕ)
    → put (codes "rest") (text_data rest) (with_text us (of_type word)) ≡ member (codes "rest") (text_data rest) (with_text us (of_type word))
rest_first rest us word = text_rest (has_unpaired_surrogate us) (text_data rest) (units_data us) (string (encode_utf8_all (utf16_lossy_chars us))) word

pub alias_item : (t : Resource) (rest : List ℕ) → kind_of t ≡ Kinds.Alias → item_data t rest ≡ object (member (codes "rest") (text_data rest) (item_members t))
alias_item (alias us) rest h = ap (λ (ms : Members). object ms) (rest_first rest us (codes "alias"))
alias_item _ rest h = absurd cc

pub other_item : (t : Resource) (rest : List ℕ) → (kind_of t ≡ Kinds.Alias → ⊥) → item_data t rest ≡ object (item_members t)
other_item (alias us) rest h = absurd (h refl)
other_item _ rest h = refl

-- ---- a String that was found

string_found : (actual valid us : List ℕ) → has_unpaired_surrogate us ≡ false → found_data actual valid (tree.string us)
    ≡ object (member (codes "actual") (text_data actual) (member (codes "type") (string (codes "string")) (member (codes "valid") (text_data valid)
    (member (codes "value") (string (encode_utf8_all (utf16_lossy_chars us))) no_members))))
string_found actual valid us h = rw h

string_text : (actual valid us : List ℕ) → has_unpaired_surrogate us ≡ false → compact_text (found_data actual valid (tree.string us))
    ≡ codes "{\"actual\":\"" ++ (escape (encode_utf8_all actual) ++ (codes "\",\"type\":\"string\",\"valid\":\""
    ++ (escape (encode_utf8_all valid) ++ (codes "\",\"value\":\"" ++ (escape (encode_utf8_all (utf16_lossy_chars us)) ++ codes "\"}")))))
unfolding escape_byte
string_text actual valid us h =
    let a = escape (encode_utf8_all actual) in
    let v = escape (encode_utf8_all valid) in
    let u = escape (encode_utf8_all (utf16_lossy_chars us)) in
    let end = append_assoc u (34 ∷ []) (125 ∷ []) in
    let value = codes ",\"value\":\"" ++ ((u ++ 34 ∷ []) ++ 125 ∷ []) in
    let second = append_assoc v (34 ∷ []) value ∙ ap (λ (t : List ℕ). v ++ 34 ∷ (codes ",\"value\":\"" ++ t)) end in
    let types = codes ",\"type\":\"string\",\"valid\":\"" in
    let first = append_assoc a (34 ∷ []) (types ++ ((v ++ 34 ∷ []) ++ value)) ∙ ap (λ (t : List ℕ). a ++ 34 ∷ (types ++ t)) second in
    ap compact_text (string_found actual valid us h) ∙ ap (λ (t : List ℕ). codes "{\"actual\":\"" ++ t) first

-- ---- what is taken of them

module _ {S : Type 0} (Takes : S → S → List ℕ → Type 0) (joined : (x y z : S) (a b : List ℕ) → Takes x y a → Takes y z b → Takes x z (a ++ b)) where
  -- a member's name, its value, and the members after it
  pub member_taken : (w x y z : S) (later : Bool) (k : List ℕ) (d : Data) (ms : Members) → Takes w x (name_text later k) → Takes x y (compact_text d)
      → Takes y z (members_text true ms) → Takes w z (members_text later (member k d ms))
  member_taken w x y z later k d ms name value rest =
      let tail = compact_text d ++ members_text true ms in
      subst (Takes w z) (append_assoc (comma_if later) (quoted k ++ 58 ∷ []) tail ∙ ap (λ (t : List ℕ). comma_if later ++ t) (append_assoc (quoted k) (58 ∷ []) tail))
      (joined w x z (name_text later k) tail name (joined x y z (compact_text d) (members_text true ms) value rest))

  -- members of which the first is known
  pub first_taken : (w x y z : S) (later : Bool) (k : List ℕ) (d : Data) (rest ms : Members) → ms ≡ member k d rest → Takes w x (name_text later k)
      → Takes x y (compact_text d) → Takes y z (members_text true rest) → Takes w z (members_text later ms)
  first_taken w x y z later k d rest ms is name value others =
      subst (λ (m : Members). Takes w z (members_text later m)) (sym is) (member_taken w x y z later k d rest name value others)

  -- `valid`, if it is given, and the members after it
  pub valid_taken : (x y z : S) (valid : Option (List ℕ)) (ms : Members) → Takes x y (valid_text valid) → Takes y z (members_text true ms)
      → Takes x z (members_text true (before valid ms))
  valid_taken x y z None ms h k = joined x y z [] (members_text true ms) h k
  valid_taken x y z (Some valid) ms h k =
      let name = name_text true (codes "valid") in
      let value = compact_text (text_data valid) in
      let rest = members_text true ms in
      let all : valid_text (Some valid) ++ rest ≡ members_text true (member (codes "valid") (text_data valid) ms) =
      append_assoc name value rest ∙ ap (λ (t : List ℕ). 44 ∷ t) (append_assoc (quoted (codes "valid")) (58 ∷ []) (value ++ rest)) in
      subst (Takes x z) all (joined x y z (valid_text (Some valid)) rest h k)

  pub found_taken : (w x y s : S) (actual valid : List ℕ) (t : Resource) → Takes w x (codes "{\"actual\":")
      → Takes x y (compact_text (text_data actual)) → Takes y s (rest_text true (Some valid) (item_members t)) → Takes w s (compact_text (found_data actual valid t))
  unfolding escape_byte
  found_taken w x y s actual valid t opening value rest =
      let ms = put (codes "valid") (text_data valid) (item_members t) in
      let tail = compact_text (text_data actual) ++ members_text true ms in
      subst (λ (m : Members). Takes w s (123 ∷ members_text false m)) (sym (actual_first actual valid t))
      (joined w x s (codes "{\"actual\":") tail opening (joined x y s (compact_text (text_data actual)) (members_text true ms) value rest))

  -- a String that was found, its texts and what is between them
  pub string_taken : (s0 s1 s2 s3 s4 s5 s6 s7 : S) (actual valid us : List ℕ) → has_unpaired_surrogate us ≡ false
      → Takes s0 s1 (codes "{\"actual\":\"") → Takes s1 s2 (escape (encode_utf8_all actual))
      → Takes s2 s3 (codes "\",\"type\":\"string\",\"valid\":\"") → Takes s3 s4 (escape (encode_utf8_all valid))
      → Takes s4 s5 (codes "\",\"value\":\"") → Takes s5 s6 (escape (encode_utf8_all (utf16_lossy_chars us))) → Takes s6 s7 (codes "\"}")
      → Takes s0 s7 (compact_text (found_data actual valid (tree.string us)))
  string_taken s0 s1 s2 s3 s4 s5 s6 s7 actual valid us whole h0 h1 h2 h3 h4 h5 h6 =
      let a = escape (encode_utf8_all actual) in
      let v = escape (encode_utf8_all valid) in
      let u = escape (encode_utf8_all (utf16_lossy_chars us)) in
      let after_valid = codes "\",\"value\":\"" ++ (u ++ codes "\"}") in
      let after_actual = codes "\",\"type\":\"string\",\"valid\":\"" ++ (v ++ after_valid) in
      let text = joined s4 s5 s7 _ (u ++ codes "\"}") h4 (joined s5 s6 s7 u _ h5 h6) in
      let names = joined s2 s3 s7 _ (v ++ after_valid) h2 (joined s3 s4 s7 v after_valid h3 text) in
      subst (Takes s0 s7) (sym (string_text actual valid us whole)) (joined s0 s1 s7 _ (a ++ after_actual) h0 (joined s1 s2 s7 a after_actual h1 names))

  pub alias_taken : (w x y z s : S) (t : Resource) (path : List ℕ) → kind_of t ≡ Kinds.Alias → Takes w x (123 ∷ []) → Takes x y (name_text false (codes "rest"))
      → Takes y z (compact_text (text_data path)) → Takes z s (rest_text true None (item_members t)) → Takes w s (compact_text (item_data t path))
  alias_taken w x y z s t path h brace name value rest =
      let all = member (codes "rest") (text_data path) (item_members t) in
      let told = joined w x s (123 ∷ []) (members_text false all) brace (member_taken x y z s false (codes "rest") (text_data path) (item_members t) name value rest) in
      subst (λ (d : Data). Takes w s (compact_text d)) (sym (alias_item t path h)) told

  pub item_taken : (w x s : S) (t : Resource) (path : List ℕ) → (kind_of t ≡ Kinds.Alias → ⊥) → Takes w x (123 ∷ [])
      → Takes x s (rest_text false None (item_members t)) → Takes w s (compact_text (item_data t path))
  item_taken w x s t path h brace rest =
      subst (λ (d : Data). Takes w s (compact_text d)) (sym (other_item t path h)) (joined w x s (123 ∷ []) (members_text false (item_members t)) brace rest)
