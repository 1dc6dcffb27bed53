-- The members of a text are at least as long as the text has units.
use Rattle.std.proofs.Common.{◌≡◌, ◌≤◌, ℕ, List, Bool, true, false, cond, Option, Some, None, length, codes, encode_utf8_all, arith}
use Rattle.std.specs.Char.Utf16.{has_unpaired_surrogate, utf16_lossy_chars}
use Rattle.serde_json.specs.Data.{Data, member, no_members, put, string}
use Rattle.serde_json.specs.Written.{compact_text, members_text}
use Rattle.rb_tree.specs.Resource.{Resource}
use Rattle.rb_tree.specs.Resource as tree
use Rattle.rb_tree.specs.Parts.{kind_of, len_of}
use Rattle.rb_tree.specs.declared.kind.Kind.TheVariants as Kinds
use Rattle.rb_json.specs.Item.{found_data, of_type, text_data, units_data, with_text}
use Rattle.rb_json.specs.Parts.{rest_text}
use Rattle.rb_json.proofs.Lengths.{le-characters, le-units, member-le}
use Rattle.rb_json.proofs.Objects.{actual_first, before, units_members, value_members}

module _ (n : ℕ) (later : Bool) (valid : Option (List ℕ)) (word : List ℕ) (d : Data) (h : n ≤ length (compact_text d)) where
  after_valid : (o : Option (List ℕ)) (k : List ℕ) → n ≤ length (members_text true (before o (member k d no_members)))
  after_valid None k = omega (arith, h, member-le true k d no_members)
  after_valid (Some v) k = omega (arith, h, member-le true (codes "valid") (text_data v) (member k d no_members), member-le true k d no_members)

  in_units : n ≤ length (rest_text later valid (put (codes "units") d (of_type word)))
  in_units =
      let rest = before valid no_members in
      rw (units_members valid d word)
      (omega (arith, h, member-le later (codes "type") (string word) (member (codes "units") d rest), member-le true (codes "units") d rest))

  in_value : n ≤ length (rest_text later valid (put (codes "value") d (of_type word)))
  in_value =
      let rest = before valid (member (codes "value") d no_members) in
      rw (value_members valid d word) (omega (arith, after_valid valid (codes "value"), member-le later (codes "type") (string word) rest))

in_text : (b : Bool) (n : ℕ) (later : Bool) (valid : Option (List ℕ)) (word : List ℕ) (u s : Data) → n ≤ length (compact_text u) → n ≤ length (compact_text s)
    → n ≤ length (rest_text later valid (cond b (put (codes "units") u (of_type word)) (put (codes "value") s (of_type word))))
in_text true n later valid word u s h k = in_units n later valid word u h
in_text false n later valid word u s h k = in_value n later valid word s k

pub text-le : (later : Bool) (valid : Option (List ℕ)) (us word : List ℕ) → length us ≤ length (rest_text later valid (with_text us (of_type word)))
text-le later valid us word =
    in_text (has_unpaired_surrogate us) (length us) later valid word (units_data us) (string (encode_utf8_all (utf16_lossy_chars us))) (le-units us) (le-characters us)

pub found-le : (actual valid : List ℕ) (t : Resource) → kind_of t ≡ Kinds.String → len_of t ≤ length (compact_text (found_data actual valid t))
found-le actual valid (tree.string us) h =
    let ms = put (codes "valid") (text_data valid) (with_text us (of_type (codes "string"))) in
    rw (actual_first actual valid (tree.string us))
    (omega (arith, text-le true (Some valid) us (codes "string"), member-le false (codes "actual") (text_data actual) ms))
found-le actual valid _ h = absurd cc
