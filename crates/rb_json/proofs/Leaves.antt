-- The values of items without children.
use Rattle.std.proofs.Common.{◌≡◌, ◌≤◌, ℕ, List, [], Bool, true, false, codes, cond, length, encode_utf8_all, take, ◌+◌, ◌∙◌, sym, refl, ap, arith}
use Rattle.std.specs.Prelude.{not}
use Rattle.std.specs.Char.Utf16.{has_unpaired_surrogate, utf16_lossy_chars}
use Rattle.hex.specs.Hex.{encode_lower}
use Rattle.serde_json.specs.Data.{Data, no_members, string}
use Rattle.serde_json.specs.Written.{compact_text}
use Rattle.rb_tree.specs.Resource.{Resource, int, ints, binary, alias}
use Rattle.rb_tree.specs.Resource as tree
use Rattle.rb_tree.specs.Parts.{bytes_of, kind_of, len_of, numbers_of, units_of}
use Rattle.rb_tree.specs.declared.kind.Kind.TheVariants as Kinds
use Rattle.rb_json.specs.Leaf.{numbers_data, units_data}
use Rattle.rb_json.specs.Value.{leaf_value, string_value, tagged, text_or_units, value_of}
use Rattle.std.proofs.lemmas.Str.{encodes-IsAscii}
use Rattle.rb_json.specs.inner.Run.{IsRun}
use Rattle.rb_json.proofs.Lengths.{le-characters, le-units, member-le}
use Rattle.rb_json.proofs.Runs.{run_read}
use Rattle.rb_json.proofs.Surrogates.{ReadSoFar, all_read}

pub binary_value : (t : Resource) → kind_of t ≡ Kinds.Binary → leaf_value t ≡ tagged (codes ":bin") (string (encode_lower (bytes_of t)))
binary_value (binary bs) h = refl
binary_value _ h = absurd cc

pub ints_value : (t : Resource) → kind_of t ≡ Kinds.Ints → leaf_value t ≡ tagged (codes ":intvector") (numbers_data (numbers_of t))
ints_value (ints zs) h = refl
ints_value _ h = absurd cc

abbrev text_of : List ℕ → Data
text_of us = string (encode_utf8_all (utf16_lossy_chars us))

abbrev by_flag : Bool → List ℕ → Data
by_flag b us = cond b (tagged (codes ":units") (units_data us)) (cond b (units_data us) (text_of us))

well_formed : (b : Bool) (us : List ℕ) → not b ≡ true → by_flag b us ≡ text_of us
well_formed true us h = absurd cc
well_formed false us h = refl

ill_formed : (b : Bool) (us : List ℕ) → not b ≡ false → by_flag b us ≡ tagged (codes ":units") (units_data us)
ill_formed true us h = refl
ill_formed false us h = absurd cc

flag-le : (b : Bool) (us : List ℕ) → length us ≤ length (compact_text (by_flag b us))
flag-le true us = omega (arith, le-units us, member-le false (codes ":units") (units_data us) no_members)
flag-le false us = le-characters us

pub well_formed_value : (t : Resource) → kind_of t ≡ Kinds.String → not (has_unpaired_surrogate (units_of t)) ≡ true → value_of t ≡ text_of (units_of t)
well_formed_value (tree.string us) h w = well_formed (has_unpaired_surrogate us) us w
well_formed_value _ h w = absurd cc

pub ill_formed_value : (t : Resource) → kind_of t ≡ Kinds.String → not (has_unpaired_surrogate (units_of t)) ≡ false
    → value_of t ≡ tagged (codes ":units") (units_data (units_of t))
ill_formed_value (tree.string us) h w = ill_formed (has_unpaired_surrogate us) us w
ill_formed_value _ h w = absurd cc

ascii_text : (us block : List ℕ) (n : ℕ) → IsRun block us 0 n → length us ≤ n → string_value us ≡ string (encode_utf8_all (take n block))
ascii_text us block n run all =
    let bytes = take n block in
    let whole : ReadSoFar [] us 0 = (refl, refl) in
    let read : ReadSoFar bytes us (0 + n) = run_read [] bytes us block 0 n whole run refl in
    let ended = all_read bytes us (0 + n) read (omega arith) in
    well_formed (has_unpaired_surrogate us) us (sym ended.0) ∙ ap string (sym ended.1 ∙ sym (encodes-IsAscii bytes run.ascii))

-- the bytes of ASCII units are the text
pub ascii_value : (t : Resource) (block : List ℕ) (n : ℕ) → kind_of t ≡ Kinds.String → IsRun block (units_of t) 0 n → len_of t ≤ n
    → value_of t ≡ string (encode_utf8_all (take n block))
ascii_value (tree.string us) block n h run all = ascii_text us block n run all
ascii_value _ block n h run all = absurd cc

pub alias_value : (t : Resource) → kind_of t ≡ Kinds.Alias → leaf_value t ≡ tagged (codes ":alias") (text_or_units (units_of t))
alias_value (alias us) h = refl
alias_value _ h = absurd cc

pub string_long : (t : Resource) → kind_of t ≡ Kinds.String → length (units_of t) ≤ length (compact_text (value_of t))
string_long (tree.string us) h = flag-le (has_unpaired_surrogate us) us
string_long _ h = absurd cc
