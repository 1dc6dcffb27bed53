-- A text that begins with no brace, and items that were skipped.
use Rattle.std.proofs.Common.{◌≡◌, ◌<◌, ◌-◌, ℕ, Bool, true, false, not, is_some, List, [], ◌∷◌, length, Option, Result, Ok, Err, OnErr, Some, None, option_map, refl, ap, sym, ◌∙◌, arith}
use Rattle.std.proofs.lemmas.Bool.{false≢true}
use Rattle.json.specs.Token.{Token}
use Rattle.json.specs.Json as json
use Rattle.json.specs.Json.{parse_map, items, members, value}
use Rattle.json.specs.Reads.{token_of, Yields}
use Rattle.json.specs.declared.token.Token as lent
use Rattle.json.proofs.Grammar.{value_is, value-begin_array, value-begin_object}
use Rattle.serde_json.specs.Data.{Data, Num, null, boolean, number, object, array, Items, item, Members, no_members}
use Rattle.serde_json.specs.Read.{of_json, of_items, of_members, converted, number_of}
use Rattle.serde_json.specs.Find.{as_bool, as_str}
use Rattle.rb_requests.specs.inner.Texts.{BeginsWithNoBrace}
use Rattle.rb_requests.proofs.MembersRead.{whole, converted-array, converted-object}

-- one item more precedes the remaining ones
pub one_more_before : (before : Items → Items) (d : Data) (r : Option (Items × List Token))
    → parse_map before (parse_map (item d) r) ≡ parse_map (λ ds. before (item d ds)) r
one_more_before before d None = refl
one_more_before before d (Some p) = refl

pub none_before : (r : Option (Items × List Token)) → r ≡ parse_map (λ ds. ds) r
none_before None = refl
none_before (Some p) = refl

-- a statement that holds of every value holds if there is an error
pub at_an_error : {T E P : Type 0} (r : Result T E) → P → OnErr r P
at_an_error (Ok x) p = tt
at_an_error (Err e) p = p

-- ---- values of one token

pub boolean_read : (depth : ℕ) (ts r : List Token) (b : Bool) → ts ≡ Token.boolean b ∷ r → converted of_json (value depth ts) ≡ Some (boolean b, r)
boolean_read depth ts r b e = ap (converted of_json) (ap (value depth) e ∙ value_is depth _)

pub null_read : (depth : ℕ) (ts r : List Token) → ts ≡ Token.null ∷ r → converted of_json (value depth ts) ≡ Some (null, r)
null_read depth ts r e = ap (converted of_json) (ap (value depth) e ∙ value_is depth _)

number_kept : (s : List ℕ) (r : List Token) (o : Option Num) → number_of s ≡ o → true ≡ is_some o
    → (d : Data) × ((as_str d ≡ None) × (as_bool d ≡ None)) × (converted of_json (Some (json.number s, r)) ≡ Some (d, r))
number_kept s r None e h = absurd (false≢true (sym h))
number_kept s r (Some n) e h = (number n, (refl, refl), rw e refl)

number_lost : (s : List ℕ) (r : List Token) (o : Option Num) → number_of s ≡ o → false ≡ is_some o → converted of_json (Some (json.number s, r)) ≡ None
number_lost s r None e h = rw e refl
number_lost s r (Some n) e h = absurd (false≢true h)

pub number_in_range : (depth : ℕ) (ts r : List Token) (s : List ℕ) → ts ≡ Token.number s ∷ r → true ≡ is_some (number_of s)
    → (d : Data) × ((as_str d ≡ None) × (as_bool d ≡ None)) × (converted of_json (value depth ts) ≡ Some (d, r))
number_in_range depth ts r s e h =
    let k = number_kept s r (number_of s) refl h in
    (k.0, k.1, ap (converted of_json) (ap (value depth) e ∙ value_is depth _) ∙ k.2)

pub number_out_of_range : (depth : ℕ) (ts r : List Token) (s : List ℕ) → ts ≡ Token.number s ∷ r → false ≡ is_some (number_of s)
    → converted of_json (value depth ts) ≡ None
number_out_of_range depth ts r s e h = ap (converted of_json) (ap (value depth) e ∙ value_is depth _) ∙ number_lost s r (number_of s) refl h

-- ---- arrays and objects

pub array_after : (depth : ℕ) (token : lent.Token) (r : List Token) → token_of token ≡ Token.begin_array → 0 < depth
    → converted of_json (value depth (token_of token ∷ r)) ≡ parse_map array (converted of_items (items (value (depth - 1)) (length r) r))
array_after depth token r is some =
    ap (converted of_json) (ap (λ t. value depth (t ∷ r)) is ∙ value-begin_array depth r some) ∙ converted-array (items (value (depth - 1)) (length r) r)

pub object_after : (depth : ℕ) (token : lent.Token) (r : List Token) → token_of token ≡ Token.begin_object → 0 < depth
    → converted of_json (value depth (token_of token ∷ r))
    ≡ parse_map object (converted (λ ms. of_members ms no_members) (members (value (depth - 1)) (length r) r))
object_after depth token r is some =
    ap (converted of_json) (ap (λ t. value depth (t ∷ r)) is ∙ value-begin_object depth r some) ∙ converted-object (members (value (depth - 1)) (length r) r)

-- ---- a text that begins with no brace

array_made : (ds : Option Items) (found : Members) → option_map array ds ≡ Some (object found) → ⊥
array_made None found e = cc
array_made (Some ds) found e = cc

number_made : (n : Option Num) (found : Members) → option_map number n ≡ Some (object found) → ⊥
number_made None found e = cc
number_made (Some n) found e = cc

array_read : (r : Option (json.Items × List Token)) (found : Members) → whole (parse_map json.array r) ≡ Some (object found) → ⊥
array_read None found e = cc
array_read (Some (js, [])) found e = array_made (of_items js) found e
array_read (Some (js, t ∷ r)) found e = cc

nothing_read : (found : Members) (o : Option (json.Json × List Token)) → o ≡ None → whole o ≡ Some (object found) → ⊥
nothing_read found o n e = let no : whole o ≡ None = ap whole n in cc

string_read : (s : List ℕ) (ts : List Token) (found : Members) → whole (Some (json.string s, ts)) ≡ Some (object found) → ⊥
string_read s [] found e = cc
string_read s (t ∷ ts) found e = cc

number_read : (s : List ℕ) (ts : List Token) (found : Members) → whole (Some (json.number s, ts)) ≡ Some (object found) → ⊥
number_read s [] found e = number_made (number_of s) found e
number_read s (t ∷ ts) found e = cc

word_read : (j : json.Json) (d : Data) (ts : List Token) (found : Members) → of_json j ≡ Some d → (d ≡ object found → ⊥)
    → whole (Some (j, ts)) ≡ Some (object found) → ⊥
word_read j d [] found s n e = n (cc)
word_read j d (t ∷ ts) found s n e = cc

pub no_object : (ts : List Token) (found : Members) → BeginsWithNoBrace ts → whole (value 127 ts) ≡ Some (object found) → ⊥
no_object [] found h e = nothing_read found (value 127 []) (value_is 127 []) e
no_object (Token.begin_object ∷ ts) found h e = h ts refl
no_object (Token.end_object ∷ ts) found h e = nothing_read found _ (value_is 127 (Token.end_object ∷ ts)) e
no_object (Token.begin_array ∷ ts) found h e = array_read (items (value 126) (length ts) ts) found (sym (ap whole (value-begin_array 127 ts (omega arith))) ∙ e)
no_object (Token.end_array ∷ ts) found h e = nothing_read found _ (value_is 127 (Token.end_array ∷ ts)) e
no_object (Token.key s ∷ ts) found h e = nothing_read found _ (value_is 127 (Token.key s ∷ ts)) e
no_object (Token.string s ∷ ts) found h e = string_read s ts found (sym (ap whole (value_is 127 (Token.string s ∷ ts))) ∙ e)
no_object (Token.number s ∷ ts) found h e = number_read s ts found (sym (ap whole (value_is 127 (Token.number s ∷ ts))) ∙ e)
no_object (Token.boolean b ∷ ts) found h e = word_read (json.boolean b) _ ts found refl (λ k. cc) (sym (ap whole (value_is 127 (Token.boolean b ∷ ts))) ∙ e)
no_object (Token.null ∷ ts) found h e = word_read json.null _ ts found refl (λ k. cc) (sym (ap whole (value_is 127 (Token.null ∷ ts))) ∙ e)
no_object (Token.bad ∷ ts) found h e = nothing_read found _ (value_is 127 (Token.bad ∷ ts)) e

-- ---- a text that begins with a brace

pub object_opened : (ts rest : List Token) → ts ≡ Token.begin_object ∷ rest
    → converted of_json (value 127 ts)
    ≡ parse_map object (converted (λ ms. of_members ms no_members) (members (value 126) (length rest) rest))
object_opened ts rest first =
    ap (converted of_json) (ap (value 127) first ∙ value-begin_object 127 rest (omega arith)) ∙ converted-object (members (value 126) (length rest) rest)

pub no_value : (ts : List Token) (d : Data) → whole (value 127 ts) ≡ None → whole (value 127 ts) ≡ Some d → ⊥
no_value ts d none e = cc

pub ended : (next : Option lent.Token) (ts more : List Token) (last : Bool) → is_some next ≡ not last → Yields ts next more
    → ((t : Token) → ts ≡ t ∷ more → ⊥) → last ≡ true
ended None ts more true some y h = refl
ended None ts more false some y h = absurd (false≢true some)
ended (Some t) ts more last some y h = absurd (h (token_of t) y)
