-- The changes of a release that were read are those that its value has.
use Rattle.std.proofs.Common.{◌≡◌, ◌≤◌, ◌<◌, ℕ, zero, suc, Bool, true, false, List, [], ◌∷◌, ◌++◌, length, take, Option, Some, None, is_some, option_map, option_and_then, refl, sym, ap, ap₂, ◌∙◌, arith, append_assoc, codes}
use Rattle.std.specs.Prelude.{◌-◌, ◌%◌, ◌&&◌, ◌||◌, nat_le, if◌then◌else◌, Result, Ok, Err}
use Rattle.std.specs.List.{list_all}
use Rattle.std.specs.Char.{is_ascii_hexdigit}
use Rattle.std.proofs.lemmas.Bool.{false_from_ne_true}
use Rattle.std.proofs.lemmas.List.Sums.{AllPass-from_list_all, list_all-from_AllPass}
use Rattle.hex.specs.Hex.{decode_of, is_hex_digit}
use Rattle.hex.specs.declared.error.FromHexError.{FromHexError}
use Rattle.hex.proofs.HexLemmas.{decode_of-ok, decode_of-digits}
use Rattle.json.specs.Token.{Token}
use Rattle.json.specs.Json as json
use Rattle.json.specs.Json.{parse_map, value}
use Rattle.json.specs.Reads.{token_of}
use Rattle.json.specs.declared.token.Token as lent
use Rattle.json.specs.declared.token.Token.TheVariants as lents
use Rattle.json.proofs.Grammar.{value_is}
use Rattle.serde_json.specs.Data.{Data, Num, null, boolean, number, string, array, object, Items, item, Members}
use Rattle.serde_json.specs.Find.{get_member, as_array, as_bool}
use Rattle.serde_json.specs.Read.{of_json, converted, number_of}
use Rattle.rb_requests.specs.Asked.{decoded}
use Rattle.rb_requests.specs.ExtendedAsked.{ReleaseChange, PutsAt, flag_in, change_at, release_change_in, all_changes}
use Rattle.rb_requests.specs.declared.member.Member.{Member}
use Rattle.rb_requests.specs.declared.member.Member.TheVariants as members
use Rattle.rb_requests.specs.declared.change_list.LineChange.{LineChange}
use Rattle.rb_requests.specs.declared.change_list.ChangeTexts.{ChangeTexts}
use Rattle.rb_requests.specs.inner.Line.{lent as text_by}
use Rattle.rb_requests.specs.inner.Texts.{IsAt}
use Rattle.rb_requests.specs.inner.ChangesRead.{IsChange, flag_by, change_by, texts_seen, HoldsChange, change_seen, changes_seen, AreSeen}
use Rattle.rb_requests.proofs.Lent.{held_text, held_payload}
use Rattle.rb_requests.proofs.MembersRead.{converted-array, converted-object}

-- ---- a value of one kind

abbrev pick : {A : Type 0} → A → Option A → A
pick d None = d
pick d (Some a) = a

none_read : (depth : ℕ) (ts : List Token) (d : Data) (s : List Token) → value depth ts ≡ None
    → converted of_json (value depth ts) ≡ Some (d, s) → ⊥
none_read depth ts d s none e = let no : converted of_json (value depth ts) ≡ None = ap (converted of_json) none in cc

object_read : (depth : ℕ) (r : List Token)
    → (o : Option (Members × List Token)) × (converted of_json (value depth (Token.begin_object ∷ r)) ≡ parse_map object o)
unfolding value
object_read zero r = (None, refl)
object_read (suc n) r = (_, converted-object (json.members (value n) (length r) r))

array_read : (depth : ℕ) (r : List Token)
    → (o : Option (Items × List Token)) × (converted of_json (value depth (Token.begin_array ∷ r)) ≡ parse_map array o)
unfolding value
array_read zero r = (None, refl)
array_read (suc n) r = (_, converted-array (json.items (value n) (length r) r))

module _ {A : Type 0} (f : Data → A) (none : A) where
  one : (x d : Data) (r s : List Token) → ◌≡◌ {A = Option (Data × List Token)} (Some (x, r)) (Some (d, s)) → f x ≡ none → f d ≡ none
  one x d r s e is = sym (ap (λ (p : Data × List Token). f p.0) (ap (pick {A = Data × List Token} (x, r)) e)) ∙ is

  one_number : (n : Option Num) (d : Data) (r s : List Token)
      → option_map {U = Data × List Token} (λ b. (b, r)) (option_map number n) ≡ Some (d, s)
      → ((n : Num) → f (number n) ≡ none) → f d ≡ none
  one_number None d r s e is = absurd (cc)
  one_number (Some n) d r s e is = one (number n) d r s e (is n)

  one_array : (o : Option (Items × List Token)) (d : Data) (s : List Token) → parse_map array o ≡ Some (d, s)
      → ((ds : Items) → f (array ds) ≡ none) → f d ≡ none
  one_array None d s e is = absurd (cc)
  one_array (Some p) d s e is = one (array p.0) d p.1 s e (is p.0)

  one_object : (o : Option (Members × List Token)) (d : Data) (s : List Token) → parse_map object o ≡ Some (d, s)
      → ((ms : Members) → f (object ms) ≡ none) → f d ≡ none
  one_object None d s e is = absurd (cc)
  one_object (Some p) d s e is = one (object p.0) d p.1 s e (is p.0)

  -- what holds of every other value holds of a value that begins with another token
  pub other_value : (depth : ℕ) (t : Token) (r s : List Token) (d : Data)
      → (t ≡ Token.begin_array → (ds : Items) → f (array ds) ≡ none)
      → (t ≡ Token.begin_object → (ms : Members) → f (object ms) ≡ none)
      → f null ≡ none → ((b : Bool) → f (boolean b) ≡ none) → ((n : Num) → f (number n) ≡ none)
      → ((x : List ℕ) → f (string x) ≡ none)
      → converted of_json (value depth (t ∷ r)) ≡ Some (d, s) → f d ≡ none
  other_value depth Token.begin_object r s d a o z b n x e =
      let read = object_read depth r in one_object read.0 d s (sym read.1 ∙ e) (o refl)
  other_value depth Token.end_object r s d a o z b n x e = absurd (none_read depth (Token.end_object ∷ r) d s (value_is depth (Token.end_object ∷ r)) e)
  other_value depth Token.begin_array r s d a o z b n x e =
      let read = array_read depth r in one_array read.0 d s (sym read.1 ∙ e) (a refl)
  other_value depth Token.end_array r s d a o z b n x e = absurd (none_read depth (Token.end_array ∷ r) d s (value_is depth (Token.end_array ∷ r)) e)
  other_value depth (Token.key k) r s d a o z b n x e = absurd (none_read depth (Token.key k ∷ r) d s (value_is depth (Token.key k ∷ r)) e)
  other_value depth (Token.string k) r s d a o z b n x e =
      one (string k) d r s (sym (ap (converted of_json) (value_is depth (Token.string k ∷ r))) ∙ e) (x k)
  other_value depth (Token.number k) r s d a o z b n x e =
      one_number (number_of k) d r s (sym (ap (converted of_json) (value_is depth (Token.number k ∷ r))) ∙ e) n
  other_value depth (Token.boolean k) r s d a o z b n x e =
      one (boolean k) d r s (sym (ap (converted of_json) (value_is depth (Token.boolean k ∷ r))) ∙ e) (b k)
  other_value depth Token.null r s d a o z b n x e =
      one null d r s (sym (ap (converted of_json) (value_is depth (Token.null ∷ r))) ∙ e) z
  other_value depth Token.bad r s d a o z b n x e = absurd (none_read depth (Token.bad ∷ r) d s (value_is depth (Token.bad ∷ r)) e)

pub no_array : (t : lent.Token) → (t ≡ lents.BeginArray → ⊥) → token_of t ≡ Token.begin_array → ⊥
no_array lents.BeginObject n e = cc
no_array lents.EndObject n e = cc
no_array lents.BeginArray n e = n refl
no_array lents.EndArray n e = cc
no_array (lents.Key s) n e = cc
no_array (lents.String s) n e = cc
no_array (lents.Number s) n e = cc
no_array (lents.Bool b) n e = cc
no_array lents.Null n e = cc
no_array lents.Bad n e = cc

pub no_object : (t : lent.Token) → (t ≡ lents.BeginObject → ⊥) → token_of t ≡ Token.begin_object → ⊥
no_object lents.BeginObject n e = n refl
no_object lents.EndObject n e = cc
no_object lents.BeginArray n e = cc
no_object lents.EndArray n e = cc
no_object (lents.Key s) n e = cc
no_object (lents.String s) n e = cc
no_object (lents.Number s) n e = cc
no_object (lents.Bool b) n e = cc
no_object lents.Null n e = cc
no_object lents.Bad n e = cc

-- only an object is a change
pub no_change : (depth : ℕ) (t : Token) (r s : List Token) (d : Data) → (t ≡ Token.begin_object → ⊥)
    → converted of_json (value depth (t ∷ r)) ≡ Some (d, s) → IsChange None d
no_change depth t r s d n e =
    let is : release_change_in d ≡ None = other_value release_change_in None depth t r s d (λ k ds. refl) (λ k ms. absurd (n k)) refl (λ b. refl) (λ m. refl) (λ x. refl) e in
    sym (ap (option_map Some) is)

-- only an array is changes
pub no_changes : (depth : ℕ) (t : Token) (r s : List Token) (d : Data) → (t ≡ Token.begin_array → ⊥)
    → converted of_json (value depth (t ∷ r)) ≡ Some (d, s) → as_array d ≡ None
no_changes depth t r s d n e =
    other_value as_array None depth t r s d (λ k ds. absurd (n k)) (λ k ms. refl) refl (λ b. refl) (λ m. refl) (λ x. refl) e

-- ---- the members of a change

same_then : {A B : Type 0} (o : Option A) (f g : A → Option B) → ((a : A) → f a ≡ g a) → option_and_then f o ≡ option_and_then g o
same_then None f g e = refl
same_then (Some a) f g e = e a

pub held_flag : (t : Option Member) (x : Option Data) → IsAt t x → flag_in x ≡ flag_by t
held_flag None x e = ap flag_in e
held_flag (Some (members.Text s)) x (d, e, h) = ap flag_in e ∙ ap as_bool h
held_flag (Some (members.Flag b)) x (d, e, h) = ap flag_in e ∙ ap as_bool h
held_flag (Some members.Other) x (d, e, h) = ap flag_in e ∙ h.1

pub held_some : (t : Option Member) (x : Option Data) → IsAt t x → is_some x ≡ is_some t
held_some None x e = ap is_some e
held_some (Some m) x (d, e, h) = ap is_some e

change_same : (texts : ChangeTexts) (found : Members) → HoldsChange texts found → (l : List ℕ) (b : Bool)
    → change_at l (object found) b ≡ change_by l texts.text texts.file b
change_same texts found h l true = rw (held_some texts.text _ h.text, held_some texts.file _ h.file) refl
change_same texts found h l false = ap (option_map (PutsAt l)) (held_payload texts.text texts.file _ _ h.text h.file)

pub texts_change : (texts : ChangeTexts) (found : Members) → HoldsChange texts found
    → release_change_in (object found) ≡ texts_seen texts
texts_change texts found h =
    let f = λ (l : List ℕ). option_and_then (change_at l (object found)) (flag_in (get_member (codes "remove") found)) in
    let g = λ (l : List ℕ). option_and_then (change_by l texts.text texts.file) (flag_by texts.remove) in
    let inner = λ (l : List ℕ). ap (option_and_then (change_at l (object found))) (held_flag texts.remove _ h.remove) ∙ same_then (flag_by texts.remove) (change_at l (object found)) (change_by l texts.text texts.file) (change_same texts found h l) in
    ap (option_and_then f) (held_text texts.locale _ h.locale) ∙ same_then (text_by texts.locale) f g inner

-- ---- all changes

split : {A : Type 0} (x o : Option A) → Some x ≡ option_map Some o → (a : A) × (o ≡ Some a) × (x ≡ Some a)
split x None e = absurd (cc)
split x (Some a) e = (a, refl, ap (pick x) e)

no_split : {A : Type 0} (o : Option A) → None ≡ option_map {U = Option A} Some o → o ≡ None
no_split None e = refl
no_split (Some a) e = absurd (cc)

abbrev heads : {A : Type 0} → Option A → Option (List A) → Option (List A)
heads x o = option_and_then (λ c. option_map (λ cs. c ∷ cs) o) x

heads_some : {A : Type 0} (x : Option A) (o : Option (List A)) (cs : List A) → heads x o ≡ Some cs
    → (r : A) × (rs : List A) × (x ≡ Some r) × (o ≡ Some rs) × (cs ≡ r ∷ rs)
heads_some None o cs e = absurd (cc)
heads_some (Some r) None cs e = absurd (cc)
heads_some (Some r) (Some rs) cs e = (r, rs, refl, refl, sym (ap (pick cs) e))

push_seen : (all : List LineChange) (c : LineChange) (cs : List ReleaseChange) (r : ReleaseChange) → changes_seen all ≡ Some cs
    → change_seen c ≡ Some r → changes_seen (all ++ c ∷ []) ≡ Some (cs ++ r ∷ [])
push_seen [] c cs r e f = rw f (ap (λ xs. Some (xs ++ r ∷ [])) (ap (pick cs) e))
push_seen (x ∷ all) c cs r e f =
    let (y, ys, h, k, is) = heads_some (change_seen x) (changes_seen all) cs e in
    ap₂ heads h (push_seen all c ys r k f) ∙ ap (λ xs. Some (xs ++ r ∷ [])) (sym is)

more_after : (cs : List ReleaseChange) (r : ReleaseChange) (o : Option (List ReleaseChange))
    → option_map (λ more. cs ++ more) (option_map (λ xs. r ∷ xs) o) ≡ option_map (λ more. (cs ++ r ∷ []) ++ more) o
more_after cs r None = refl
more_after cs r (Some xs) = ap Some (sym (append_assoc cs (r ∷ []) xs))

pub seen_more : (flag : Bool) (all : List LineChange) (before : Items → Items) (c : LineChange) (d : Data) → IsChange (Some c) d
    → AreSeen flag all before → AreSeen flag (all ++ c ∷ []) (λ ds. before (item d ds))
seen_more true all before c d h (cs, e, f) =
    let (r, is, seen) = split (change_seen c) (release_change_in d) h in
    (cs ++ r ∷ [], push_seen all c cs r e seen, λ ds. f (item d ds) ∙ ap (λ o. option_map (λ more. cs ++ more) (heads o (all_changes ds))) is ∙ more_after cs r (all_changes ds))
seen_more false all before c d h f = λ ds. f (item d ds)

pub seen_none : (flag : Bool) (all : List LineChange) (before : Items → Items) (d : Data) → IsChange None d
    → AreSeen flag all before → AreSeen false all (λ ds. before (item d ds))
seen_none true all before d h (cs, e, f) =
    λ ds. f (item d ds) ∙ ap (λ o. option_map (λ more. cs ++ more) (heads o (all_changes ds))) (no_split (release_change_in d) h)
seen_none false all before d h f = λ ds. f (item d ds)

pub take_seen : (n : ℕ) (all : List LineChange) (cs : List ReleaseChange) → changes_seen all ≡ Some cs
    → changes_seen (take n all) ≡ Some (take n cs)
take_seen zero all cs e = refl
take_seen (suc n) [] cs e = ap (λ xs. Some (take (suc n) xs)) (ap (pick cs) e)
take_seen (suc n) (x ∷ all) cs e =
    let (r, rs, h, k, is) = heads_some (change_seen x) (changes_seen all) cs e in
    ap₂ heads h (take_seen n all rs k) ∙ ap (λ xs. Some (take (suc n) xs)) (sym is)

pub take_push : {A : Type 0} (n : ℕ) (xs : List A) (x : A) → length (take n xs) < n → take n (xs ++ x ∷ []) ≡ take n xs ++ x ∷ []
take_push zero xs x h = absurd (omega arith)
take_push (suc zero) [] x h = refl
take_push (suc (suc n)) [] x h = refl
take_push (suc n) (y ∷ xs) x h = ap (λ l. y ∷ l) (take_push n xs x (omega arith))

pub take_full : {A : Type 0} (n : ℕ) (xs ys : List A) → n ≤ length (take n xs) → take n (xs ++ ys) ≡ take n xs
take_full zero xs ys h = refl
take_full (suc n) [] ys h = absurd (omega arith)
take_full (suc n) (y ∷ xs) ys h = ap (λ l. y ∷ l) (take_full n xs ys (omega arith))

-- ---- pairs of digits

digit_cases : (a b z : Bool) (x y w : ℕ) → (((z || a) || b) ≡ is_some (if a then Some x else if b then Some y else if z then Some w else None))
digit_cases true b true x y w = refl
digit_cases true b false x y w = refl
digit_cases false true true x y w = refl
digit_cases false true false x y w = refl
digit_cases false false true x y w = refl
digit_cases false false false x y w = refl

same_digit : (c : ℕ) → is_ascii_hexdigit c ≡ is_hex_digit c
same_digit c = digit_cases (nat_le 65 c && nat_le c 70) (nat_le 97 c && nat_le c 102) (nat_le 48 c && nat_le c 57) (c - 55) (c - 87) (c - 48)

same_digits : (s : List ℕ) → list_all is_ascii_hexdigit s ≡ list_all is_hex_digit s
same_digits [] = refl
same_digits (c ∷ s) = rw (same_digit c, same_digits s) refl

pub pairs : (s : List ℕ) → length s % 2 ≡ 0 → list_all is_ascii_hexdigit s ≡ is_some (decoded (decode_of s))
pairs s even = same_digits s ∙ by (decode_of s) refl
  where
    by : (r : Result (List ℕ) FromHexError) → decode_of s ≡ r → list_all is_hex_digit s ≡ is_some (decoded r)
    by (Ok bytes) e = list_all-from_AllPass is_hex_digit s (decode_of-ok s bytes e).1
    by (Err fault) e =
        false_from_ne_true (list_all is_hex_digit s) (λ all. let d = decode_of-digits s even (AllPass-from_list_all is_hex_digit s all) in cc (sym e ∙ d.1))
