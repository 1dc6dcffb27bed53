-- Lines in memory, and the lines of objects with one or two members.
use Rattle.std.proofs.Common.{◌≡◌, ◌∙◌, ap, ℕ, List, [], ◌∷◌, ◌++◌, true, false, Option, Some, None, Result, Ok, Err, is_some, codes, sym, subst, append_assoc}
use Rattle.std.specs.Prelude.{OnOk}
use Rattle.rb_json.specs.Stored.{Stores}
use Rattle.serde_json.specs.Data.{Data, Members, member, no_members, number, object, string, unsigned}
use Rattle.json.specs.Print.{quoted}
use Rattle.serde_json.specs.Written.{compact_text, members_text}
use Rattle.rb_json.specs.Parts.{name_text}
use Rattle.rb_replies.specs.Extended.{refusal_data, with_number, with_text}
use Rattle.rb_replies.specs.inner.Refusals.{code_text, number_text}
use Rattle.rb_json.proofs.Objects.{member_taken}

stored : (o : Option (List ℕ)) (line text : List ℕ) → Stores (Some []) o text → o ≡ Some line → line ≡ text
stored None line text h e = absurd cc
stored (Some x) line text h e = let same : x ≡ line = cc in sym same ∙ h

-- a text that an empty buffer took is the line
pub line_told : {E : Type 0} (r : Result (Unit {0}) E) (old new : Option (List ℕ)) (line text : List ℕ) → old ≡ Some [] → Stores old new text
    → OnOk r (new ≡ Some line) → OnOk r (line ≡ text)
line_told (Ok x) old new line text empty h e = stored new line text (subst (λ (o : Option (List ℕ)). Stores o new text) empty h) e
line_told (Err x) old new line text empty h e = tt

module _ {S : Type 0} (Takes : S → S → List ℕ → Type 0) (joined : (x y z : S) (a b : List ℕ) → Takes x y a → Takes y z b → Takes x z (a ++ b)) where
  pub one_taken : (v w x y z s : S) (k : List ℕ) (d : Data) → Takes v w (123 ∷ []) → Takes w x (name_text false k) → Takes x y (compact_text d)
      → Takes y z (125 ∷ []) → Takes z s (10 ∷ []) → Takes v s (compact_text (object (member k d no_members)) ++ 10 ∷ [])
  one_taken v w x y z s k d begin name value close feed =
      let text = members_text false (member k d no_members) in
      let members = member_taken Takes joined w x y z false k d no_members name value close in
      joined v z s (compact_text (object (member k d no_members))) (10 ∷ []) (joined v w z (123 ∷ []) text begin members) feed

  pub two_taken : (t u v w x y z s : S) (k l : List ℕ) (d e : Data) → Takes t u (123 ∷ []) → Takes u v (name_text false k) → Takes v w (compact_text d)
      → Takes w x (name_text true l) → Takes x y (compact_text e) → Takes y z (125 ∷ []) → Takes z s (10 ∷ [])
      → Takes t s (compact_text (object (member k d (member l e no_members))) ++ 10 ∷ [])
  two_taken t u v w x y z s k l d e begin name value other more close feed =
      let last = member l e no_members in
      let rest = member_taken Takes joined w x y z true l e no_members other more close in
      let members = member_taken Takes joined u v w z false k d last name value rest in
      joined t z s (compact_text (object (member k d last))) (10 ∷ []) (joined t u z (123 ∷ []) (members_text false (member k d last)) begin members) feed

  -- an object with two members
  pub both_taken : (t u v w x y z : S) (k l : List ℕ) (d e : Data) → Takes t u (123 ∷ []) → Takes u v (name_text false k) → Takes v w (compact_text d)
      → Takes w x (name_text true l) → Takes x y (compact_text e) → Takes y z (125 ∷ [])
      → Takes t z (compact_text (object (member k d (member l e no_members))))
  both_taken t u v w x y z k l d e begin name value other more close =
      let last = member l e no_members in
      let rest = member_taken Takes joined w x y z true l e no_members other more close in
      let members = member_taken Takes joined u v w z false k d last name value rest in
      joined t u z (123 ∷ []) (members_text false (member k d last)) begin members

  -- a number's member, if there is one, before others
  number_taken : (x y z : S) (key : List ℕ) (n : Option ℕ) (ms : Members) → Takes x y (number_text key n) → Takes y z (members_text true ms)
      → Takes x z (members_text true (with_number key n ms))
  number_taken x y z key None ms h k = joined x y z [] (members_text true ms) h k
  number_taken x y z key (Some n) ms h k =
      let name = name_text true key in
      let value = compact_text (number (unsigned n)) in
      let rest = members_text true ms in
      subst (Takes x z) (append_assoc name value rest ∙ from_name key value rest) (joined x y z (name ++ value) rest h k)
    where
      from_name : (key value rest : List ℕ) → name_text true key ++ (value ++ rest) ≡ 44 ∷ (quoted key ++ 58 ∷ (value ++ rest))
      from_name key value rest = ap (λ (t : List ℕ). 44 ∷ t) (append_assoc (quoted key) (58 ∷ []) (value ++ rest))

  -- a code's member, if there is one, before others
  code_taken : (x y z : S) (code : Option (List ℕ)) (ms : Members) → Takes x y (code_text code) → Takes y z (members_text (is_some code) ms)
      → Takes x z (members_text false (with_text (codes "code") code ms))
  code_taken x y z None ms h k = joined x y z [] (members_text false ms) h k
  code_taken x y z (Some code) ms h k =
      let name = name_text false (codes "code") in
      let value = compact_text (string code) in
      let rest = members_text true ms in
      subst (Takes x z) (append_assoc name value rest ∙ append_assoc (quoted (codes "code")) (58 ∷ []) (value ++ rest)) (joined x y z (name ++ value) rest h k)

  pub refusal_taken : (q r s t u v w x y : S) (error : List ℕ) (code : Option (List ℕ)) (index line : Option ℕ) → Takes q r (123 ∷ [])
      → Takes r s (code_text code) → Takes s t (name_text (is_some code) (codes "error")) → Takes t u (compact_text (string error))
      → Takes u v (number_text (codes "index") index) → Takes v w (number_text (codes "line") line) → Takes w x (125 ∷ []) → Takes x y (10 ∷ [])
      → Takes q y (compact_text (refusal_data error code index line) ++ 10 ∷ [])
  refusal_taken q r s t u v w x y error code index line begin first name value second third close feed =
      let lines = with_number (codes "line") line no_members in
      let indexes = with_number (codes "index") index lines in
      let errors = member (codes "error") (string error) indexes in
      let a = number_taken v w x (codes "line") line no_members third close in
      let b = number_taken u v x (codes "index") index lines second a in
      let c = member_taken Takes joined s t u x (is_some code) (codes "error") (string error) indexes name value b in
      let d = code_taken r s x code errors first c in
      joined q x y (compact_text (refusal_data error code index line)) (10 ∷ [])
      (joined q r x (123 ∷ []) (members_text false (with_text (codes "code") code errors)) begin d) feed
