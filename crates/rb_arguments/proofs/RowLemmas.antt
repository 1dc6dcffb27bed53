-- Proves which values clap's getters return, by the rows.
use Rattle.std.proofs.Common.{◌≡◌, ◌∙◌, ap, refl, ℕ, Bool, true, false, List, [], map, Option, Some, None, codes}
use Rattle.std.specs.Prelude.{Result, Ok, Err, unwrap_or, option_map}
use Rattle.std.specs.Borrow.{Bor}
use Rattle.std.specs.Str.Parse.{ParsesUnsigned}
use Rattle.clap.specs.Words.{ReadsOne, Row, Text, one_of}
use Rattle.clap.specs.Walk.{texts}
use Rattle.rb_arguments.specs.Rows.{IsFlagIn, IsFlagOf, IsNumberIn, IsNumberOf}

-- a flag by the three cases of its text
pub flag_reads : (rows : List Row) (id : Text) (flag : Bool)
    → (one_of id rows ≡ None → flag ≡ false)
    → (one_of id rows ≡ Some (codes "true") → flag ≡ true)
    → (one_of id rows ≡ Some (codes "false") → flag ≡ false)
    → IsFlagIn rows id flag
flag_reads rows id flag none set unset = go (one_of id rows) refl
  where
    go : (o : Option Text) → one_of id rows ≡ o → IsFlagOf o flag
    go None e = none e
    go (Some text) e = (λ is. set (e ∙ ap Some is), λ is. unset (e ∙ ap Some is))

-- a number by how its text is read
pub number_reads : {E : Type 0} (gives : Text → Result ℕ E → Type 0) (rows : List Row) (id : Text) (number : Option ℕ)
    → ((t : Text) (r : Result ℕ E) → gives t r → ParsesUnsigned 64 10 t r)
    → (one_of id rows ≡ None → number ≡ None)
    → ((t : Text) → one_of id rows ≡ Some t → ReadsOne gives t number)
    → IsNumberIn rows id number
number_reads gives rows id number parses none reads = go (one_of id rows) refl
  where
    read : (t : Text) (n : Option ℕ) → ReadsOne gives t n → IsNumberOf (Some t) n
    read t None given = parses t (Err given.0) given.1
    read t (Some x) given = parses t (Ok x) given

    go : (o : Option Text) → one_of id rows ≡ o → IsNumberOf o number
    go None e = none e
    go (Some t) e = read t number (reads t e)

-- the words of an argument, if none stand for an argument that wasn't given
pub words_read : (found : Option (Bor (List (Bor Text)))) (none : Bor (List (Bor Text))) → none.now ≡ []
    → texts (unwrap_or found none).now ≡ unwrap_or (option_map (λ s. map (λ v. v.now) s.now) found) []
words_read None none empty = ap texts empty
words_read (Some words) none empty = refl
