-- A path at the end of its bytes.
use Rattle.std.proofs.Common.{◌≡◌, ◌+◌, ◌-◌, ◌<◌, ◌≤◌, ℕ, List, [], ◌∷◌, ◌++◌, length, drop, get_or, slice_index}
use Rattle.std.proofs.Common.{refl, ap, sym, ◌∙◌, arith, length-drop, length-append, set, suc}
use Rattle.std.proofs.lemmas.List.{get_or-drop, ext_get_or, drop-append-le, drop-set}
use Rattle.rb_tree.specs.Resource.{Resource}
use Rattle.rb_tree.specs.Parts.{HasUnits, kind_of, len_of, units_of}
use Rattle.rb_locales.proofs.Narrowed.{units_len}
use Rattle.rb_fallback.specs.AliasPaths.{joined_path}

-- a field that is filled with the units from an index on
pub filled : (t : Resource) (at : ℕ) (field old : List ℕ) → HasUnits (kind_of t) → at + length old ≡ len_of t → length field ≡ length old
    → ((k : ℕ) → k < length old → get_or field k 0 ≡ slice_index (units_of t) (at + k)) → field ≡ drop at (units_of t)
filled t at field old u whole same each =
    let us = units_of t in
    ext_get_or 0 field (drop at us) (omega (arith, length-drop at us, units_len t u))
    (λ k b. each k (omega arith) ∙ sym (get_or-drop at us k 0))

-- a path that is written before what remains of another
pub before_all : (front bytes : List ℕ) (from past : ℕ) (units : List ℕ) → length front ≡ past → from ≤ past → drop from front ≡ units
    → drop from (front ++ drop past bytes) ≡ units ++ drop past bytes
before_all front bytes from past units len low is = drop-append-le from front (drop past bytes) (omega arith) ∙ ap (λ l. l ++ drop past bytes) is

joined_some : (units rest : List ℕ) → 0 < length rest → joined_path units rest ≡ units ++ 47 ∷ rest
joined_some units [] h = absurd (omega arith)
joined_some units (b ∷ rest) h = refl

pub joined_none : (units rest : List ℕ) → length rest ≡ 0 → joined_path units rest ≡ units
joined_none units [] h = refl
joined_none units (b ∷ rest) h = absurd (omega arith)

-- after a slash
pub before_rest : (front bytes : List ℕ) (from start : ℕ) (units : List ℕ) → length bytes ≡ 1024 → start < 1024 → 0 < start → length front ≡ start - 1
    → from ≤ start - 1 → drop from front ≡ units
    → drop from (front ++ drop (start - 1) (set bytes (start - 1) 47)) ≡ joined_path units (drop start bytes)
before_rest front bytes from start units len low some same few is =
    let next : start - 1 + 1 ≡ start = omega arith in
    let slash : drop (start - 1) (set bytes (start - 1) 47) ≡ 47 ∷ drop start bytes =
    drop-set bytes (start - 1) 47 (omega arith) ∙ ap (λ (j : ℕ). 47 ∷ drop j bytes) next in
    before_all front (set bytes (start - 1) 47) from (start - 1) units same few is
    ∙ ap (λ l. units ++ l) slash
    ∙ sym (joined_some units (drop start bytes) (omega (arith, length-drop start bytes)))

-- if there is no place for the slash and the units
pub long_rest : (units bytes : List ℕ) (from past : ℕ) → length bytes ≡ 1024 → from < 1024 → from ≡ past + 1 → past < length units
    → 1024 < length (joined_path units (drop from bytes))
long_rest units bytes from past len low same few =
    let rest : length (drop from bytes) ≡ 1024 - from = length-drop from bytes ∙ ap (λ (n : ℕ). n - from) len in
    let all : length (joined_path units (drop from bytes)) ≡ length units + suc (length (drop from bytes)) =
    ap length (joined_some units (drop from bytes) (omega arith)) ∙ length-append units (47 ∷ drop from bytes) in
    omega arith
