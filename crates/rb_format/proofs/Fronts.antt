-- A run of bytes that would end after the data ends with them.
use Rattle.std.proofs.Common.{◌≡◌, false, ltb, ℕ, zero, suc, ◌-◌, ◌≤◌, List, [], length, take, drop, None, refl, arith}
use Rattle.std.proofs.lemmas.List.{take_all, length-drop, drop_all}
use Rattle.std.proofs.lemmas.Bool.{le-ltb}
use Rattle.rb_format.specs.Place.{word_at, key, key_at, key_front}

pub key_behind : (body : List ℕ) (k high : ℕ) → length body ≤ high
    → key_front (take (high - k) (drop k body)) ≡ key_front (take (length body - k) (drop k body))
key_behind body k high h =
    let a : take (high - k) (drop k body) ≡ drop k body = take_all _ _ (omega (arith, length-drop k body)) in
    let b : take (length body - k) (drop k body) ≡ drop k body = take_all _ _ (omega (arith, length-drop k body)) in
    rw (a, b) refl

nothing : (n : ℕ) → key_front (take n []) ≡ None
nothing zero = refl
nothing (suc n) = refl

pub key_beyond : (body : List ℕ) (k high : ℕ) → length body ≤ k → key_front (take (high - k) (drop k body)) ≡ None
key_beyond body k high h = let d : drop k body ≡ [] = drop_all k body h in rw d (nothing (high - k))

-- a key is looked for below the top of the keys alone
pub key_any_top : (body : List ℕ) (indexes keys_top top k : ℕ)
    → key (record { indexes = indexes; keys_top = keys_top; top = top }) body k ≡ key (record { indexes = indexes; keys_top = keys_top; top = 0 }) body k
unfolding key
key_any_top body indexes keys_top top k = refl

pub key_at_long : (body : List ℕ) (k : ℕ) → 12 ≤ length body
    → key_at body k ≡ key (record { indexes = word_at body 1; keys_top = word_at body 2; top = 0 }) body k
key_at_long body k h = let test : ltb (length body) 12 ≡ false = le-ltb _ _ h in rw test (key_any_top body _ _ _ k)
