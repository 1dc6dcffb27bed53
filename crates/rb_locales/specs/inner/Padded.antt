-- Defines a short text in an array of bytes with zeros after its end, for proofs only.
use Rattle.std.specs.Prelude.{◌≡◌, ℕ, ◌≤◌, ◌-◌, List, ◌++◌, length, take, drop, replicate}
use Rattle.std.proofs.Common.{arith, ◌∙◌, ap, take-append-drop, length-append}
use Rattle.std.proofs.lemmas.List.{drop_at, drop-replicate, length-replicate, length-take-le}

-- the first `len` bytes, with zeros after them
pub record IsPadded (most len : ℕ) (bytes : List ℕ) : Type 0 where
  pub fits : len ≤ most
  pub all : length bytes ≡ most
  pub rest : drop len bytes ≡ replicate (most - len) 0

-- the bytes with zeros after them
abbrev pub padded : ℕ → List ℕ → List ℕ
padded most bs = bs ++ replicate (most - length bs) 0

-- a function of the padded text and its length equals that function of the array and the length
pub padded-take : {A : Type 0} (most len : ℕ) (bytes : List ℕ) (make : List ℕ → ℕ → A) → IsPadded most len bytes
    → make (padded most (take len bytes)) (length (take len bytes)) ≡ make bytes len
padded-take most len bytes make h =
    let l : length (take len bytes) ≡ len = length-take-le len bytes (omega arith) in
    let b : take len bytes ++ replicate (most - len) 0 ≡ bytes = rw (← h.rest) (take-append-drop len bytes) in
    ap (λ (k : ℕ). make (take len bytes ++ replicate (most - k) 0) k) l ∙ ap (λ (bs : List ℕ). make bs len) b

pub IsPadded-front : (most k : ℕ) (bs rest : List ℕ) → length bs ≡ k → k ≤ most → rest ≡ drop k (replicate most 0)
    → IsPadded most k (bs ++ rest)
IsPadded-front most k bs rest l h e = record {
  fits = h;
  all = rw e (simp (length-append, drop-replicate, length-replicate) (omega arith));
  rest = rw (drop_at bs rest k l) (e ∙ drop-replicate k most 0);
}
