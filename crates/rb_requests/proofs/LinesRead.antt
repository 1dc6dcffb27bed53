-- The bytes that are read of an input, and the lines of the whole text.
use Rattle.std.proofs.Common.{◌≡◌, ◌<◌, ◌≤◌, ℕ, ◌+◌, ◌-◌, ◌^◌, min, Bool, true, false, cond, eqb, List, [], ◌∷◌, ◌++◌, length, Option, Some, None, refl, sym}
use Rattle.std.proofs.Common.{◌∙◌, ap, subst, arith, append-nil, append_assoc, length-append}
use Rattle.std.specs.Io.KnownBytes.{Consumes, Keeps, IsAtEnd}
use Rattle.std.proofs.KnownBytes.{Consumes-trans, Consumes-kept, Consumes-all}
use Rattle.std.proofs.lemmas.Bool.Decides.{nat_tests}
use Rattle.rb_requests.specs.inner.Taken.{ReadsPlain, ReadsPart, ReadsLong, ReadsEnded, ReadsLast, ReadsEnd}
use Rattle.rb_requests.specs.inner.Taken.{IsSoFar, Holds, ReadsHeld}
use Rattle.rb_requests.specs.declared.reading.Held.{Held}
use Rattle.rb_requests.specs.declared.reading.Longest.{Longest}
use Rattle.rb_requests.specs.declared.reading.Progress.{Progress}
use Rattle.rb_requests.specs.Lines.{onto_first, lines_of, feeds}
use Rattle.rb_requests.specs.Runs.{Moves}

-- ---- line feeds

pub feeds-append : (a b : List ℕ) → feeds (a ++ b) ≡ feeds a + feeds b
feeds-append [] b = omega arith
feeds-append (x ∷ a) b = rw (feeds-append a b) (omega arith)

-- a byte that is no line feed, and the rest
plain_byte : (n m : ℕ) (v : Bool) → cond v 1 0 + m ≡ 0 → (v ≡ false) × (m ≡ 0)
plain_byte n m true h = absurd (omega arith)
plain_byte n m false h = (refl, omega arith)

plain_front : (b : ℕ) (bs : List ℕ) → feeds (b ∷ bs) ≡ 0 → (eqb b 10 ≡ false) × (feeds bs ≡ 0)
plain_front b bs h = plain_byte b (feeds bs) (eqb b 10) h

-- ---- the lines of a text whose front is known

pub lines_of-ended : (line rest : List ℕ) → feeds line ≡ 0 → lines_of (line ++ 10 ∷ rest) ≡ line ∷ lines_of rest
lines_of-ended [] rest h = refl
lines_of-ended (b ∷ line) rest h =
    let p = plain_front b line h in
    rw p.0 (ap (onto_first b) (lines_of-ended line rest p.1))

pub lines_of-last : (line : List ℕ) → feeds line ≡ 0 → 0 < length line → lines_of line ≡ line ∷ []
lines_of-last [] h n = absurd (omega arith)
lines_of-last (b ∷ []) h n = rw (plain_front b [] h).0 refl
lines_of-last (b ∷ c ∷ line) h n =
    let p = plain_front b (c ∷ line) h in
    rw p.0 (ap (onto_first b) (lines_of-last (c ∷ line) p.1 (omega arith)))

-- ---- the bytes that are read

-- a reader at a moment
pub record Reader : Type 0 where
  pub left : Option (List ℕ)
  pub faults : ℕ

abbrev pub reader : Option (List ℕ) → ℕ → Reader
reader left faults = record { left = left; faults = faults }

-- the bytes so far, and no call has failed
pub record ReadSoFar (longest : Longest) (before now : Reader) (progress : Progress) (held : List ℕ) : Type 0 where
  pub line : List ℕ
  pub part : ReadsPlain before.left now.left line
  pub far : IsSoFar longest progress line held
  pub quiet : now.faults ≡ before.faults

not_a_feed : (b : ℕ) → (b ≡ 10 → ⊥) → eqb b 10 ≡ false
not_a_feed b n = grind (arith, nat_tests)

plain_run : (a b c : Option (List ℕ)) (line bytes : List ℕ) → ReadsPlain a b line → Consumes b c bytes → feeds bytes ≡ 0 → ReadsPlain a c (line ++ bytes)
plain_run a b c line bytes h k p = record {
  read = Consumes-trans a b c line bytes h.read k;
  plain = feeds-append line bytes ∙ rw (h.plain, p) refl;
}

pub plain_kept : (a b c : Option (List ℕ)) (line : List ℕ) → ReadsPlain a b line → Keeps b c → ReadsPlain a c line
plain_kept a b c line h k = record { read = Consumes-kept a b c line h.read k; plain = h.plain }

-- a run adds as many bytes as are held more after it
run_bytes : (held held' bytes : List ℕ) → held' ≡ held ++ bytes → length held' - length held ≡ length bytes
run_bytes held held' bytes e = let l = ap length e ∙ length-append held bytes in omega arith

-- how many bytes a run added, as the program counts them
pub run_sum : (read progress : Progress) (sub n m : ℕ) (held held' : List ℕ)
    → read ≡ record { count = min (progress.count + sub) (2 ^ 64 - 1); starved = progress.starved } → sub ≡ n - m → n ≡ length held' → m ≡ length held
    → read ≡ record { count = min (progress.count + (length held' - length held)) (2 ^ 64 - 1); starved = progress.starved }
run_sum read progress sub n m held held' h s e f = rw (← e, ← f, ← s) h

-- one run more: `old` was held before, `held` after what is not held was let go, and `held'` with the run
module _ (longest : Longest) (before now : Reader) (progress read : Progress) (most : ℕ) (old held held' : List ℕ)
    (h : ReadSoFar longest before now progress old) (kept : progress.starved ≡ false → progress.count ≤ longest.kept → held ≡ old)
    (few : most ≤ longest.limit - progress.count) (room : progress.count < longest.limit) (fits : longest.limit < 2 ^ 64)
    (sum : read ≡ record { count = min (progress.count + (length held' - length held)) (2 ^ 64 - 1); starved = progress.starved }) where
  run_far : (bytes : List ℕ) → held' ≡ held ++ bytes → length bytes ≤ most → IsSoFar longest read (h.line ++ bytes) held'
  run_far bytes moved short =
      let more = run_bytes held held' bytes moved in
      let l = length-append h.line bytes in
      let count : read.count ≡ min (progress.count + (length held' - length held)) (2 ^ 64 - 1) = ap (λ (p : Progress). p.count) sum in
      let starved : read.starved ≡ progress.starved = ap (λ (p : Progress). p.starved) sum in
      record {
        many = omega (arith, h.far.many, h.far.short);
        short = omega (arith, h.far.many, h.far.short);
        whole = λ s w.
            let s' : progress.starved ≡ false = sym starved ∙ s in
            let c : progress.count ≤ longest.kept = omega (arith, h.far.many, h.far.short) in
            moved ∙ ap (λ x. x ++ bytes) (kept s' c ∙ h.far.whole s' c);
        passed = λ s. h.far.passed (sym starved ∙ s);
      }

  -- a run that ends within a line
  pub run_more : (then : Reader) → Moves now.left then.left held held' most [] → then.faults ≡ now.faults → ReadSoFar longest before then read held'
  run_more then m q =
      let bytes = subst (λ (x : List ℕ). Consumes now.left then.left x) (append-nil m.bytes) m.read in
      record {
        line = h.line ++ m.bytes;
        part = plain_run before.left now.left then.left h.line m.bytes h.part bytes m.plain;
        far = run_far m.bytes m.moved m.short;
        quiet = q ∙ h.quiet;
      }

  -- a run that ends with a line feed
  pub run_ended : (left : Option (List ℕ)) (what : Held) → Moves now.left left held held' most (10 ∷ []) → Holds longest read what
      → ReadsHeld ReadsEnded longest held' what before.left left
  run_ended left what m holds =
      let line = h.line ++ m.bytes in
      let l = length-append h.line m.bytes in (
        line,
        record {
          read = subst (λ (x : List ℕ). Consumes before.left left x) (sym (append_assoc h.line m.bytes (10 ∷ [])))
              (Consumes-trans before.left now.left left h.line (m.bytes ++ 10 ∷ []) h.part.read m.read);
          plain = feeds-append h.line m.bytes ∙ rw (h.part.plain, m.plain) refl;
          short = omega (arith, h.far.many, m.short);
        },
        holds line held' (run_far m.bytes m.moved m.short),
      )

-- ---- the end of the input

nothing_left : (a b : Option (List ℕ)) → Consumes a b [] → IsAtEnd b → IsAtEnd a
nothing_left None b h k = tt
nothing_left (Some xs) None h k = absurd h
nothing_left (Some xs) (Some ys) h k = h ∙ k

nothing_read : (a b c : Option (List ℕ)) → Consumes a b [] → Keeps b c → Keeps a c
nothing_read None b c h k = tt
nothing_read (Some xs) None c h k = absurd h
nothing_read (Some xs) (Some ys) None h k = absurd k
nothing_read (Some xs) (Some ys) (Some zs) h k = k ∙ sym h

no_bytes : (line : List ℕ) → length line ≡ 0 → line ≡ []
no_bytes [] e = refl
no_bytes (b ∷ bs) e = absurd (omega arith)

pub last_of : (longest : Longest) (a b c : Option (List ℕ)) (line held : List ℕ) (progress : Progress) (what : Held) → ReadsPlain a b line
    → IsSoFar longest progress line held → IsAtEnd b → Keeps b c → 0 < progress.count → Holds longest progress what
    → ReadsHeld ReadsLast longest held what a c
last_of longest a b c line held progress what h far e k some holds = (
  line,
  record {
    short = omega (arith, far.many, far.short);
    part = plain_kept a b c line h k;
    some = omega (arith, far.many);
    all = Consumes-all a b line [] line h.read e refl;
  },
  holds line held far,
)

pub end_of : (longest : Longest) (a b c : Option (List ℕ)) (line held : List ℕ) (progress : Progress) → ReadsPlain a b line
    → IsSoFar longest progress line held → IsAtEnd b → Keeps b c → progress.count ≡ 0 → ReadsEnd a c
end_of longest a b c line held progress h far e k z =
    let none = subst (λ (x : List ℕ). Consumes a b x) (no_bytes line (omega (arith, far.many))) h.read in
    (nothing_left a b none e, nothing_read a b c none k)

-- what is held of a line without further bytes, after what is not held was let go
pub far_kept : (longest : Longest) (progress : Progress) (line old held held' : List ℕ) → IsSoFar longest progress line old
    → (progress.starved ≡ false → progress.count ≤ longest.kept → held ≡ old) → held' ≡ held → IsSoFar longest progress line held'
far_kept longest progress line old held held' far kept same = record {
  many = far.many;
  short = far.short;
  whole = λ s few. same ∙ (kept s few ∙ far.whole s few);
  passed = far.passed;
}

-- all the bytes that a line may have are read
pub far_full : (longest : Longest) (progress : Progress) (line held : List ℕ) → IsSoFar longest progress line held → longest.limit ≤ progress.count
    → IsSoFar longest (record { count = longest.limit; starved = progress.starved }) line held
far_full longest progress line held far full =
    let all : progress.count ≡ longest.limit = omega (arith, far.short) in
    record {
      many = far.many ∙ all;
      short = omega arith;
      whole = λ s few. far.whole s (rw all few);
      passed = far.passed;
    }

-- ---- after the most bytes that a line may have

pub longest_ended : (longest : Longest) (a b c : Option (List ℕ)) (line held : List ℕ) (byte : ℕ) (progress : Progress) (what : Held)
    → ReadsPlain a b line → Consumes b c (byte ∷ []) → byte ≡ 10 → IsSoFar longest progress line held → Holds longest progress what
    → ReadsHeld ReadsEnded longest held what a c
longest_ended longest a b c line held byte progress what h k e far holds = (
  line,
  record {
    short = omega (arith, far.many, far.short);
    read = Consumes-trans a b c line (10 ∷ []) h.read (subst (λ (x : ℕ). Consumes b c (x ∷ [])) e k);
    plain = h.plain;
  },
  holds line held far,
)

pub longest_passed : (limit : ℕ) (a b c : Option (List ℕ)) (line : List ℕ) (byte : ℕ) → ReadsPlain a b line → Consumes b c (byte ∷ [])
    → (byte ≡ 10 → ⊥) → length line ≡ limit → ReadsLong limit a c
longest_passed limit a b c line byte h k n e = record {
  bytes = line ++ byte ∷ [];
  part = plain_run a b c line (byte ∷ []) h k (rw (not_a_feed byte n) refl);
  long = length-append line (byte ∷ []) ∙ ap (λ x. x + 1) e;
}

pub longest_part : (limit : ℕ) (a b c : Option (List ℕ)) (line : List ℕ) → ReadsPlain a b line → Keeps b c → length line ≡ limit → ReadsPart limit a c
longest_part limit a b c line h k n = record { bytes = line; part = plain_kept a b c line h k; short = omega arith }

pub ruleset after_longest = (longest_ended, longest_passed, longest_part)
