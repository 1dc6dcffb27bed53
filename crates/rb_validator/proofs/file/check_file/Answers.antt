use Rattle.std.proofs.Common.{◌≡◌, ℕ, ◌-◌, ◌*◌, ◌≤◌, ltb, false, List, length, take, drop, Ok, Option, Some, None, refl, sym, subst, ◌∙◌, ap, arith}
use Rattle.std.specs.Prelude.{◌⊎◌, IfOk, MatchResult, Result}
use Rattle.std.proofs.lemmas.Bool.Decides.{nat_tests}
use Rattle.std.proofs.lemmas.List.{take_all, length-drop}
use Rattle.std.proofs.lemmas.Result.{IfOk-weaker}
use Rattle.rb_format.specs.declared.fault.FileFault.{FileFault}
use Rattle.rb_format.specs.declared.fault.FileFault.TheVariants.{Memory}
use Rattle.rb_format.specs.declared.header.Header.{Header}
use Rattle.rb_format.specs.Checks.{header_of}
use Rattle.rb_format.specs.inner.FirstFault.{fault_of, read_data, read_file}
use Rattle.rb_validator.specs.declared.file.Found.{Found}
use Rattle.rb_format.specs.Place.{word_at, half_at}
use Rattle.rb_validator.specs.TextBlocks.{AreSegmentBlocks}
use Rattle.rb_validator.specs.inner.Noted.{blocks_noted}
use Rattle.rb_validator.specs.Visits.{IsCount, IsPlaceAt}
use Rattle.rb_format.proofs.Checks.{header_is}
use Rattle.rb_validator.proofs.Cases.{header_size}
use Rattle.rb_validator.proofs.file.check_file.Goals as goal

-- the rest of a file after a header of its size is its data
data_is : (bytes : List ℕ) (size : ℕ) → size ≡ half_at bytes 0 → take (length bytes - size) (drop size bytes) ≡ drop (half_at bytes 0) bytes
data_is bytes size e =
    let all : take (length bytes - size) (drop size bytes) ≡ drop size bytes = take_all _ _ (omega (arith, length-drop size bytes)) in
    all ∙ ap (λ (x : ℕ). drop x bytes) e

-- what is found of the rest is found of the data
after_header : (bytes : List ℕ) (size : ℕ) (r : Result Found FileFault) (P : List ℕ → Found → Type 0) → size ≡ half_at bytes 0
    → IfOk r (λ n. P (take (length bytes - size) (drop size bytes)) n) → IfOk r (λ n. P (drop (half_at bytes 0) bytes) n)
after_header bytes size r P e h = IfOk-weaker r _ _ (λ n p. subst (λ (body : List ℕ). P body n) (data_is bytes size e) p) h

-- the reading of a file after its header, which the data follow
read_after : (bytes : List ℕ) (h : Header) → length bytes ≤ 67108864 → header_of bytes ≡ Ok h
    → read_data 64 h.minor (take (length bytes - h.size) (drop h.size bytes)) ≡ read_file 64 bytes
unfolding read_file
read_after bytes h l e =
    let all : take (length bytes - h.size) (drop h.size bytes) ≡ drop h.size bytes = take_all _ _ (omega (arith, length-drop h.size bytes)) in
    let short : ltb 67108864 (length bytes) ≡ false = grind (arith, nat_tests) in
    rw (all, short, header_is bytes, e) refl

answer_after : (o p : Option FileFault) (r : Result Found FileFault) → o ≡ p
    → MatchResult r (λ _. o ≡ None) (λ e. (e ≡ Memory) ⊎ (o ≡ Some e))
    → MatchResult r (λ _. p ≡ None) (λ e. (e ≡ Memory) ⊎ (p ≡ Some e))
answer_after o p r e h = subst (λ (x : Option FileFault). MatchResult r (λ _. x ≡ None) (λ d. (d ≡ Memory) ⊎ (x ≡ Some d))) e h

pub returns-clause-answer : goal.returns-clause-answer
returns-clause-answer c =
    let bytes = c.args.bytes.now in
    let read = read_after bytes c.in_ok-header.header (omega arith) (sym c.in_ok-header.ensures.value) in
    answer_after _ _ c.check_data.result (ap fault_of read) c.check_data.ensures.answer

pub returns-clause-visits : goal.returns-clause-visits
returns-clause-visits c =
    let z = header_size c.args.bytes.now c.in_ok-header.header (header_is c.args.bytes.now ∙ sym c.in_ok-header.ensures.value) in
    after_header c.args.bytes.now c.in_ok-header.header.size c.check_data.result (λ body n. IsCount (IsPlaceAt body) (3 * word_at body 4) n.visits) z.0
    c.check_data.ensures.visits

pub returns-clause-blocks : goal.returns-clause-blocks
returns-clause-blocks c =
    let z = header_size c.args.bytes.now c.in_ok-header.header (header_is c.args.bytes.now ∙ sym c.in_ok-header.ensures.value) in
    after_header c.args.bytes.now c.in_ok-header.header.size c.check_data.result (λ body n. AreSegmentBlocks body (blocks_noted n.notes)) z.0
    c.check_data.ensures.blocks
