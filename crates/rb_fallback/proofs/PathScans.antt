-- Proves that a pass over a path's bytes, or over pairs of them, decides whether they are a path.
use Rattle.std.proofs.Common.{◌≡◌, ◌≢◌, ◌<◌, ◌+◌, ◌-◌, ◌&&◌, ◌||◌, ◌↔◌, ℕ, zero, suc, List, [], ◌∷◌, Bool, true, false, not, cond, length}
use Rattle.std.proofs.Common.{slice_index, refl, sym, ◌∙◌, ap, arith}
use Rattle.std.proofs.lemmas.Bool.{lt-ltb}
use Rattle.std.specs.List.{list_all, slice_split, onto_first}
use Rattle.rb_tree.specs.Path.{is_filled, is_path, is_plain, is_slash}
use Rattle.rb_tree.proofs.Paths.{both_is, both_true}
use Rattle.rb_fallback.specs.inner.PathScan.{AreFollowed, may_end, may_follow}

-- whether segments have bytes, where the first one has some before these if `begun`
abbrev filled_after : Bool → List (List ℕ) → Bool
filled_after begun [] = true
filled_after begun (s ∷ ss) = (begun || is_filled s) && list_all is_filled ss

none_begun : (ss : List (List ℕ)) → filled_after false ss ≡ list_all is_filled ss
none_begun [] = refl
none_begun (s ∷ ss) = refl

has_bytes : (b : ℕ) (s : List ℕ) → is_filled (b ∷ s) ≡ true
has_bytes b s = lt-ltb 0 (length (b ∷ s)) (omega arith)

begun_by : (begun : Bool) (b : ℕ) (ss : List (List ℕ)) → filled_after begun (onto_first b ss) ≡ filled_after true ss
begun_by true b [] = refl
begun_by true b (s ∷ ss) = refl
begun_by false b [] = refl
begun_by false b (s ∷ ss) = ap (λ (x : Bool). x && list_all is_filled ss) (has_bytes b s)

by_byte : (plain slash behind rest : Bool) (b : ℕ) (ss : List (List ℕ))
    → (plain && not (slash && behind)) && (rest && filled_after (not slash) ss)
    ≡ (plain && rest) && filled_after (not behind) (cond slash ([] ∷ ss) (onto_first b ss))
by_byte false slash behind rest b ss = refl
by_byte true true true true b ss = refl
by_byte true true true false b ss = refl
by_byte true true false true b ss = none_begun ss
by_byte true true false false b ss = refl
by_byte true false behind true b ss = sym (begun_by (not behind) b ss)
by_byte true false behind false b ss = refl

at_end : (begun : Bool) → begun ≡ filled_after begun ([] ∷ [])
at_end true = refl
at_end false = refl

ends : (before : ℕ) (bs : List ℕ) → may_end before bs ≡ list_all is_plain bs && filled_after (not (is_slash before)) (slice_split is_slash bs)
ends before [] = at_end (not (is_slash before))
ends before (b ∷ bs) =
    ap (λ (x : Bool). may_follow before b && x) (ends b bs)
    ∙ by_byte (is_plain b) (is_slash b) (is_slash before) (list_all is_plain bs) b (slice_split is_slash bs)

pub path_scan : (path : List ℕ) → path ≢ [] → is_path path ≡ may_end 47 path
path_scan [] h = absurd (h refl)
path_scan (b ∷ bs) h =
    sym (ends 47 (b ∷ bs) ∙ ap (λ (x : Bool). list_all is_plain (b ∷ bs) && x) (none_begun (slice_split is_slash (b ∷ bs))))

-- ---- by pairs
abbrev FollowedIn : List ℕ → ℕ → Type 0
FollowedIn path past = (i : ℕ) → i < past → may_follow (slice_index path i) (slice_index path (suc i)) ≡ true

next_is : (path : List ℕ) (i : ℕ) → may_follow (slice_index path i) (slice_index path (i + 1)) ≡ may_follow (slice_index path i) (slice_index path (suc i))
next_is path i = let e : i + 1 ≡ suc i = omega arith in ap (λ (n : ℕ). may_follow (slice_index path i) (slice_index path n)) e

ends_all : (before b : ℕ) (bs : List ℕ) → may_follow before b ≡ true → FollowedIn (b ∷ bs) (length bs)
    → is_slash (slice_index (b ∷ bs) (length bs)) ≡ false → may_end before (b ∷ bs) ≡ true
ends_all before b [] first each last = both_is _ _ first (ap not last)
ends_all before b (x ∷ bs) first each last =
    both_is _ _ first (ends_all b x bs (each 0 (omega arith)) (λ i h. each (suc i) (omega arith)) last)

followed_in : (before b : ℕ) (bs : List ℕ) → may_end before (b ∷ bs) ≡ true → FollowedIn (b ∷ bs) (length bs)
followed_in before b [] h i l = absurd (omega arith)
followed_in before b (x ∷ bs) h zero l = (both_true _ _ (both_true _ _ h).1).0
followed_in before b (x ∷ bs) h (suc i) l = followed_in b x bs (both_true _ _ h).1 i (omega arith)

was_false : (s : Bool) → not s ≡ true → s ≡ false
was_false true e = absurd cc
was_false false e = refl

last_in : (before b : ℕ) (bs : List ℕ) → may_end before (b ∷ bs) ≡ true → is_slash (slice_index (b ∷ bs) (length bs)) ≡ false
last_in before b [] h = was_false (is_slash b) (both_true _ _ h).1
last_in before b (x ∷ bs) h = last_in b x bs (both_true _ _ h).1

same_test : (r m : Bool) → (r ≡ true → m ≡ true) → (m ≡ true → r ≡ true) → r ≡ m
same_test true m f g = sym (f refl)
same_test false true f g = g refl
same_test false false f g = refl

not_empty : (b : ℕ) (bs : List ℕ) → b ∷ bs ≢ []
not_empty b bs e = omega (arith, ap length e)

but_last : (b : ℕ) (bs : List ℕ) → length (b ∷ bs) - 1 ≡ length bs
but_last b bs = omega arith

pub path_followed : (path : List ℕ) (followed : Bool) → 0 < length path → ((followed ≡ true) ↔ AreFollowed path 0 (length path - 1))
    → (followed && may_follow 47 (slice_index path 0)) && not (is_slash (slice_index path (length path - 1))) ≡ is_path path
path_followed [] followed some each = absurd (omega arith)
path_followed (b ∷ bs) followed some each =
    same_test ((followed && may_follow 47 b) && end) (may_end 47 (b ∷ bs)) there back ∙ sym (path_scan (b ∷ bs) (not_empty b bs))
  where
    end : Bool
    end = not (is_slash (slice_index (b ∷ bs) (length (b ∷ bs) - 1)))

    last : is_slash (slice_index (b ∷ bs) (length (b ∷ bs) - 1)) ≡ is_slash (slice_index (b ∷ bs) (length bs))
    last = ap (λ (n : ℕ). is_slash (slice_index (b ∷ bs) n)) (but_last b bs)

    there : (followed && may_follow 47 b) && end ≡ true → may_end 47 (b ∷ bs) ≡ true
    there h =
        let two = both_true _ _ h in
        let one = both_true _ _ two.0 in
        ends_all 47 b bs one.1 (λ i l. sym (next_is (b ∷ bs) i) ∙ each.0 one.0 i (omega arith) (omega arith)) (sym last ∙ was_false _ two.1)

    back : may_end 47 (b ∷ bs) ≡ true → (followed && may_follow 47 b) && end ≡ true
    back h =
        both_is _ _
        (both_is _ _ (each.1 (λ i l k. next_is (b ∷ bs) i ∙ followed_in 47 b bs h i (omega arith))) (both_true _ _ h).0)
        (ap not (last ∙ last_in 47 b bs h))
