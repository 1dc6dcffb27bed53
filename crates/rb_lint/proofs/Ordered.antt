-- Proves that ordered warnings stay ordered with a later one at the end.
use Rattle.std.proofs.Common.{◌≡◌, ℕ, ◌≤◌, List, [], ◌∷◌, ◌++◌, All, Some, arith}
use Rattle.std.proofs.lemmas.List.Elements.{All-nil, All-cons, All-append, All-head, All-tail, All-push, All-pop, All-weaker}
use Rattle.rb_lint.specs.Warnings.{AreInOrder, AreWithin}

pub order_more : {A : Type 0} (line : A → ℕ) (ws : List A) (w : A) → AreInOrder line ws → All (λ v. line v ≤ line w) ws → AreInOrder line (ws ++ w ∷ [])
order_more line [] w o a = (All-nil (λ v. line w ≤ line v), tt)
order_more {A} line (x ∷ xs) w o a =
    let P : A → Type 0 = λ v. line x ≤ line v in
    let Q : A → Type 0 = λ v. line v ≤ line w in
    (All-append P xs (w ∷ []) o.0 (All-cons P w [] (All-head Q x xs a) (All-nil P)), order_more line xs w o.1 (All-tail Q x xs a))

-- kind the loop that puts warnings in order keeps, with one more at the end, at a line n
pub one_more : {A : Type 0} (line : A → ℕ) (lines last n : ℕ) (ws us : List A) (w : A) → us ≡ ws ++ w ∷ [] → n ≡ line w → AreInOrder line ws → AreWithin lines line ws
    → All (λ v. line v ≤ last) ws → 1 ≤ last → last ≤ n → n ≤ lines
    → AreInOrder line us × AreWithin lines line us × All (λ v. line v ≤ n) us
one_more {A} line lines last n ws us w e at o a b first after inside =
    let Q : A → Type 0 = λ v. line v ≤ line w in
    let P : A → Type 0 = λ v. (1 ≤ line v) × (line v ≤ lines) in
    let R : A → Type 0 = λ v. line v ≤ n in
    let b' : All Q ws = All-weaker (λ v. line v ≤ last) Q (λ v h. omega arith) ws b in
    let r : All R ws = All-weaker (λ v. line v ≤ last) R (λ v h. omega arith) ws b in
    let one : 1 ≤ line w = omega arith in
    let inner : line w ≤ lines = omega arith in
    let self : line w ≤ n = omega arith in
    rw e (order_more line ws w o b', All-push P ws w a (one, inner), All-push R ws w r self)

-- If each element of one list has a property only where those of another one have theirs, so it is with one more at the end of each.
pub all_more : {A B : Type 0} (P : A → Type 0) (Q : B → Type 0) (fs us : List A) (f : A) (ys : List B) (y : B) → us ≡ fs ++ f ∷ [] → (All P fs → All Q ys)
    → (P f → Q y) → All P us → All Q (ys ++ y ∷ [])
all_more P Q fs us f ys y e before here h =
    let p = All-pop P us fs (Some f) e h in
    All-push Q ys y (before p.0) (here p.1)
