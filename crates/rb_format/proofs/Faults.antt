-- The fault of keys and of items, one at a time.
use Rattle.std.proofs.Common.{◌≡◌, ℕ, zero, suc, ◌-◌, ◌<◌, Bool, true, cond, List, []}
use Rattle.std.proofs.Common.{◌∷◌, length, Result, Ok, Err, Option, Some, None, refl, sym, ap, subst, ◌∙◌, arith}
use Rattle.rb_format.specs.declared.fault.FileFault.{FileFault}
use Rattle.rb_format.specs.declared.fault.FileFault.TheVariants.{TooDeep, ItemType}
use Rattle.rb_format.specs.declared.kind.ItemKind.{ItemKind}
use Rattle.rb_format.specs.declared.layout.Layout.{Layout}
use Rattle.rb_tree.specs.Resource.{Resource, tree_and, entry_and}
use Rattle.rb_format.specs.inner.FirstFault.{◌>>=◌, fault_of, next_key, keys, trees, members, read, node, value, kind_or_fault, within, contents}
use Rattle.rb_format.specs.Item.{kind_of, offset_of, bare}
use Rattle.rb_format.proofs.Steps.{bind_ok, then_ok, ok_is, fault_then, fault_first}

-- whether the rest of a reading has no more to say
pub fault_last : {A B : Type 0} (r : Result A FileFault) (f : A → B) → fault_of (r >>= λ x. Ok (f x)) ≡ fault_of r
fault_last (Ok x) f = refl
fault_last (Err d) f = refl

both_same : {A B C : Type 0} (r : Result A FileFault) (f : A → Result B FileFault) (g : A → Result C FileFault) → ((x : A) → fault_of (f x) ≡ fault_of (g x))
    → fault_of (r >>= f) ≡ fault_of (r >>= g)
both_same (Ok x) f g h = h x
both_same (Err d) f g h = refl

pub keys_on : (y : Layout) (body : List ℕ) (place : ℕ → ℕ) (last : List ℕ) (i n j m : ℕ) (k : List ℕ) (r : Option FileFault) → n ≡ suc m → j ≡ suc i
    → next_key y body last (place i) ≡ Ok k → fault_of (keys y body place last i n) ≡ r → fault_of (keys y body place k j m) ≡ r
unfolding keys
keys_on y body place last i n j m k r e f g h =
    let whole : fault_of (keys y body place last i (suc m)) ≡ r = subst (λ (x : ℕ). fault_of (keys y body place last i x) ≡ r) e h in
    let next : fault_of (keys y body place last i (suc m)) ≡ fault_of (keys y body place k (suc i) m) = fault_then (next_key y body last (place i))
    (λ k. keys y body place k (suc i) m >>= λ ks. Ok (k ∷ ks)) _ (ap fault_of g)
    (λ x p. rw (ok_is x k (sym p ∙ g)) (fault_last (keys y body place k (suc i) m) (λ ks. k ∷ ks))) in
    subst (λ (x : ℕ). fault_of (keys y body place k x m) ≡ r) (sym f) (sym next ∙ whole)

pub keys_stop : (y : Layout) (body : List ℕ) (place : ℕ → ℕ) (last : List ℕ) (i n m : ℕ) (d : FileFault) (r : Option FileFault) → n ≡ suc m
    → next_key y body last (place i) ≡ Err d → fault_of (keys y body place last i n) ≡ r → Some d ≡ r
unfolding keys
keys_stop y body place last i n m d r e g h =
    let whole : fault_of (keys y body place last i (suc m)) ≡ r = subst (λ (x : ℕ). fault_of (keys y body place last i x) ≡ r) e h in
    sym (fault_first (next_key y body last (place i)) (λ k. keys y body place k (suc i) m >>= λ ks. Ok (k ∷ ks)) d (ap fault_of g)) ∙ whole

pub keys_end : (y : Layout) (body : List ℕ) (place : ℕ → ℕ) (last : List ℕ) (i n : ℕ) (r : Option FileFault) → n ≡ 0
    → fault_of (keys y body place last i n) ≡ r → None ≡ r
unfolding keys
keys_end y body place last i n r e h = subst (λ (x : ℕ). fault_of (keys y body place last i x) ≡ r) e h

-- as many keys as were asked for
pub keys_count : (y : Layout) (body : List ℕ) (place : ℕ → ℕ) (last : List ℕ) (i n : ℕ) (ks : List (List ℕ)) → keys y body place last i n ≡ Ok ks
    → length ks ≡ n
unfolding keys
keys_count y body place last i zero ks e = ap length (sym (ok_is [] ks e))
keys_count y body place last i (suc n) ks e =
    let a = bind_ok (next_key y body last (place i)) (λ k. keys y body place k (suc i) n >>= λ ks. Ok (k ∷ ks)) ks e in
    let b = bind_ok (keys y body place a.0 (suc i) n) (λ ks. Ok (a.0 ∷ ks)) ks a.2 in
    ap length (sym (ok_is (a.0 ∷ b.0) ks b.2)) ∙ ap suc (keys_count y body place a.0 (suc i) n b.0 b.1)

-- the entries of a table have the fault that its items have
pub members_fault : (child : ℕ → Result Resource FileFault) (item : ℕ → ℕ) (i : ℕ) (ks : List (List ℕ))
    → fault_of (members child item i ks) ≡ fault_of (trees child item i (length ks))
unfolding members trees
members_fault child item i [] = refl
members_fault child item i (k ∷ ks) = both_same (child (item i)) (λ t. members child item (suc i) ks >>= λ es. Ok (entry_and k t es))
    (λ t. trees child item (suc i) (length ks) >>= λ ts. Ok (tree_and t ts))
    (λ x. fault_last (members child item (suc i) ks) (entry_and k x) ∙ members_fault child item (suc i) ks
    ∙ sym (fault_last (trees child item (suc i) (length ks)) (tree_and x)))

-- ---- an item, a step at a time

pub read_zero : (y : Layout) (body : List ℕ) (d item : ℕ) → d ≡ 0 → read y body d item ≡ Err TooDeep
unfolding read
read_zero y body d item e = rw e refl

read_more : (y : Layout) (body : List ℕ) (d item : ℕ) → 0 < d → read y body d item ≡ node y body (λ w. read y body (d - 1) w) item
unfolding read
read_more y body zero item h = absurd (omega arith)
read_more y body (suc d) item h = let e : suc d - 1 ≡ d = omega arith in rw e refl

pub read_kind : (y : Layout) (body : List ℕ) (d item : ℕ) (k : ItemKind) → 0 < d → kind_of item ≡ Some k
    → read y body d item ≡ value y body (λ w. read y body (d - 1) w) (offset_of item) k
unfolding node
read_kind y body d item k h e = read_more y body d item h
    ∙ then_ok (kind_or_fault (kind_of item)) k (λ k. value y body (λ w. read y body (d - 1) w) (offset_of item) k) (ap kind_or_fault e)

pub read_no_kind : (y : Layout) (body : List ℕ) (d item : ℕ) → 0 < d → kind_of item ≡ None → read y body d item ≡ Err ItemType
unfolding node
read_no_kind y body d item h e = read_more y body d item h
    ∙ ap (λ (o : Option ItemKind). kind_or_fault o >>= λ k. value y body (λ w. read y body (d - 1) w) (offset_of item) k) e

-- ---- data that are there

pub value_there : (y : Layout) (body : List ℕ) (child : ℕ → Result Resource FileFault) (o : ℕ) (k : ItemKind) (b : Bool) → within y k o ≡ Ok b → b ≡ true
    → value y body child o k ≡ contents y body child o k
unfolding value
value_there y body child o k b e f = then_ok (within y k o) b (λ there. cond there (contents y body child o k) (Ok (bare k o))) e
    ∙ ap (λ (x : Bool). cond x (contents y body child o k) (Ok (bare k o))) f
