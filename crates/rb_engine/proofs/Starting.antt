-- Proves that the entries of ICUDATA are loaded one by one.
use Rattle.std.proofs.Common.{◌≡◌, ◌<◌, ℕ, ◌+◌, false, Err, length, arith, List, [], ◌∷◌, ◌++◌, map, refl, sym, ◌∙◌, ap, subst}
use Rattle.std.proofs.Common.{length-append}
use Rattle.std.proofs.lemmas.List.{length-map}
use Rattle.rb_tree.specs.SourceTree.{SourceTree}
use Rattle.rb_packages.specs.Shelf.{Shelf, holds}
use Rattle.rb_engine.specs.Start.{Entries, HasBundle, Loads, IsReached, IsRefused, IsIndexed}
use Rattle.rb_engine.specs.Source.{Adds}
use Rattle.rb_engine.specs.declared.request.Payload.TheVariants.{Text, File}
use Rattle.rb_engine.specs.declared.start.StartFault.{StartFault}
use Rattle.rb_engine.specs.declared.start.StartFault.TheVariants.{BadText, BadFile, Twice, Memory}
use Rattle.rb_engine.specs.declared.request.Payload.{Payload}

-- one more entry
pub loads_push : (old : Shelf) (es : Entries) (mid new : Shelf) (name : List ℕ) (payload : Payload) (source : SourceTree) → Loads old es mid
    → HasBundle payload source → holds name mid ≡ false → new ≡ mid ++ (name, source) ∷ [] → Loads old (es ++ (name, payload) ∷ []) new
loads_push old [] mid new name payload source h k free e = (source, k, subst (λ s. holds name s ≡ false) h free, e ∙ ap (λ s. s ++ (name, source) ∷ []) h)
loads_push old (e ∷ es) mid new name payload source h k free q =
    (h.0, h.1, h.2, loads_push (old ++ (e.0, h.0) ∷ []) es mid new name payload source h.3 k free q)

pub map_push : {A : Type 0} (xs : List (ℕ × A)) (i : ℕ) (x : A) → map (λ e. e.1) (xs ++ (i, x) ∷ []) ≡ map (λ e. e.1) xs ++ x ∷ []
map_push [] i x = refl
map_push (e ∷ es) i x = ap (λ l. e.1 ∷ l) (map_push es i x)

split_next : {A : Type 0} (xs : List (ℕ × A)) (i : ℕ) (x : A) (rest : List A) → map (λ e. e.1) xs ++ x ∷ rest ≡ map (λ e. e.1) (xs ++ (i, x) ∷ []) ++ rest
split_next [] i x rest = refl
split_next (e ∷ es) i x rest = ap (λ l. e.1 ∷ l) (split_next es i x rest)

-- the entries are those that were taken and the rest
pub split_push : {A : Type 0} (all : List A) (xs : List (ℕ × A)) (i : ℕ) (x : A) (old new : List A) → all ≡ map (λ e. e.1) xs ++ old → old ≡ x ∷ new
    → all ≡ map (λ e. e.1) (xs ++ (i, x) ∷ []) ++ new
split_push all xs i x old new h k = h ∙ ap (λ l. map (λ e. e.1) xs ++ l) k ∙ split_next xs i x new

pub count_push : {A : Type 0} (xs : List A) (x : A) (n m : ℕ) → length xs ≡ n → m ≡ n + 1 → length (xs ++ x ∷ []) ≡ m
count_push xs x n m h k = simp length-append (omega (arith, h, k))

-- an entry that isn't added
pub reached : (entries : Entries) (before : List (ℕ × (List ℕ × Payload))) (index : ℕ) (name : List ℕ) (payload : Payload) (after : Entries)
    (shelf : Shelf) → entries ≡ map (λ e. e.1) before ++ (name, payload) ∷ after → length before ≡ index
    → Loads [] (map (λ e. e.1) before) shelf → IsReached entries index name payload shelf
reached entries before index name payload after shelf split count loaded =
    record { before = map (λ e. e.1) before; after = after; split = split; count = length-map before _ ∙ count; loaded = loaded }

pub refused : (entries : Entries) (index : ℕ) (name : List ℕ) (payload : Payload) (shelf new : Shelf) (e : StartFault)
    → IsReached entries index name payload shelf → Adds index name payload shelf (Err e) new → IsRefused entries e
refused entries index name (Text text) shelf new (BadText i) r a =
    (name, text, shelf, subst (λ j. IsReached entries j name (Text text) shelf) (sym a.0) r, a.1)
refused entries index name (File file) shelf new (BadText i) r a = absurd a
refused entries index name (Text text) shelf new (BadFile i) r a = absurd a
refused entries index name (File file) shelf new (BadFile i) r a =
    (name, file, shelf, subst (λ j. IsReached entries j name (File file) shelf) (sym a.0) r, a.1)
refused entries index name payload shelf new (Twice i) r a =
    (name, payload, a.1, shelf, subst (λ j. IsReached entries j name payload shelf) (sym a.0) r, a.2, a.3)
refused entries index name payload shelf new Memory r a = tt

-- ---- the index of a refused entry

below : {A : Type 0} (before : List A) (x : A) (after : List A) → length before < length (before ++ x ∷ after)
below before x after = simp length-append (omega arith)

reached_below : (entries : Entries) (at : ℕ) (name : List ℕ) (payload : Payload) (shelf : Shelf) → IsReached entries at name payload shelf → at < length entries
reached_below entries at name payload shelf r =
    subst (λ n. n < length entries) r.count (subst (λ es. length r.before < length es) (sym r.split) (below r.before (name, payload) r.after))

pub refused_below : (entries : Entries) (e : StartFault) → IsRefused entries e → IsIndexed (length entries) e
refused_below entries (BadText i) h = reached_below entries i h.0 (Text h.1) h.2 h.3
refused_below entries (BadFile i) h = reached_below entries i h.0 (File h.1) h.2 h.3
refused_below entries (Twice i) h = reached_below entries i h.0 h.1 h.3 h.4
refused_below entries Memory h = tt
