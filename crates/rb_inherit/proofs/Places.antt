-- A place and what is below it: the stacks grow by the place's key and layers, and shrink again.
use Rattle.std.proofs.Common.{◌≡◌, ◌≤◌, ◌++◌, ℕ, List, [], ◌∷◌, length, map, take, drop, refl, sym, ap, subst, ◌∙◌, arith}
use Rattle.std.proofs.Math.Seq.{drop-append_seam, take-append_seam}
use Rattle.std.proofs.lemmas.List.{length-append, length-drop, length-map, length-take-le}
use Rattle.serde_json.specs.Data.{Data}
use Rattle.rb_tree.specs.Resource.{Resource}
use Rattle.rb_tree.specs.declared.node.Node.{Ghosts}
use Rattle.rb_inherit.specs.declared.found.Found.{Found}
use Rattle.rb_inherit.specs.declared.found.Found.TheVariants.{Nothing}
use Rattle.rb_inherit.specs.declared.layer.Layer.{Layer}
use Rattle.rb_inherit.specs.Merged.{Decides, Here, IsAt, Part, longer}
use Rattle.rb_inherit.specs.inner.Earlier.{Adds, here_of, layered_in}
use Rattle.rb_inherit.specs.inner.Merging.{FindsAt, moved, next_parts}
use Rattle.rb_inherit.specs.Merged.{Writes}
use Rattle.rb_inherit.proofs.Earliest.{ends_here}

pub key_len : (keys : List ℕ) (key now : List ℕ) → now ≡ keys ++ 0 ∷ key → length now ≡ longer (length keys) key
key_len keys key now e = ap length e ∙ length-append keys (0 ∷ key)

-- after the return to the place
pub keys_back : (keys key pushed now new : List ℕ) (mark : ℕ) → pushed ≡ keys ++ 0 ∷ key → now ≡ pushed → mark ≡ length keys → new ≡ take mark now → new ≡ keys
keys_back keys key pushed now new mark e same m is =
    is ∙ (ap (λ (n : ℕ). take n now) m ∙ (ap (λ (l : List ℕ). take (length keys) l) (same ∙ e) ∙ take-append_seam keys (0 ∷ key)))

layers_len : {A : Type 0} (f : A → A) (from : ℕ) (old : List A) → from ≤ length old → length (take from old ++ map f (drop from old)) ≡ length old
layers_len f from old le =
    length-append (take from old) (map f (drop from old))
    ∙ omega (arith, length-take-le from old le, length-map (drop from old) f, length-drop from old)

seam_take : {A : Type 0} (front more now : List A) (mark : ℕ) → now ≡ front ++ more → length front ≡ mark → take mark now ≡ front
seam_take front more now mark e len = ap (λ (n : ℕ). take n now) (sym len) ∙ (ap (take (length front)) e ∙ take-append_seam front more)

seam_drop : {A : Type 0} (front more now : List A) (mark : ℕ) → now ≡ front ++ more → length front ≡ mark → drop mark now ≡ more
seam_drop front more now mark e len = ap (λ (n : ℕ). drop n now) (sym len) ∙ (ap (drop (length front)) e ∙ drop-append_seam front more)

pub layers_back : {N : Type 0} {G : Ghosts N} (tree : N → Resource) (used : ℕ) (key : List ℕ) (from mark : ℕ) (old pushed : List (Layer N G)) (found : Found N)
    (now written new : List (Layer N G)) → pushed ≡ old → from ≤ length old → mark ≡ length old → FindsAt tree used key from pushed found now
    → take mark written ≡ take mark now → new ≡ take mark written → new ≡ take from old ++ map (λ l. moved tree key l) (drop from old)
layers_back {N} {G} tree used key from mark old pushed found now written new e le m finds same is =
    let f = subst (λ (l : List (Layer N G)). FindsAt tree used key from l found now) e finds in
    is ∙ (same ∙ seam_take (take from old ++ map (λ l. moved tree key l) (drop from old)) f.more now mark f.layers
    (layers_len (λ l. moved tree key l) from old le ∙ sym m))

pub at_written : {N : Type 0} {G : Ghosts N} (tree : N → Resource) (Takes : List ℕ → Type 0) (Is : ℕ → Here → Data → Type 0) (used longer-used : ℕ) (key : List ℕ)
    (from mark : ℕ) (old pushed : List (Layer N G)) (found : Found N) (now : List (Layer N G)) → pushed ≡ old → from ≤ length old → mark ≡ length old
    → longer-used ≡ longer used key → FindsAt tree longer-used key from pushed found now
    → Writes Takes (Is longer-used (here_of tree found (layered_in tree (drop mark now)))) → Writes Takes (IsAt Is used key (next_parts tree key (drop from old)))
at_written {N} {G} tree Takes Is used longer-used key from mark old pushed found now e le m u finds w =
    let f = subst (λ (l : List (Layer N G)). FindsAt tree longer-used key from l found now) e finds in
    let back : drop mark now ≡ f.more =
    seam_drop (take from old ++ map (λ l. moved tree key l) (drop from old)) f.more now mark f.layers (layers_len (λ l. moved tree key l) from old le ∙ sym m) in
    let h = here_of tree found (layered_in tree f.more) in
    let is : Is longer-used h w.value = subst (λ (l : List (Layer N G)). Is longer-used (here_of tree found (layered_in tree l)) w.value) back w.is in
    record {
      value = w.value;
      takes = w.takes;
      is = (h, (subst (λ (n : ℕ). Decides n (next_parts tree key (drop from old)) h) u f.decides, subst (λ (n : ℕ). Is n h w.value) u is));
    }

-- ---- an item of an array
pub item_back : {N : Type 0} {G : Ghosts N} (tree : N → Resource) (used : ℕ) (p : Part) (mark : ℕ) (old pushed : List (Layer N G)) (found : Found N)
    (now written new : List (Layer N G)) → pushed ≡ old → mark ≡ length old → Adds tree used p Nothing pushed found now
    → take mark written ≡ take mark now → new ≡ take mark written → new ≡ old
item_back {N} {G} tree used p mark old pushed found now written new e m a same is =
    is ∙ (same ∙ seam_take old a.more now mark (a.layers ∙ ap (λ (l : List (Layer N G)). l ++ a.more) e) (sym m))

pub item_written : {N : Type 0} {G : Ghosts N} (tree : N → Resource) (Takes : List ℕ → Type 0) (Is : ℕ → Here → Data → Type 0) (used longer-used : ℕ) (key : List ℕ)
    (p : Part) (mark : ℕ) (old pushed : List (Layer N G)) (found : Found N) (now : List (Layer N G)) → pushed ≡ old → mark ≡ length old
    → longer-used ≡ longer used key → Adds tree longer-used p Nothing pushed found now
    → Writes Takes (Is longer-used (here_of tree found (layered_in tree (drop mark now)))) → Writes Takes (IsAt Is used key (p ∷ []))
item_written {N} {G} tree Takes Is used longer-used key p mark old pushed found now e m u a w =
    let back : drop mark now ≡ a.more = seam_drop old a.more now mark (a.layers ∙ ap (λ (l : List (Layer N G)). l ++ a.more) e) (sym m) in
    let h = here_of tree found (layered_in tree a.more) in
    let is : Is longer-used h w.value = subst (λ (l : List (Layer N G)). Is longer-used (here_of tree found (layered_in tree l)) w.value) back w.is in
    let decides : Decides longer-used (p ∷ []) h = a.ends [] [] h refl (ends_here tree longer-used found (layered_in tree a.more)) in
    record {
      value = w.value;
      takes = w.takes;
      is = (h, (subst (λ (n : ℕ). Decides n (p ∷ []) h) u decides, subst (λ (n : ℕ). Is n h w.value) u is));
    }

pub finds_len : {N : Type 0} {G : Ghosts N} (tree : N → Resource) (used : ℕ) (key : List ℕ) (from mark : ℕ) (old pushed : List (Layer N G)) (found : Found N)
    (now : List (Layer N G)) → pushed ≡ old → from ≤ length old → mark ≡ length old → FindsAt tree used key from pushed found now → mark ≤ length now
finds_len {N} {G} tree used key from mark old pushed found now e le m finds =
    let f = subst (λ (l : List (Layer N G)). FindsAt tree used key from l found now) e finds in
    let front = take from old ++ map (λ l. moved tree key l) (drop from old) in
    omega (arith, ap length f.layers, length-append front f.more, layers_len (λ l. moved tree key l) from old le)

pub adds_len : {N : Type 0} {G : Ghosts N} (tree : N → Resource) (used : ℕ) (p : Part) (mark : ℕ) (old pushed : List (Layer N G)) (found : Found N)
    (now : List (Layer N G)) → pushed ≡ old → mark ≡ length old → Adds tree used p Nothing pushed found now → mark ≤ length now
adds_len tree used p mark old pushed found now e m a =
    omega (arith, ap length a.layers, length-append pushed a.more, ap length e)
