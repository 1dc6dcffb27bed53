-- The stops of a trail, asked in their order for what they have at a path.
use Rattle.std.proofs.Common.{◌≡◌, ◌<◌, ◌≤◌, ◌+◌, ◌++◌, ℕ, suc, List, [], ◌∷◌, Bool, true, false, length, take, drop, map, nat_lt, Option, Some, None, refl, ap, sym, ◌∙◌, subst, arith, append_assoc, append-nil, length-append}
use Rattle.std.proofs.Common.{get_or, drop-cons, add-one, take-append-drop}
use Rattle.std.proofs.lemmas.List.{map-append, take_all, take_more}
use Rattle.rb_tree.specs.Resource.{Resource, alias}
use Rattle.rb_tree.specs.Parts.{kind_of}
use Rattle.rb_tree.specs.Walk.{Walked, ends, links, gone, walk}
use Rattle.rb_tree.specs.declared.node.Node.{Ghosts}
use Rattle.rb_fallback.specs.declared.fault.LookError.TheVariants as look
use Rattle.rb_inherit.specs.declared.found.Found.{Found}
use Rattle.rb_inherit.specs.declared.found.Found.TheVariants.{Nothing, Tables}
use Rattle.rb_inherit.specs.declared.follow.Link.{Link}
use Rattle.rb_inherit.specs.declared.layer.Layer.{Layer}
use Rattle.rb_inherit.specs.declared.place.Level.{Level}
use Rattle.rb_inherit.specs.declared.place.Place.{Place}
use Rattle.rb_inherit.specs.Merged.{Decides, Here, Layered, Part, alias_fault, ended}
use Rattle.rb_inherit.specs.inner.AtPath.{AddsAll, AddsSome, AddsStops, AddsUpTo, CanAdd, RefusesAfter, parts_in, path_in}
use Rattle.rb_inherit.specs.inner.Paths.{AreFilled, IsLink, steps_of}
use Rattle.rb_inherit.specs.inner.Earlier.{Adds, BeginsEmpty, Ends, Grows, Refuses, Stays, and_error, closed_of, here_of, is_open_of, layered_in, layered_of, part_of}
use Rattle.rb_inherit.proofs.Earliest.{alias_adds, decided_closed, ends_here}

-- ---- several stops
begins_nil : {N : Type 0} (f : Found N) (ls : List Layered) → BeginsEmpty f ls → BeginsEmpty f (ls ++ [])
begins_nil f ls h = rw (append-nil ls) h

pub all_none : {N : Type 0} {G : Ghosts N} (tree : N → Resource) (used : ℕ) (f : Found N) (old : List (Layer N G)) → AddsAll tree used [] f old f old
all_none tree used f old = record {
  more = [];
  layers = sym (append-nil old);
  begins = λ ls e. begins_nil f ls e;
  decided = λ h. absurd (omega arith);
  ends = λ ls qs h e x. subst (λ (l : List Layered). Ends tree used f l qs h) (append-nil ls) x;
}

mapped : {N : Type 0} {G : Ghosts N} (tree : N → Resource) (ls : List Layered) (a b : List (Layer N G))
    → ls ++ layered_in tree (a ++ b) ≡ (ls ++ layered_in tree a) ++ layered_in tree b
mapped tree ls a b =
    ap (λ (l : List Layered). ls ++ l) (map-append (λ m. layered_of tree m) a b) ∙ sym (append_assoc ls (layered_in tree a) (layered_in tree b))

pub all_more : {N : Type 0} {G : Ghosts N} (tree : N → Resource) (used : ℕ) (ps : List Part) (p : Part) (before mid after : Found N)
    (old now new : List (Layer N G)) → AddsAll tree used ps before old mid now → Adds tree used p mid now after new
    → AddsAll tree used (ps ++ p ∷ []) before old after new
all_more tree used ps p before mid after old now new a b = record {
  more = a.more ++ b.more;
  layers = b.layers ∙ (ap (λ (l : List (Layer _ _)). l ++ b.more) a.layers ∙ append_assoc old a.more b.more);
  begins = λ ls e. b.decided (ls ++ layered_in tree (a.more ++ b.more));
  decided = λ h. b.decided;
  ends = λ ls qs h e x.
      rw (append_assoc ps (p ∷ []) qs)
      (a.ends ls (p ∷ qs) h e
      (b.ends (ls ++ layered_in tree a.more) qs h (a.begins ls e)
      (subst (λ (l : List Layered). Ends tree used after l qs h) (mapped tree ls a.more b.more) x)));
}

ends_closed : {N : Type 0} (tree : N → Resource) (used : ℕ) (f : Found N) (ls : List Layered) (ps qs : List Part) (h : Here)
    → is_open_of f ≡ false → Ends tree used f ls ps h → Ends tree used f ls qs h
ends_closed tree used Nothing ls ps qs h o x = absurd cc
ends_closed tree used (Tables true) ls ps qs h o x = absurd cc
ends_closed tree used _ ls ps qs h o x = x

-- one that is final hides the rest
pub all_closed : {N : Type 0} {G : Ghosts N} (tree : N → Resource) (used : ℕ) (ps others : List Part) (before after : Found N)
    (old new : List (Layer N G)) → AddsAll tree used ps before old after new → is_open_of after ≡ false
    → AddsAll tree used (ps ++ others) before old after new
all_closed tree used ps others before after old new a o = record {
  more = a.more;
  layers = a.layers;
  begins = a.begins;
  decided = λ h ls. decided_closed after o ls;
  ends = λ ls qs h e x.
      rw (append_assoc ps others qs)
      (a.ends ls (others ++ qs) h e (ends_closed tree used after (ls ++ layered_in tree a.more) qs (others ++ qs) h o x));
}

pub some_all : {N : Type 0} {G : Ghosts N} (tree : N → Resource) (used : ℕ) (ps : List Part) (before after : Found N) (old new : List (Layer N G))
    → 0 < length ps → AddsAll tree used ps before old after new → AddsSome tree used ps before old after new
some_all tree used [] before after old new h a = absurd (omega arith)
some_all tree used (p ∷ ps) before after old new h a = a

pub some_none : {N : Type 0} {G : Ghosts N} (tree : N → Resource) (used : ℕ) (ps : List Part) (before after : Found N) (old new : List (Layer N G))
    → ps ≡ [] → after ≡ and_error before look.Missing → new ≡ old → AddsSome tree used ps before old after new
some_none tree used [] before after old new h f l = record { found = f; layers = l }
some_none tree used (p ∷ ps) before after old new h f l = absurd cc

-- ---- the stops one by one
pub parts_append : (most : ℕ) (ts us : List Resource) (ss : List (List ℕ)) → parts_in most (ts ++ us) ss ≡ parts_in most ts ss ++ parts_in most us ss
parts_append most [] us ss = refl
parts_append most (t ∷ ts) us ss =
    ap (λ (l : List Part). ended most (walk t ss) ++ l) (parts_append most ts us ss)
    ∙ sym (append_assoc (ended most (walk t ss)) (parts_in most ts ss) (parts_in most us ss))

module _ {N : Type 0} (tree : N → Resource) (most : ℕ) (ss : List (List ℕ)) where
  -- what the stops of these roots have
  abbrev pub parts_at : List N → List Part
  parts_at roots = parts_in most (map tree roots) ss

  parts_on : (a b : List N) → parts_at (a ++ b) ≡ parts_at a ++ parts_at b
  parts_on a b = ap (λ ts. parts_in most ts ss) (map-append tree a b) ∙ parts_append most (map tree a) (map tree b) ss

  pub parts_more : (roots : List N) (i : ℕ) (root : N) → i < length roots → root ≡ get_or roots i root
      → parts_at (take (i + 1) roots) ≡ parts_at (take i roots) ++ ended most (walk (tree root) ss)
  parts_more roots i root h e =
      ap parts_at (take_more roots i root h)
      ∙ ap (λ (r : N). parts_at (take i roots ++ r ∷ [])) (sym e)
      ∙ parts_on (take i roots) (root ∷ [])
      ∙ ap (λ (l : List Part). parts_at (take i roots) ++ l) (append-nil (ended most (walk (tree root) ss)))

  pub parts_split : (roots : List N) (i : ℕ) (root : N) → i < length roots → root ≡ get_or roots i root
      → parts_at roots ≡ parts_at (take i roots) ++ (ended most (walk (tree root) ss) ++ parts_at (drop (i + 1) roots))
  parts_split roots i root h e =
      let rest : drop i roots ≡ root ∷ drop (i + 1) roots =
      drop-cons roots i root h ∙ ap (λ (r : N). r ∷ drop (suc i) roots) (sym e) ∙ ap (λ (k : ℕ). root ∷ drop k roots) (sym (add-one i)) in
      ap parts_at (sym (take-append-drop i roots) ∙ ap (λ (l : List N). take i roots ++ l) rest)
      ∙ parts_on (take i roots) (root ∷ drop (i + 1) roots)

-- the stops up to an index were asked, and nothing is final
pub record Asked {N : Type 0} {G : Ghosts N} (tree : N → Resource) (used most : ℕ) (ss : List (List ℕ)) (roots : List N) (before : Found N)
    (old : List (Layer N G)) (i : ℕ) (found : Found N) (is_missing : Bool) (now : List (Layer N G)) : Type 0 where
  pub adds : AddsAll tree used (parts_at tree most ss (take i roots)) before old found now
  pub is_open : is_open_of found ≡ true
  pub none : is_missing ≡ true → (parts_at tree most ss (take i roots) ≡ []) × ((found ≡ before) × (now ≡ old))
  pub some : is_missing ≡ false → 0 < length (parts_at tree most ss (take i roots))

module _ {N : Type 0} {G : Ghosts N} (tree : N → Resource) (used most : ℕ) (ss : List (List ℕ)) (roots : List N) (before : Found N)
    (old : List (Layer N G)) where
  abbrev Asks : ℕ → Found N → Bool → List (Layer N G) → Type 0
  Asks i found is_missing now = Asked tree used most ss roots before old i found is_missing now

  parts_to : ℕ → List Part
  parts_to i = parts_at tree most ss (take i roots)

  pub asked_first : is_open_of before ≡ true → Asks 0 before true old
  asked_first o = record { adds = all_none tree used before old; is_open = o; none = λ e. (refl, (refl, refl)); some = λ e. absurd cc }

  -- one that has nothing there
  pub asked_gone : (i : ℕ) (root : N) (found : Found N) (m : Bool) (now : List (Layer N G)) → Asks i found m now → i < length roots
      → root ≡ get_or roots i root → walk (tree root) ss ≡ gone → Asks (i + 1) found m now
  asked_gone i root found m now a h e w =
      let same : parts_at tree most ss (take (i + 1) roots) ≡ parts_at tree most ss (take i roots) =
      parts_more tree most ss roots i root h e ∙ ap (λ (x : Walked). parts_at tree most ss (take i roots) ++ ended most x) w
      ∙ append-nil (parts_at tree most ss (take i roots)) in
      record { adds = rw same a.adds; is_open = a.is_open; none = λ t. (same ∙ (a.none t).0, (a.none t).1); some = λ f. rw same (a.some f) }

  -- one that has an item there
  adds_item : (i : ℕ) (root node : N) (level : Level) (found next : Found N) (m : Bool) (now new : List (Layer N G)) → Asks i found m now → i < length roots
      → root ≡ get_or roots i root → walk (tree root) ss ≡ ends (tree node) → level.keys_most ≡ most
      → Adds tree used (part_of tree node level) found now next new
      → AddsAll tree used (parts_at tree most ss (take (i + 1) roots)) before old next new
  adds_item i root node level found next m now new a h e w l b =
      let p : Part = record { tree = tree node; most = most } in
      let more : parts_at tree most ss (take (i + 1) roots) ≡ parts_at tree most ss (take i roots) ++ p ∷ [] =
      parts_more tree most ss roots i root h e ∙ ap (λ (x : Walked). parts_at tree most ss (take i roots) ++ ended most x) w in
      let one : Adds tree used p found now next new =
      subst (λ (k : ℕ). Adds tree used (record { tree = tree node; most = k }) found now next new) l b in
      rw more (all_more tree used (parts_at tree most ss (take i roots)) p before found next old now new a.adds one)

  pub asked_item : (i : ℕ) (root node : N) (level : Level) (found next : Found N) (m : Bool) (now new : List (Layer N G)) → Asks i found m now
      → i < length roots → root ≡ get_or roots i root → walk (tree root) ss ≡ ends (tree node) → level.keys_most ≡ most
      → Adds tree used (part_of tree node level) found now next new → is_open_of next ≡ true → Asks (i + 1) next false new
  asked_item i root node level found next m now new a h e w l b o =
      let more : parts_at tree most ss (take (i + 1) roots)
      ≡ parts_at tree most ss (take i roots) ++ record { tree = tree node; most = most } ∷ [] =
      parts_more tree most ss roots i root h e ∙ ap (λ (x : Walked). parts_at tree most ss (take i roots) ++ ended most x) w in
      record {
        adds = adds_item i root node level found next m now new a h e w l b;
        is_open = o;
        none = λ t. absurd cc;
        some = λ f. rw more (omega (arith, length-append (parts_at tree most ss (take i roots)) (record { tree = tree node; most = most } ∷ [])));
      }

  -- one that has the last item that counts
  pub asked_last : (i : ℕ) (root node : N) (level : Level) (found next : Found N) (m : Bool) (now new : List (Layer N G)) → Asks i found m now
      → i < length roots → root ≡ get_or roots i root → walk (tree root) ss ≡ ends (tree node) → level.keys_most ≡ most
      → Adds tree used (part_of tree node level) found now next new → is_open_of next ≡ false
      → AddsSome tree used (parts_at tree most ss roots) before old next new
  asked_last i root node level found next m now new a h e w l b o =
      let p : Part = record { tree = tree node; most = most } in
      let front = parts_at tree most ss (take i roots) in
      let others = parts_at tree most ss (drop (i + 1) roots) in
      let whole : parts_at tree most ss roots ≡ front ++ p ∷ others =
      parts_split tree most ss roots i root h e ∙ ap (λ (x : Walked). front ++ (ended most x ++ others)) w in
      let more : parts_at tree most ss (take (i + 1) roots) ≡ front ++ p ∷ [] =
      parts_more tree most ss roots i root h e ∙ ap (λ (x : Walked). front ++ ended most x) w in
      let joined : parts_at tree most ss (take (i + 1) roots) ++ others ≡ parts_at tree most ss roots =
      ap (λ (x : List Part). x ++ others) more ∙ append_assoc front (p ∷ []) others ∙ sym whole in
      let all : AddsAll tree used (parts_at tree most ss roots) before old next new =
      rw joined at (all_closed tree used (parts_at tree most ss (take (i + 1) roots)) others before next old new
      (adds_item i root node level found next m now new a h e w l b) o) in
      some_all tree used (parts_at tree most ss roots) before next old new
      (rw whole (omega (arith, length-append front (p ∷ others)))) all

  -- one that has an alias on the way
  pub asked_link : (i : ℕ) (root : N) (link : Link N) (found : Found N) (m : Bool) (now : List (Layer N G)) (us : List ℕ) (walked rest : List (List ℕ))
      → Asks i found m now → i < length roots → root ≡ get_or roots i root → walk (tree root) ss ≡ links us walked rest → tree link.node ≡ alias us
      → link.level.keys_most ≡ most → nat_lt most used ≡ false
      → AddsUpTo tree used (parts_at tree most ss roots) before old found link now
  asked_link i root link found m now us walked rest a h e w t l short =
      let front = parts_at tree most ss (take i roots) in
      let others = parts_at tree most ss (drop (i + 1) roots) in
      record {
        asked = front;
        others = others;
        split = parts_split tree most ss roots i root h e ∙ ap (λ (x : Walked). front ++ (ended most x ++ others)) w
            ∙ ap (λ (x : Resource). front ++ record { tree = x; most = most } ∷ others) (sym t)
            ∙ ap (λ (k : ℕ). front ++ record { tree = tree link.node; most = k } ∷ others) (sym l);
        alias = ap kind_of t;
        short = rw l short;
        is_open = a.is_open;
        adds = a.adds;
      }

  -- all of them
  pub asked_all : (i : ℕ) (found : Found N) (now : List (Layer N G)) → Asks i found false now → length roots ≤ i
      → AddsSome tree used (parts_at tree most ss roots) before old found now
  asked_all i found now a h =
      let same : take i roots ≡ roots = take_all i roots h in
      some_all tree used (parts_at tree most ss roots) before found old now (rw same at (a.some refl)) (rw same at a.adds)

  pub asked_missing : (i : ℕ) (found after : Found N) (now : List (Layer N G)) → Asks i found true now → length roots ≤ i
      → after ≡ and_error found look.Missing → AddsSome tree used (parts_at tree most ss roots) before old after now
  asked_missing i found after now a h e =
      let same : take i roots ≡ roots = take_all i roots h in
      let none = a.none refl in
      some_none tree used (parts_at tree most ss roots) before after old now (rw same at none.0)
      (e ∙ ap (λ (f : Found N). and_error f look.Missing) none.1.0) none.1.1

-- ---- the whole of a path
-- what was found decides
all_decides : {N : Type 0} {G : Ghosts N} (tree : N → Resource) (used : ℕ) (ps : List Part) (found : Found N) (new : List (Layer N G))
    → AddsAll tree used ps Nothing [] found new → Decides used ps (here_of tree found (layered_in tree new))
all_decides tree used ps found new a =
    let h = here_of tree found (layered_in tree a.more) in
    let all : Decides used (ps ++ []) h = a.ends [] [] h refl (ends_here tree used found (layered_in tree a.more)) in
    subst (λ (l : List (Layer _ _)). Decides used ps (here_of tree found (layered_in tree l))) (sym a.layers) (rw (append-nil ps) at all)

closed_here : {N : Type 0} (tree : N → Resource) (f : Found N) (ls : List Layered) → ((l : List Layered) → BeginsEmpty f l)
    → here_of tree (closed_of f) ls ≡ here_of tree f ls
closed_here tree Nothing ls b = absurd (let e = b (record { entries = []; most = 0 } ∷ []) in cc)
closed_here tree _ ls b = refl

open_decides : {N : Type 0} {G : Ghosts N} (tree : N → Resource) (used : ℕ) (ps : List Part) (found : Found N) (new : List (Layer N G)) → 0 < length ps
    → AddsSome tree used ps Nothing [] found new → Decides used ps (here_of tree (closed_of found) (layered_in tree new))
open_decides tree used [] found new h a = absurd (omega arith)
open_decides tree used (p ∷ ps) found new h a =
    rw (closed_here tree found (layered_in tree new) (a.decided h)) (all_decides tree used (p ∷ ps) found new a)

linked_decides : {N : Type 0} {G : Ghosts N} (tree : N → Resource) (used : ℕ) (ps : List Part) (found after : Found N) (link : Link N)
    (now new : List (Layer N G)) → AddsUpTo tree used ps Nothing [] found link now → Stays found after → is_open_of after ≡ false → Grows now new
    → Refuses (alias_fault (tree link.node)) found now after new → Decides used ps (here_of tree after (layered_in tree new))
linked_decides tree used ps found after link now new a s c g r =
    let p = part_of tree link.node link.level in
    let one : Adds tree used p found now after new = alias_adds tree used link.node link.level found now after new a.short a.alias a.is_open c s g r in
    let all = all_closed tree used (a.asked ++ p ∷ []) a.others Nothing after [] new
    (all_more tree used a.asked p Nothing found after [] now new a.adds one) c in
    let same : (a.asked ++ p ∷ []) ++ a.others ≡ ps = append_assoc a.asked (p ∷ []) a.others ∙ sym a.split in
    all_decides tree used ps after new (subst (λ l. AddsAll tree used l Nothing [] after new) same all)

-- what the stops have decides, followed by what an alias leads to
pub stops_decide : {N : Type 0} {G : Ghosts N} (tree : N → Resource) (used : ℕ) (ps : List Part) (found after : Found N) (o : Option (Link N))
    (now new : List (Layer N G)) → 0 < length ps → AddsStops tree used ps Nothing [] found o now → Stays found after → is_open_of after ≡ false
    → Grows now new → (o ≡ None → after ≡ closed_of found) → (o ≡ None → new ≡ now)
    → RefusesAfter tree o found now after new → Decides used ps (here_of tree after (layered_in tree new))
stops_decide {N} {G} tree used ps found after None now new h a s c g f l r =
    subst (λ (x : Found N). Decides used ps (here_of tree x (layered_in tree new))) (sym (f refl))
    (subst (λ (y : List (Layer N G)). Decides used ps (here_of tree (closed_of found) (layered_in tree y))) (sym (l refl))
    (open_decides tree used ps found now h a))
stops_decide tree used ps found after (Some link) now new h a s c g f l r = linked_decides tree used ps found after link now new a s c g r

-- ---- what calls returned
pub rest_on : {N : Type 0} {G : Ghosts N} (a b c : Place N G) → c ≡ record b { layers = c.layers } → b ≡ record a { layers = b.layers }
    → c ≡ record a { layers = c.layers }
rest_on {N} {G} a b c e f = e ∙ ap (λ (p : Place N G). record p { layers = c.layers }) f

pub path_is : (a b r : List ℕ) (level : Level) → a ≡ b → level.path_at + level.path_len ≤ length b
    → (level.path_at + level.path_len ≤ length a → r ≡ path_in a level) → r ≡ path_in b level
path_is a b r level e h f = f (subst (λ (l : List ℕ). level.path_at + level.path_len ≤ length l) (sym e) h) ∙ ap (λ (l : List ℕ). path_in l level) e

pub walk_there : (t : Resource) (p q : List ℕ) (w : Walked) → p ≡ q → AreFilled (steps_of q)
    → (AreFilled (steps_of p) → walk t (steps_of p) ≡ w) → walk t (steps_of q) ≡ w
walk_there t p q w e h f =
    ap (λ (l : List ℕ). walk t (steps_of l)) (sym e) ∙ f (subst (λ (l : List ℕ). AreFilled (steps_of l)) (sym e) h)

pub link_there : (t n : Resource) (p q : List ℕ) (left : ℕ) → p ≡ q → AreFilled (steps_of q)
    → (AreFilled (steps_of p) → IsLink n p left (walk t (steps_of p))) → IsLink n q left (walk t (steps_of q))
link_there t n p q left e h f =
    subst (λ (l : List ℕ). IsLink n l left (walk t (steps_of l))) e (f (subst (λ (l : List ℕ). AreFilled (steps_of l)) (sym e) h))

pub adds_there : {N : Type 0} {G : Ghosts N} (tree : N → Resource) (a b : List ℕ) (node : N) (level : Level) (before after : Found N)
    (old new : List (Layer N G)) → a ≡ b → CanAdd (length b) (kind_of (tree node)) level before
    → (CanAdd (length a) (kind_of (tree node)) level before → Adds tree (length a) (part_of tree node level) before old after new)
    → Adds tree (length b) (part_of tree node level) before old after new
adds_there tree a b node level before after old new e x f =
    subst (λ (l : List ℕ). Adds tree (length l) (part_of tree node level) before old after new) e
    (f (subst (λ (l : List ℕ). CanAdd (length l) (kind_of (tree node)) level before) (sym e) x))
