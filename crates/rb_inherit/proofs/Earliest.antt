-- The earliest stop wins, one stop after another.
use Rattle.std.proofs.Common.{◌≡◌, ◌++◌, ℕ, List, [], ◌∷◌, Bool, true, false, nat_lt, Option, Some, None, Result, Ok, Err, refl, sym, ap, subst, ◌∙◌, append_assoc, append-nil, drop}
use Rattle.std.specs.Prelude.{IfOk}
use Rattle.rb_tree.specs.Parts.{kind_of}
use Rattle.rb_tree.specs.Resource.{Resource}
use Rattle.rb_tree.specs.declared.node.Node.{Ghosts}
use Rattle.rb_tree.specs.declared.kind.Kind.{Kind}
use Rattle.rb_tree.specs.declared.kind.Kind.TheVariants as kind
use Rattle.rb_fallback.specs.declared.fault.LookError.{LookError}
use Rattle.rb_fallback.specs.declared.fault.LookError.TheVariants as look
use Rattle.rb_inherit.specs.declared.error.WalkError.{WalkError}
use Rattle.rb_inherit.specs.declared.found.Found.{Found}
use Rattle.rb_inherit.specs.declared.found.Found.TheVariants.{Nothing, Tables, Item, Failed}
use Rattle.rb_inherit.specs.declared.layer.Layer.{Layer}
use Rattle.rb_inherit.specs.declared.place.Level.{Level}
use Rattle.rb_inherit.specs.Merged.{Begins, Here, Joins, JoinsRefused, Layered, Part, Refused, alias_fault, item, fails, layered, tables}
use Rattle.rb_inherit.specs.inner.Earlier.{Adds, AddsLayer, BeginsEmpty, Ends, Grows, IsTables, Refuses, Stays, and_error, and_item, and_table, closed_of, here_of, is_open_of, layered_in, part_of}

pub stays_itself : {N : Type 0} (f : Found N) → Stays f f
stays_itself Nothing = tt
stays_itself (Tables is_open) = tt
stays_itself (Item n level) = refl
stays_itself (Failed e) = refl

tables_stay : {N : Type 0} (f g : Found N) → IsTables f → Stays f g → IsTables g
tables_stay (Tables is_open) g h k = k
tables_stay _ g h k = absurd h

pub stays_on : {N : Type 0} (f g h : Found N) → Stays f g → Stays g h → Stays f h
stays_on Nothing g h a b = tt
stays_on (Tables is_open) g h a b = tables_stay g h a b
stays_on (Item n level) g h a b = subst (λ x. Stays x h) a b
stays_on (Failed e) g h a b = subst (λ x. Stays x h) a b

pub grows_itself : {A : Type 0} (xs : List A) → Grows xs xs
grows_itself xs = ([], sym (append-nil xs))

pub grows_on : {A : Type 0} (xs ys zs : List A) → Grows xs ys → Grows ys zs → Grows xs zs
grows_on xs ys zs (a, e) (b, f) = (a ++ b, f ∙ (ap (λ l. l ++ b) e ∙ append_assoc xs a b))

-- ---- by cases of the first part
begins_table : (b : Bool) (k : Kind) (p : Part) (Rest : List Layered → Type 0) (h : Here) → b ≡ false → k ≡ kind.Table
    → ((rest : List Layered) × ((h ≡ tables (layered p ∷ rest)) × Rest rest)) → Begins b k p Rest h
begins_table true k p Rest h e f x = absurd cc
begins_table false kind.Table p Rest h e f x = x
begins_table false _ p Rest h e f x = absurd cc

joins_table : (b : Bool) (k : Kind) (p : Part) (Rest : List Layered → Type 0) (more rest : List Layered) → b ≡ false → k ≡ kind.Table
    → more ≡ layered p ∷ rest → Rest rest → Joins b k p Rest more
joins_table true k p Rest more rest e f x y = absurd cc
joins_table false kind.Table p Rest more rest e f x y = (rest, (x, y))
joins_table false _ p Rest more rest e f x y = absurd cc

begins_alias : (b : Bool) (k : Kind) (p : Part) (Rest : List Layered → Type 0) (h : Here) → b ≡ false → k ≡ kind.Alias → Refused (alias_fault p.tree) h
    → Begins b k p Rest h
begins_alias true k p Rest h e f x = absurd cc
begins_alias false kind.Alias p Rest h e f x = x
begins_alias false _ p Rest h e f x = absurd cc

joins_alias : (b : Bool) (k : Kind) (p : Part) (Rest : List Layered → Type 0) (more : List Layered) → b ≡ false → k ≡ kind.Alias
    → JoinsRefused (alias_fault p.tree) more → Joins b k p Rest more
joins_alias true k p Rest more e f x = absurd cc
joins_alias false kind.Alias p Rest more e f x = x
joins_alias false _ p Rest more e f x = absurd cc

begins_item : (b : Bool) (k : Kind) (p : Part) (Rest : List Layered → Type 0) (h : Here) → b ≡ false → (k ≡ kind.Table → ⊥) → (k ≡ kind.Alias → ⊥)
    → h ≡ item p → Begins b k p Rest h
begins_item true k p Rest h e f g x = absurd cc
begins_item false kind.Table p Rest h e f g x = absurd (f refl)
begins_item false kind.Alias p Rest h e f g x = absurd (g refl)
begins_item false _ p Rest h e f g x = x

joins_item : (b : Bool) (k : Kind) (p : Part) (Rest : List Layered → Type 0) (more : List Layered) → b ≡ false → (k ≡ kind.Table → ⊥) → (k ≡ kind.Alias → ⊥)
    → more ≡ [] → Joins b k p Rest more
joins_item true k p Rest more e f g x = absurd cc
joins_item false kind.Table p Rest more e f g x = absurd (f refl)
joins_item false kind.Alias p Rest more e f g x = absurd (g refl)
joins_item false _ p Rest more e f g x = x

begins_long : (b : Bool) (k : Kind) (p : Part) (Rest : List Layered → Type 0) (h : Here) → b ≡ true → h ≡ fails look.PathTooLong → Begins b k p Rest h
begins_long true k p Rest h e x = x
begins_long false k p Rest h e x = absurd cc

joins_long : (b : Bool) (k : Kind) (p : Part) (Rest : List Layered → Type 0) (more : List Layered) → b ≡ true → more ≡ [] → Joins b k p Rest more
joins_long true k p Rest more e x = x
joins_long false k p Rest more e x = absurd cc

-- ---- one stop more
abbrev Step : {N : Type 0} → (N → Resource) → ℕ → Part → Found N → Found N → List Layered → Type 0
Step tree used p before after more =
    (ls : List Layered) (ps : List Part) (h : Here) → BeginsEmpty before ls → Ends tree used after (ls ++ more) ps h → Ends tree used before ls (p ∷ ps) h

step_table : {N : Type 0} (tree : N → Resource) (used : ℕ) (p : Part) → nat_lt p.most used ≡ false → kind_of p.tree ≡ kind.Table
    → (before : Found N) → is_open_of before ≡ true → Step tree used p before (and_table before) (layered p ∷ [])
step_table tree used p b k Nothing o = λ ls ps h e x.
    begins_table _ _ p _ h b k (x.0, (x.1.0 ∙ ap (λ (l : List Layered). tables ((l ++ layered p ∷ []) ++ x.0)) e, x.1.1))
step_table tree used p b k (Tables true) o = λ ls ps h e x.
    (layered p ∷ x.0, (x.1.0 ∙ ap tables (append_assoc ls (layered p ∷ []) x.0), joins_table _ _ p _ _ x.0 b k refl x.1.1))
step_table tree used p b k _ o = absurd cc

step_item : {N : Type 0} (tree : N → Resource) (used : ℕ) (n : N) (level : Level) → nat_lt level.keys_most used ≡ false
    → (kind_of (tree n) ≡ kind.Table → ⊥) → (kind_of (tree n) ≡ kind.Alias → ⊥)
    → (before : Found N) → is_open_of before ≡ true → Step tree used (part_of tree n level) before (and_item before n level) []
step_item tree used n level b t a Nothing o = λ ls ps h e x. begins_item _ _ (part_of tree n level) _ h b t a x
step_item tree used n level b t a (Tables true) o = λ ls ps h e x.
    ([], (x, joins_item _ _ (part_of tree n level) _ [] b t a refl))
step_item tree used n level b t a _ o = absurd cc

step_long : {N : Type 0} (tree : N → Resource) (used : ℕ) (p : Part) → nat_lt p.most used ≡ true
    → (before : Found N) → is_open_of before ≡ true → Step tree used p before (and_error before look.PathTooLong) []
step_long tree used p b Nothing o = λ ls ps h e x. begins_long _ _ p _ h b x
step_long tree used p b (Tables true) o = λ ls ps h e x. ([], (x, joins_long _ _ p _ [] b refl))
step_long tree used p b _ o = absurd cc

-- what an alias adds that can't be read: its error, and no tables
abbrev pub Fails : {N : Type 0} → Option LookError → Found N → Found N → List Layered → Type 0
Fails None before after more = Unit {0}
Fails (Some e) before after more = (after ≡ and_error before e) × (more ≡ [])

alias_begins : {N : Type 0} (tree : N → Resource) (used : ℕ) (o : Option LookError) (after : Found N) (ls more : List Layered) (ps : List Part) (h : Here)
    → Fails o Nothing after more → Ends tree used after (ls ++ more) ps h → Refused o h
alias_begins tree used None after ls more ps h f x = tt
alias_begins {N} tree used (Some e) after ls more ps h f x = subst (λ (a : Found N). Ends tree used a (ls ++ more) ps h) f.0 x

alias_joins : {N : Type 0} (o : Option LookError) (before after : Found N) (more : List Layered) → Fails o before after more → JoinsRefused o more
alias_joins None before after more f = tt
alias_joins (Some e) before after more f = f.1

alias_tables : {N : Type 0} (tree : N → Resource) (used : ℕ) (p : Part) → nat_lt p.most used ≡ false → kind_of p.tree ≡ kind.Alias
    → (after : Found N) → is_open_of after ≡ false → IsTables after → (more : List Layered) → Fails (alias_fault p.tree) (Tables true) after more
    → Step tree used p (Tables true) after more
alias_tables tree used p b k (Tables true) o s more f = absurd cc
alias_tables {N} tree used p b k (Tables false) o s more f = λ ls ps h e x.
    (more, (x, joins_alias _ _ p _ more b k (alias_joins {N = N} (alias_fault p.tree) (Tables true) (Tables false) more f)))
alias_tables tree used p b k _ o s more f = absurd s

step_alias : {N : Type 0} (tree : N → Resource) (used : ℕ) (p : Part) → nat_lt p.most used ≡ false → kind_of p.tree ≡ kind.Alias
    → (before : Found N) → is_open_of before ≡ true → (after : Found N) → is_open_of after ≡ false → Stays before after
    → (more : List Layered) → Fails (alias_fault p.tree) before after more → Step tree used p before after more
step_alias tree used p b k Nothing o after c s more f = λ ls ps h e x.
    begins_alias _ _ p _ h b k (alias_begins tree used (alias_fault p.tree) after ls more ps h f x)
step_alias tree used p b k (Tables true) o after c s more f = alias_tables tree used p b k after c s more f
step_alias tree used p b k _ o after c s more f = absurd cc

step_closed : {N : Type 0} (tree : N → Resource) (used : ℕ) (p : Part) (before : Found N) → is_open_of before ≡ false → Step tree used p before before []
step_closed tree used p Nothing o = absurd cc
step_closed tree used p (Tables true) o = absurd cc
step_closed tree used p (Tables false) o = λ ls ps h e x. x ∙ ap tables (append-nil ls)
step_closed tree used p (Item n level) o = λ ls ps h e x. x
step_closed tree used p (Failed e) o = λ ls ps h f x. x

pub decided_closed : {N : Type 0} (f : Found N) → is_open_of f ≡ false → (ls : List Layered) → BeginsEmpty f ls
decided_closed Nothing o ls = absurd cc
decided_closed _ o ls = tt

decided_table : {N : Type 0} (f : Found N) (ls : List Layered) → BeginsEmpty (and_table f) ls
decided_table Nothing ls = tt
decided_table _ ls = tt

decided_item : {N : Type 0} (f : Found N) (n : N) (level : Level) (ls : List Layered) → BeginsEmpty (and_item f n level) ls
decided_item Nothing n level ls = tt
decided_item _ n level ls = tt

decided_long : {N : Type 0} (f : Found N) (ls : List Layered) → BeginsEmpty (and_error f look.PathTooLong) ls
decided_long Nothing ls = tt
decided_long _ ls = tt

-- ---- the records of one stop more
pub table_adds : {N : Type 0} {G : Ghosts N} (tree : N → Resource) (used : ℕ) (n : N) (level : Level) (before : Found N) (old : List (Layer N G)) (after : Found N)
    (new : List (Layer N G)) → nat_lt level.keys_most used ≡ false → kind_of (tree n) ≡ kind.Table → is_open_of before ≡ true → after ≡ and_table before
    → AddsLayer tree n level old new → Adds tree used (part_of tree n level) before old after new
table_adds {N} tree used n level before old after new b k o is a =
    let begins : (ls : List Layered) → BeginsEmpty after ls = λ ls. rw is (decided_table before ls) in
    record {
      more = a.layer ∷ [];
      layers = a.layers;
      decided = begins;
      ends = λ ls ps h e x.
          step_table tree used (part_of tree n level) b k before o ls ps h e
          (subst (λ (l : Layered). Ends tree used (and_table before) (ls ++ l ∷ []) ps h) a.is
          (subst (λ (f : Found N). Ends tree used f (ls ++ layered_in tree (a.layer ∷ [])) ps h) is x));
    }

no_layers : {N : Type 0} {G : Ghosts N} (tree : N → Resource) (used : ℕ) (p : Part) (before last : Found N) (old : List (Layer N G)) (after : Found N)
    → after ≡ last → ((ls : List Layered) → BeginsEmpty last ls) → Step tree used p before last [] → Adds tree used p before old after old
no_layers {N} tree used p before last old after is begins step = record {
  more = [];
  layers = sym (append-nil old);
  decided = λ ls. rw is (begins ls);
  ends = λ ls ps h e x. step ls ps h e (subst (λ (f : Found N). Ends tree used f (ls ++ []) ps h) is x);
}

pub item_adds : {N : Type 0} {G : Ghosts N} (tree : N → Resource) (used : ℕ) (n : N) (level : Level) (before : Found N) (old : List (Layer N G)) (after : Found N)
    → nat_lt level.keys_most used ≡ false → (kind_of (tree n) ≡ kind.Table → ⊥) → (kind_of (tree n) ≡ kind.Alias → ⊥) → is_open_of before ≡ true
    → after ≡ and_item before n level → Adds tree used (part_of tree n level) before old after old
item_adds tree used n level before old after b t a o is =
    no_layers tree used (part_of tree n level) before (and_item before n level) old after is (decided_item before n level) (step_item tree used n level b t a before o)

pub long_adds : {N : Type 0} {G : Ghosts N} (tree : N → Resource) (used : ℕ) (n : N) (level : Level) (before : Found N) (old : List (Layer N G)) (after : Found N)
    → nat_lt level.keys_most used ≡ true → is_open_of before ≡ true → after ≡ and_error before look.PathTooLong
    → Adds tree used (part_of tree n level) before old after old
long_adds tree used n level before old after b o is =
    no_layers tree used (part_of tree n level) before (and_error before look.PathTooLong) old after is (decided_long before) (step_long tree used (part_of tree n level) b before o)

no_more : {A : Type 0} (old new more : List A) → new ≡ old ++ more → new ≡ old → more ≡ []
no_more [] new more e f = sym e ∙ f
no_more {A} (x ∷ old) new more e f = no_more old (old ++ more) more refl (ap (λ (l : List A). drop 1 l) (sym e ∙ f))

refuses_fails : {N : Type 0} {G : Ghosts N} (tree : N → Resource) (o : Option LookError) (before after : Found N) (old new more : List (Layer N G))
    → new ≡ old ++ more → Refuses o before old after new → Fails o before after (layered_in tree more)
refuses_fails tree None before after old new more e r = tt
refuses_fails {N} {G} tree (Some f) before after old new more e r = (r.0, ap (λ (l : List (Layer N G)). layered_in tree l) (no_more old new more e r.1))

pub alias_adds : {N : Type 0} {G : Ghosts N} (tree : N → Resource) (used : ℕ) (n : N) (level : Level) (before : Found N) (old : List (Layer N G)) (after : Found N)
    (new : List (Layer N G)) → nat_lt level.keys_most used ≡ false → kind_of (tree n) ≡ kind.Alias → is_open_of before ≡ true → is_open_of after ≡ false
    → Stays before after → Grows old new → Refuses (alias_fault (tree n)) before old after new → Adds tree used (part_of tree n level) before old after new
alias_adds tree used n level before old after new b k o c s g r = record {
  more = g.0;
  layers = g.1;
  decided = λ ls. decided_closed after c ls;
  ends = step_alias tree used (part_of tree n level) b k before o after c s (layered_in tree g.0)
      (refuses_fails tree (alias_fault (tree n)) before after old new g.0 g.1 r);
}

pub closed_adds : {N : Type 0} {G : Ghosts N} (tree : N → Resource) (used : ℕ) (p : Part) (before : Found N) (old : List (Layer N G))
    → is_open_of before ≡ false → Adds tree used p before old before old
closed_adds tree used p before old o = no_layers tree used p before before old before refl (decided_closed before o) (step_closed tree used p before o)

-- no stop is left
pub ends_here : {N : Type 0} (tree : N → Resource) (used : ℕ) (f : Found N) (ls : List Layered) → Ends tree used f ls [] (here_of tree f ls)
ends_here tree used (Tables true) ls = ([], (sym (ap tables (append-nil ls)), refl))
ends_here tree used _ ls = refl

-- ---- the cases above, for what a call returned
pub ok_table_adds : {N : Type 0} {G : Ghosts N} (tree : N → Resource) (used : ℕ) (n : N) (level : Level) (before : Found N) (old : List (Layer N G))
    (r : Result (Found N) WalkError) (new : List (Layer N G)) → nat_lt level.keys_most used ≡ false → kind_of (tree n) ≡ kind.Table → is_open_of before ≡ true
    → IfOk r (λ after. after ≡ and_table before) → IfOk r (λ _. AddsLayer tree n level old new)
    → IfOk r (λ after. Adds tree used (part_of tree n level) before old after new)
ok_table_adds tree used n level before old (Ok after) new b k o is a = table_adds tree used n level before old after new b k o is a
ok_table_adds tree used n level before old (Err e) new b k o is a = tt

pub ok_alias_adds : {N : Type 0} {G : Ghosts N} (tree : N → Resource) (used : ℕ) (n : N) (level : Level) (before : Found N) (old : List (Layer N G))
    (r : Result (Found N) WalkError) (new : List (Layer N G)) → nat_lt level.keys_most used ≡ false → kind_of (tree n) ≡ kind.Alias → is_open_of before ≡ true
    → IfOk r (Stays before) → IfOk r (λ after. is_open_of after ≡ false) → IfOk r (λ _. Grows old new)
    → IfOk r (λ after. Refuses (alias_fault (tree n)) before old after new) → IfOk r (λ after. Adds tree used (part_of tree n level) before old after new)
ok_alias_adds tree used n level before old (Ok after) new b k o s c g f = alias_adds tree used n level before old after new b k o c s g f
ok_alias_adds tree used n level before old (Err e) new b k o s c g f = tt

-- ---- errors of aliases
pub error_closed : {N : Type 0} (f : Found N) (e : LookError) → closed_of (and_error f e) ≡ and_error f e
error_closed Nothing e = refl
error_closed _ e = refl
