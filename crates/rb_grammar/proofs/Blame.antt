-- Defines what a stop of reading proves: the marks before it begin some form, and each form that has the next marks too has the error at the stop.
use Rattle.std.proofs.Common.{◌≡◌, ℕ, Bool, true, false, List, [], ◌∷◌, ◌++◌, Result, Ok, Err, refl, sym, ap, subst, ◌∙◌, append_assoc, ◌⊎◌, inl, inr}
use Rattle.rb_lexer.specs.declared.fault.SourceKind.{SourceKind}
use Rattle.rb_lexer.specs.declared.fault.SourceKind.TheVariants.{Unexpected, UnknownType, BadKey, DuplicateKey, BadInt, BadHex, TooDeep}
use Rattle.rb_lexer.specs.declared.token.Token.{Token}
use Rattle.rb_lexer.specs.declared.token.Mark.{Mark}
use Rattle.rb_lexer.specs.declared.token.Mark.TheVariants.{Text, RightBrace, Colon, Comma}
use Rattle.rb_grammar.specs.Form.{marks, Body, Entries, Elements, comma_marks, numbers_marks, body_marks, entries_marks, elements_marks, AreSome, BeginArray}
use Rattle.rb_grammar.specs.Form.{IsForm, AreForms, EachIsForm}
use Rattle.rb_grammar.specs.Reading.{Stop, stop, ◌>>=◌, has_comma, after_comma, as_table, as_array, guess}
use Rattle.rb_grammar.specs.Faults.{Role, NumbersHave, BodyHas, EntriesHas, ElementsHave, IsBad, NoWord}
use Rattle.rb_grammar.proofs.Complete.{comma_first}
use Rattle.rb_grammar.proofs.Guess.{Alike}
use Rattle.rb_grammar.proofs.Unique.{starts_comma, IsOpening}

-- ---- what may come in place of the tokens at a stop

pub record Tail (rest : List Token) (seen ms : List Mark) : Type 0 where
  pub alike : Alike (marks rest) ms
  pub shown : (more : List Mark) × (ms ≡ seen ++ more)

alike_after : (front rest ms : List Mark) → Alike rest ms → Alike (front ++ rest) (front ++ ms)
alike_after [] rest ms a = a
alike_after (m ∷ front) rest ms a = (front ++ ms, refl)

pub alike_front : (xs front rest ms : List Mark) → xs ≡ front ++ rest → Alike rest ms → Alike xs (front ++ ms)
alike_front xs front rest ms e a = subst (λ zs. Alike zs (front ++ ms)) (sym e) (alike_after front rest ms a)

pub starts_alike : (xs ys : List Mark) → Alike xs ys → starts_comma xs ≡ starts_comma ys
starts_alike [] ys a = rw a refl
starts_alike (x ∷ xs) ys a = rw a.1 (comma_first x xs ∙ sym (comma_first x a.0))

-- a comma that was read or not is the form's
pub same_comma : (c d : Bool) (xs ys : List Mark) → (c ≡ false → starts_comma xs ≡ false) → starts_comma ys ≡ false → comma_marks d ys ≡ comma_marks c xs
    → ys ≡ xs
same_comma true true xs ys p q e = cc
same_comma false false xs ys p q e = e
same_comma true false xs ys p q e = let bad : true ≡ false = ap starts_comma (sym e) ∙ q in absurd cc
same_comma false true xs ys p q e = let bad : true ≡ false = ap starts_comma e ∙ p refl in absurd cc

pub comma_left : (ts : List Token) → has_comma ts ≡ false → starts_comma (marks (after_comma ts)) ≡ false
comma_left [] e = refl
comma_left (t ∷ ts) e = rw e (comma_first t.what (marks ts) ∙ e)

-- ---- a stop

-- a stop for lack of a mark sees nothing after it; another sees the mark at error
abbrev pub IsSeen : SourceKind → List Mark → Type 0
IsSeen Unexpected seen = seen ≡ []
IsSeen UnknownType seen = seen ≡ []
IsSeen BadKey seen = (m : Mark) × (ms : List Mark) × (seen ≡ m ∷ ms)
IsSeen DuplicateKey seen = (m : Mark) × (ms : List Mark) × (seen ≡ m ∷ ms)
IsSeen BadInt seen = (m : Mark) × (ms : List Mark) × (seen ≡ m ∷ ms)
IsSeen BadHex seen = (m : Mark) × (ms : List Mark) × (seen ≡ m ∷ ms)
IsSeen TooDeep seen = (m : Mark) × (ms : List Mark) × (seen ≡ m ∷ ms)
IsSeen other seen = ⊥

-- whether a type word that is none is the cause
abbrev pub Says : SourceKind → List Mark → List Mark → Type 0
Says Unexpected front rest = NoWord front rest → ⊥
Says UnknownType front rest = NoWord front rest
Says other front rest = Unit {0}

-- ---- how an untyped body continues

-- a sign that opens a body comes
abbrev pub Opened : List Mark → Type 0
Opened ms = (m : Mark) × (r : List Mark) × IsOpening m × (ms ≡ m ∷ r)

abbrev pub IsTableStart : List Mark → Type 0
IsTableStart ms = (k : List ℕ) × (r : List Mark) × Opened r × (ms ≡ Text k ∷ r)

abbrev pub IsArrayStart : List Mark → Type 0
IsArrayStart ms = Opened ms ⊎ ((s : List ℕ) × (r : List Mark) × (ms ≡ Text s ∷ Comma ∷ r))

-- ---- the stop

-- a sort of forms: which are good, how they are spelled in front of something, where their roles are; what else a form is that
-- the tokens begin, and how its marks begin
pub record Sort : Type 1 where
  pub Form : Type 0
  pub Good : Form → Type 0
  pub spell : Form → List Mark → List Mark
  pub has : (Role → Type 0) → Form → List Mark → List Mark → Type 0
  pub Fit : List Token → Form → Type 0
  pub Start : List Token → List Mark → Type 0

pub record Blame (sort : Sort) (ts : List Token) (s : Stop) : Type 0 where
  pub front : List Mark
  pub seen : List Mark
  pub left : List Mark
  pub shows : IsSeen s.kind seen
  pub says : Says s.kind front (marks s.rest)
  pub parts : marks ts ≡ front ++ marks s.rest
  pub sees : marks s.rest ≡ seen ++ left
  pub form : sort.Form
  pub next : Mark
  pub others : List Mark
  pub good : sort.Good form
  pub fit : sort.Fit ts form
  pub whole : front ++ (seen ++ next ∷ others) ≡ sort.spell form []
  pub blame : (f : sort.Form) (after ms : List Mark) → sort.Good f → Tail s.rest seen ms → sort.spell f after ≡ front ++ ms → sort.has (IsBad s.kind) f after ms
  pub start : (ms : List Mark) → Tail s.rest seen ms → sort.Start ts (front ++ ms)

abbrev pub bodies : ℕ → Sort
bodies level = record {
  Form = Body;
  Good = IsForm;
  spell = body_marks;
  has = λ P b after from. BodyHas P b level after from;
  Fit = λ ts b. Unit {0};
  Start = λ ts ms. Unit {0};
}

abbrev pub tables : ℕ → List (List ℕ) → Sort
tables level earlier = record {
  Form = Entries;
  Good = AreForms;
  spell = λ es rest. entries_marks es (RightBrace ∷ rest);
  has = λ P es after from. EntriesHas P es level earlier (RightBrace ∷ after) from;
  Fit = λ ts es. AreSome es;
  Start = λ ts ms. guess ts ≡ as_table → IsTableStart ms;
}

abbrev pub arrays : ℕ → Sort
arrays level = record {
  Form = Elements;
  Good = EachIsForm;
  spell = λ xs rest. elements_marks xs (RightBrace ∷ rest);
  has = λ P xs after from. ElementsHave P xs level (RightBrace ∷ after) from;
  Fit = λ ts xs. guess ts ≡ as_array → BeginArray xs;
  Start = λ ts ms. guess ts ≡ as_array → IsArrayStart ms;
}

abbrev pub vectors : Sort
vectors = record {
  Form = List (List ℕ × Bool);
  Good = λ ns. Unit {0};
  spell = λ ns rest. numbers_marks ns (RightBrace ∷ rest);
  has = λ P ns after from. NumbersHave P ns (RightBrace ∷ after) from;
  Fit = λ ts ns. Unit {0};
  Start = λ ts ms. Unit {0};
}

abbrev pub Blames : ℕ → (List Token → Result (Body × List Token) Stop) → Type 0
Blames level reads = (ts : List Token) (s : Stop) → reads ts ≡ Err s → Blame (bodies level) ts s

-- ---- type words

pub no_word_none : (rest : List Mark) → NoWord [] rest → ⊥
no_word_none rest w = by w.before w.colon where
  by : (before : List Mark) → [] ≡ before ++ Colon ∷ [] → ⊥
  by [] e = cc
  by (m ∷ ms) e = cc

-- the cause is after a mark that is no colon
pub word_past : (pre : List Mark) (last : Mark) (front rest : List Mark) → (last ≡ Colon → ⊥) → NoWord (pre ++ last ∷ front) rest → NoWord front rest
word_past pre last front rest other w = by pre w.before w.colon where
  by : (pre before : List Mark) → pre ++ last ∷ front ≡ before ++ Colon ∷ [] → NoWord front rest
  by [] [] e = absurd (other cc)
  by [] (m ∷ ms) e = record { before = ms; word = w.word; after = w.after; colon = cc; text = w.text; unknown = w.unknown }
  by (p ∷ []) [] e = absurd cc
  by (p ∷ q ∷ pre) [] e = absurd cc
  by (p ∷ pre) (m ∷ ms) e = by pre ms cc

word_after : (pre front rest : List Mark) → NoWord front rest → NoWord (pre ++ front) rest
word_after pre front rest w =
    record {
      before = pre ++ w.before;
      word = w.word;
      after = w.after;
      colon = ap (λ ms. pre ++ ms) w.colon ∙ sym (append_assoc pre w.before (Colon ∷ []));
      text = w.text;
      unknown = w.unknown;
    }

pub says_past : (kind : SourceKind) (pre : List Mark) (last : Mark) (front rest : List Mark) → (last ≡ Colon → ⊥) → Says kind front rest
    → Says kind (pre ++ last ∷ front) rest
says_past Unexpected pre last front rest other says = λ w. says (word_past pre last front rest other w)
says_past UnknownType pre last front rest other says =
    subst (λ ms. NoWord ms rest) (append_assoc pre (last ∷ []) front) (word_after (pre ++ last ∷ []) front rest says)
says_past kind pre last front rest other says = tt

-- ---- a stop inside, seen from outside

-- marks follow those of the form inside
whole_longer : (inner : Sort) (ts : List Token) (s : Stop) (b : Blame inner ts s) (extra : List Mark)
    → inner.spell b.form extra ≡ inner.spell b.form [] ++ extra → b.front ++ (b.seen ++ b.next ∷ (b.others ++ extra)) ≡ inner.spell b.form extra
whole_longer inner ts s b extra along =
    ap (λ ms. b.front ++ ms) (sym (append_assoc b.seen (b.next ∷ b.others) extra)) ∙ sym (append_assoc b.front (b.seen ++ b.next ∷ b.others) extra)
    ∙ ap (λ ms. ms ++ extra) b.whole ∙ sym along

-- the form outside begins with that inside
pub within : (inner outer : Sort) (ts : List Token) (s : Stop) (b : Blame inner ts s) (form : outer.Form) (extra : List Mark) → outer.Good form
    → outer.spell form [] ≡ inner.spell b.form extra → inner.spell b.form extra ≡ inner.spell b.form [] ++ extra
    → ((f : outer.Form) (after ms : List Mark) → outer.Good f → Tail s.rest b.seen ms → outer.spell f after ≡ b.front ++ ms
    → outer.has (IsBad s.kind) f after ms)
    → outer.Fit ts form → ((ms : List Mark) → Tail s.rest b.seen ms → outer.Start ts (b.front ++ ms)) → Blame outer ts s
within inner outer ts s b form extra good spelled along blame fit start = record {
  front = b.front;
  seen = b.seen;
  left = b.left;
  shows = b.shows;
  says = b.says;
  parts = b.parts;
  sees = b.sees;
  form = form;
  next = b.next;
  others = b.others ++ extra;
  good = good;
  fit = fit;
  whole = whole_longer inner ts s b extra along ∙ sym spelled;
  blame = blame;
  start = start;
}

-- marks, the last of them no colon, come before it
pub outside : (inner outer : Sort) (ts inside : List Token) (s : Stop) (b : Blame inner inside s) (pre : List Mark) (last : Mark) → (last ≡ Colon → ⊥)
    → marks ts ≡ pre ++ last ∷ marks inside
    → (form : outer.Form) (extra : List Mark) → outer.Good form → outer.spell form [] ≡ pre ++ last ∷ inner.spell b.form extra
    → inner.spell b.form extra ≡ inner.spell b.form [] ++ extra
    → ((f : outer.Form) (after ms : List Mark) → outer.Good f → Tail s.rest b.seen ms → outer.spell f after ≡ pre ++ last ∷ (b.front ++ ms)
    → outer.has (IsBad s.kind) f after ms)
    → outer.Fit ts form → ((ms : List Mark) → Tail s.rest b.seen ms → outer.Start ts (pre ++ last ∷ (b.front ++ ms)))
    → Blame outer ts s
outside inner outer ts inside s b pre last other there form extra good spelled along blame fit start = record {
  front = pre ++ last ∷ b.front;
  seen = b.seen;
  left = b.left;
  shows = b.shows;
  says = says_past s.kind pre last b.front (marks s.rest) other b.says;
  parts = there ∙ ap (λ ms. pre ++ last ∷ ms) b.parts ∙ sym (append_assoc pre (last ∷ b.front) (marks s.rest));
  sees = b.sees;
  form = form;
  next = b.next;
  others = b.others ++ extra;
  good = good;
  fit = fit;
  whole =
      append_assoc pre (last ∷ b.front) (b.seen ++ b.next ∷ (b.others ++ extra))
      ∙ ap (λ ms. pre ++ last ∷ ms) (whole_longer inner inside s b extra along) ∙ sym spelled;
  blame = λ f after ms g t e. blame f after ms g t (e ∙ append_assoc pre (last ∷ b.front) ms);
  start = λ ms t. subst (λ (r : List Mark). outer.Start ts r) (sym (append_assoc pre (last ∷ b.front) ms)) (start ms t);
}

-- ---- ways to stop

-- a mark is missing: no form continues as the tokens do
pub lacks : (sort : Sort) (kind : SourceKind) → IsSeen kind [] → (ts rest : List Token) (front : List Mark) → Says kind front (marks rest)
    → marks ts ≡ front ++ marks rest → (form : sort.Form) (next : Mark) (others : List Mark) → sort.Good form → sort.Fit ts form
    → front ++ next ∷ others ≡ sort.spell form []
    → ((f : sort.Form) (after ms : List Mark) → sort.Good f → Tail rest [] ms → sort.spell f after ≡ front ++ ms → ⊥)
    → ((ms : List Mark) → Tail rest [] ms → sort.Start ts (front ++ ms)) → Blame sort ts (stop kind rest)
lacks sort kind shows ts rest front says there form next others good fit whole none start = record {
  front = front;
  seen = [];
  left = marks rest;
  shows = shows;
  says = says;
  parts = there;
  sees = refl;
  form = form;
  next = next;
  others = others;
  good = good;
  fit = fit;
  whole = whole;
  blame = λ f after ms g t e. absurd (none f after ms g t e);
  start = start;
}

-- the first mark is
pub first_lacks : (sort : Sort) (ts : List Token) (form : sort.Form) (next : Mark) (others : List Mark) → sort.Good form → sort.Fit ts form
    → next ∷ others ≡ sort.spell form []
    → ((f : sort.Form) (after ms : List Mark) → sort.Good f → Tail ts [] ms → sort.spell f after ≡ ms → ⊥)
    → ((ms : List Mark) → Tail ts [] ms → sort.Start ts ms) → Blame sort ts (stop Unexpected ts)
first_lacks sort ts = lacks sort Unexpected refl ts ts [] (λ w. no_word_none (marks ts) w) refl

-- the mark after one that is no colon is
pub next_lacks : (sort : Sort) (ts rest : List Token) (pre : List Mark) (last : Mark) → (last ≡ Colon → ⊥)
    → marks ts ≡ (pre ++ last ∷ []) ++ marks rest → (form : sort.Form) (next : Mark) (others : List Mark) → sort.Good form → sort.Fit ts form
    → (pre ++ last ∷ []) ++ next ∷ others ≡ sort.spell form []
    → ((f : sort.Form) (after ms : List Mark) → sort.Good f → Tail rest [] ms → sort.spell f after ≡ (pre ++ last ∷ []) ++ ms → ⊥)
    → ((ms : List Mark) → Tail rest [] ms → sort.Start ts ((pre ++ last ∷ []) ++ ms)) → Blame sort ts (stop Unexpected rest)
next_lacks sort ts rest pre last other =
    lacks sort Unexpected refl ts rest (pre ++ last ∷ []) (λ w. no_word_none (marks rest) (word_past pre last [] (marks rest) other w))

-- a mark has an error, and with it come marks that decide what it is there for
pub begins_bad : (sort : Sort) (kind : SourceKind) (m : Mark) (ms : List Mark) → IsSeen kind (m ∷ ms) → (ts : List Token) → Says kind [] (marks ts)
    → (left : List Mark) → marks ts ≡ m ∷ (ms ++ left) → (form : sort.Form) (next : Mark) (others : List Mark) → sort.Good form → sort.Fit ts form
    → m ∷ (ms ++ next ∷ others) ≡ sort.spell form []
    → ((f : sort.Form) (after from : List Mark) → sort.Good f → Tail ts (m ∷ ms) from → sort.spell f after ≡ from → sort.has (IsBad kind) f after from)
    → ((from : List Mark) → Tail ts (m ∷ ms) from → sort.Start ts from) → Blame sort ts (stop kind ts)
begins_bad sort kind m ms shows ts says left sees form next others good fit whole blame start = record {
  front = [];
  seen = m ∷ ms;
  left = left;
  shows = shows;
  says = says;
  parts = refl;
  sees = sees;
  form = form;
  next = next;
  others = others;
  good = good;
  fit = fit;
  whole = whole;
  blame = blame;
  start = start;
}

pub bind_err : {A B : Type 0} (r : Result A Stop) (f : A → Result B Stop) (s : Stop) → (r >>= f) ≡ Err s → (r ≡ Err s) ⊎ ((x : A) × (r ≡ Ok x) × (f x ≡ Err s))
bind_err (Ok x) f s e = inr (x, refl, e)
bind_err (Err d) f s e = inl cc
