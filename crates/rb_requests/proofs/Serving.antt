-- Serving line by line, and the lines of the whole input.
use Rattle.std.proofs.Common.{◌≡◌, ◌<◌, ◌≤◌, ℕ, ◌+◌, inl, inr, List, [], ◌∷◌, ◌++◌, length, Option, Some, None, refl, sym, ◌∙◌, ap, subst, arith}
use Rattle.std.proofs.Common.{add-one, append_assoc, append-nil, length-append}
use Rattle.std.specs.Prelude.{All, Result, Ok, Err, IfOk, IfErr}
use Rattle.std.specs.List.{concat}
use Rattle.std.proofs.lemmas.List.Folds.{concat-append}
use Rattle.std.specs.Io.KnownBytes.{Appends, Consumes, Keeps}
use Rattle.std.proofs.lemmas.List.Elements.{All-nil, All-push}
use Rattle.std.proofs.KnownBytes.{Appends-nil, Appends-trans, Appends-kept}
use Rattle.rb_requests.specs.Lines.{RepliesBy, lines_of, feeds}
use Rattle.rb_requests.specs.Device.{risen, risen_by}
use Rattle.rb_requests.specs.Served.{Moment, at, where_known, IsShort, Answers, AnswersWithin, FirstAnswered, IsNext, After, AfterRead}
use Rattle.rb_requests.specs.Served.{AfterLong, AfterLimit, AfterMemory, AfterFaultWithin, reads_failed}
use Rattle.rb_requests.specs.inner.OneLine.{Wrote, MayTakeEffect, FailsLine}
use Rattle.rb_requests.specs.inner.Taken.{ReadsPart, ReadsFewer, ReadsLong, ReadsEnded, ReadsLast, ReadsEnd, EndsAfter}
use Rattle.rb_requests.specs.declared.lines.Served.{Served}
use Rattle.rb_requests.specs.declared.lines.ServeFault.{ServeFault}
use Rattle.rb_requests.specs.declared.lines.ServeFault.TheVariants.{Read, LineLimit, LineTooLong, Memory}
use Rattle.rb_requests.proofs.LinesRead.{feeds-append, lines_of-ended, lines_of-last}

pub settled : (a b c : Option (List ℕ)) (x : List ℕ) → Appends a b x → Keeps b c → Appends a c x
settled a b c x h k = Appends-kept a b c x h k

-- `Reply` says what the reply to a line is, and what is held after it.
module _ {S : Type 0} (Reply : S → List ℕ → List ℕ → S → Type 0) where
  -- the lines that were answered, each of which had a line feed, and what was written
  pub record SoFar (limit : ℕ) (before now : Moment S) (count : ℕ) (input left : List ℕ) : Type 0 where
    pub done : List ℕ
    pub taken : input ≡ done ++ left
    pub lines : List (List ℕ)
    pub split : lines_of input ≡ lines ++ lines_of left
    pub fed : feeds done ≡ length lines
    pub many : length lines ≡ count
    pub short : All (IsShort limit) lines
    pub replies : List (List ℕ)
    pub by_line : RepliesBy Reply before.state lines replies now.state
    pub wrote : Appends before.written now.written (concat replies)

  -- and each reply is settled
  pub record ServedSoFar (limit : ℕ) (before now : Moment S) (count : ℕ) : Type 0 where
    pub known : where_known (SoFar limit before now count) before.left now.left
    pub handed : now.settled ≡ risen_by before.settled count

  known_first : (limit : ℕ) (now : Moment S) (left : Option (List ℕ)) → where_known (SoFar limit now now 0) left left
  known_first limit now None = tt
  known_first limit now (Some input) = record {
    done = [];
    taken = refl;
    lines = [];
    split = refl;
    fed = refl;
    many = refl;
    short = All-nil (IsShort limit);
    replies = [];
    by_line = refl;
    wrote = Appends-nil now.written;
  }

  pub at_first : (limit : ℕ) (now : Moment S) → ServedSoFar limit now now 0
  at_first limit now = record { known = known_first limit now now.left; handed = refl }

  -- what is left stays known if more is read
  known_after : (P Q : List ℕ → List ℕ → Type 0) (R : Option (List ℕ) → Option (List ℕ) → Type 0)
      → ((left : List ℕ) → R (Some left) None → ⊥)
      → ((input left left' : List ℕ) → P input left → R (Some left) (Some left') → Q input left')
      → (input left left' : Option (List ℕ)) → where_known P input left → R left left' → where_known Q input left'
  known_after P Q R lost then None left left' h r = tt
  known_after P Q R lost then (Some input) None left' h r = absurd h
  known_after P Q R lost then (Some input) (Some left) None h r = absurd (lost left r)
  known_after P Q R lost then (Some input) (Some left) (Some left') h r = then input left left' h r

  -- what holds after more is read, by what was answered before
  after_more : (limit : ℕ) (before now : Moment S) (count : ℕ) (Q : List ℕ → List ℕ → Type 0) (R : Option (List ℕ) → Option (List ℕ) → Type 0)
      (left' : Option (List ℕ)) → ServedSoFar limit before now count → R now.left left' → ((left : List ℕ) → R (Some left) None → ⊥)
      → ((input left left' : List ℕ) → SoFar limit before now count input left → R (Some left) (Some left') → Q input left')
      → where_known Q before.left left'
  after_more limit before now count Q R left' h k lost then =
      known_after (SoFar limit before now count) Q R lost then before.left now.left left' h.known k

  -- bytes are read, and nothing else has changed
  abbrev pub read_on : Moment S → Option (List ℕ) → Moment S
  read_on now left = at now.state left now.written now.settled

  -- ---- more is read, and one line more is answered

  abbrev first_answered : (limit : ℕ) (before now : Moment S) (count most : ℕ) (input left left' bytes : List ℕ)
      → SoFar limit before now count input left → left ≡ bytes ++ left' → count ≤ most
      → FirstAnswered Reply limit before.state now.state most input left'
  first_answered limit before now count most input left left' bytes h e m = record {
    done = h.done;
    begun = bytes;
    taken = h.taken ∙ ap (λ x. h.done ++ x) e;
    first = h.lines;
    split = h.split ∙ ap (λ x. h.lines ++ lines_of x) e;
    fed = h.fed;
    few = subst (λ (n : ℕ). n ≤ most) (sym h.many) m;
    short = h.short;
    replies = h.replies;
    by_line = h.by_line;
  }

  settled_for : (n count s s' : ℕ) → n ≡ count → s' ≡ risen_by s count → s' ≡ risen_by s n
  settled_for n count s s' e h = h ∙ ap (risen_by s) (sym e)

  pub one_settled : (s count : ℕ) → risen (risen_by s count) ≡ risen_by s (count + 1)
  one_settled s count = ap (risen_by s) (sym (add-one count))

  fewer : (n count most : ℕ) → n ≡ count → count < most → n < most
  fewer n count most e m = subst (λ (x : ℕ). x < most) (sym e) m

  replies_more : (s mid end : S) (ls replies : List (List ℕ)) (line reply : List ℕ) → RepliesBy Reply s ls replies mid
      → Reply mid line reply end → RepliesBy Reply s (ls ++ line ∷ []) (replies ++ reply ∷ []) end
  replies_more s mid end [] [] line reply e a = (end, subst (λ (x : S). Reply x line reply end) e a, refl)
  replies_more s mid end [] (r ∷ rs) line reply h a = absurd h
  replies_more s mid end (l ∷ ls) [] line reply h a = absurd h
  replies_more s mid end (l ∷ ls) (r ∷ rs) line reply (m, b, rest) a = (m, b, replies_more m mid end ls rs line reply rest a)

  one_more_text : (replies : List (List ℕ)) (reply : List ℕ) → concat replies ++ reply ≡ concat (replies ++ reply ∷ [])
  one_more_text replies reply = ap (λ x. concat replies ++ x) (sym (append-nil reply)) ∙ sym (concat-append replies (reply ∷ []))

  written_more : (replies : List (List ℕ)) (reply : List ℕ) (a b c : Option (List ℕ)) → Appends a b (concat replies) → Appends b c reply
      → Appends a c (concat (replies ++ reply ∷ []))
  written_more replies reply a b c h k =
      subst (λ (x : List ℕ). Appends a c x) (one_more_text replies reply) (Appends-trans a b c (concat replies) reply h k)

  -- the front of what is left, and the lines of it
  ended_lines : (left left' line : List ℕ) → left ≡ (line ++ 10 ∷ []) ++ left' → feeds line ≡ 0 → lines_of left ≡ line ∷ lines_of left'
  ended_lines left left' line e p = ap lines_of (e ∙ append_assoc line (10 ∷ []) left') ∙ lines_of-ended line left' p

  ended_feeds : (read line : List ℕ) → feeds line ≡ 0 → feeds (read ++ (line ++ 10 ∷ [])) ≡ feeds read + 1
  ended_feeds read line p = feeds-append read (line ++ 10 ∷ []) ∙ ap (λ n. feeds read + n) (feeds-append line (10 ∷ []) ∙ rw p refl)

  one_more : (limit : ℕ) (before now then : Moment S) (line : List ℕ) (count : ℕ) (input left left' : List ℕ)
      → SoFar limit before now count input left → ReadsEnded limit line (Some left) (Some left')
      → Wrote Reply now.state line now.written then.written then.state → SoFar limit before then (count + 1) input left'
  one_more limit before now then line count input left left' h k (text, response, wrote) =
      let read = line ++ 10 ∷ [] in
      record {
        done = h.done ++ read;
        taken = h.taken ∙ (ap (λ x. h.done ++ x) k.read ∙ sym (append_assoc h.done read left'));
        lines = h.lines ++ line ∷ [];
        split = h.split ∙ ap (λ x. h.lines ++ x) (ended_lines left left' line k.read k.plain) ∙ sym (append_assoc h.lines (line ∷ []) (lines_of left'));
        fed = ended_feeds h.done line k.plain ∙ (ap (λ n. n + 1) h.fed ∙ sym (length-append h.lines (line ∷ [])));
        many = length-append h.lines (line ∷ []) ∙ ap (λ n. n + 1) h.many;
        short = All-push (IsShort limit) h.lines line h.short k.short;
        replies = h.replies ++ text ∷ [];
        by_line = replies_more before.state now.state then.state h.lines h.replies line text h.by_line response;
        wrote = written_more h.replies text before.written now.written then.written h.wrote wrote;
      }

  pub next : (limit : ℕ) (before now then : Moment S) (line : List ℕ) (count : ℕ) → ServedSoFar limit before now count
      → ReadsEnded limit line now.left then.left → Wrote Reply now.state line now.written then.written then.state → then.settled ≡ risen now.settled
      → ServedSoFar limit before then (count + 1)
  next limit before now then line count h k w t = record {
    known = after_more limit before now count (SoFar limit before then (count + 1)) (ReadsEnded limit line) then.left h k (λ left r. r.read) (
        λ input left left' s r. one_more limit before now then line count input left left' s r w);
    handed = t ∙ (ap risen h.handed ∙ one_settled before.settled count);
  }

  -- ---- the end of the input

  all_of : (limit : ℕ) (before now : Moment S) (rest : Option (List ℕ)) (count : ℕ) (input left left' : List ℕ)
      → SoFar limit before now count input left → ReadsEnd (Some left) (Some left')
      → Answers Reply limit before (read_on now rest) count input left'
  all_of limit before now rest count input left left' h (end, kept) =
      let all : lines_of input ≡ h.lines = h.split ∙ (ap (λ x. h.lines ++ lines_of x) end ∙ append-nil h.lines) in
      record {
        read = kept ∙ end;
        replies = h.replies;
        by_line = subst (λ (x : List (List ℕ)). RepliesBy Reply before.state x h.replies now.state) (sym all) h.by_line;
        wrote = h.wrote;
        lines_read = sym h.many ∙ ap length (sym all);
        short = subst (All (IsShort limit)) (sym all) h.short;
      }

  pub all_read : (limit : ℕ) (before now : Moment S) (left : Option (List ℕ)) (count : ℕ) → ServedSoFar limit before now count
      → ReadsEnd now.left left → AnswersWithin Reply limit before (read_on now left) count
  all_read limit before now left count h k =
      after_more limit before now count (Answers Reply limit before (read_on now left) count) ReadsEnd left h k (λ l r. r.1) (
      λ input l l' s r. all_of limit before now left count input l l' s r)

  nothing_behind : (line rest : List ℕ) → line ≡ line ++ rest → rest ≡ []
  nothing_behind line [] h = refl
  nothing_behind line (b ∷ rest) h = let l = ap length h ∙ length-append line (b ∷ rest) in absurd (omega arith)

  last_answered : (limit : ℕ) (before now after : Moment S) (line : List ℕ) (count : ℕ) (input left left' : List ℕ)
      → SoFar limit before now count input left → ReadsLast limit line (Some left) (Some left')
      → Wrote Reply now.state line now.written after.written after.state → Answers Reply limit before after (count + 1) input left'
  last_answered limit before now after line count input left left' h k (text, response, wrote) =
      let only = ap lines_of (sym k.all) ∙ lines_of-last line k.part.plain k.some in
      let all : lines_of input ≡ h.lines ++ line ∷ [] = h.split ∙ ap (λ x. h.lines ++ x) only in
      let by_line = replies_more before.state now.state after.state h.lines h.replies line text h.by_line response in
      record {
        read = nothing_behind line left' (k.all ∙ k.part.read);
        replies = h.replies ++ text ∷ [];
        by_line = subst (λ (x : List (List ℕ)). RepliesBy Reply before.state x (h.replies ++ text ∷ []) after.state) (sym all) by_line;
        wrote = written_more h.replies text before.written now.written after.written h.wrote wrote;
        lines_read = sym (ap length all ∙ (length-append h.lines (line ∷ []) ∙ ap (λ m. m + 1) h.many));
        short = subst (All (IsShort limit)) (sym all) (All-push (IsShort limit) h.lines line h.short k.short);
      }

  pub all_answered : (limit : ℕ) (before now after : Moment S) (line : List ℕ) (count : ℕ) → ServedSoFar limit before now count
      → ReadsLast limit line now.left after.left → Wrote Reply now.state line now.written after.written after.state
      → AnswersWithin Reply limit before after (count + 1)
  all_answered limit before now after line count h k w =
      after_more limit before now count (Answers Reply limit before after (count + 1)) (ReadsLast limit line) after.left h k (λ left r. r.part.read) (
      λ input left left' s r. last_answered limit before now after line count input left left' s r w)

  -- ---- a line that is not read whole

  below_most : (n count most : ℕ) → n ≡ count → count < most → n ≡ most → ⊥
  below_most n count most e m f = omega arith

  pub not_read : (limit : ℕ) (before now : Moment S) (left : Option (List ℕ)) (count most : ℕ) → ServedSoFar limit before now count
      → count < most → ReadsPart limit now.left left → AfterFaultWithin Reply limit Read before (read_on now left) most
  not_read limit before now left count most h m k =
      after_more limit before now count (AfterRead Reply limit before (read_on now left) most) (ReadsPart limit) left h k (λ l r. r.part.read) (
      λ input l l' s r. record {
        answered = first_answered limit before now count most input l l' r.bytes s r.part.read (omega arith);
        wrote = s.wrote;
        settled = settled_for (length s.lines) count before.settled now.settled s.many h.handed;
        part = r.part.plain;
        short = r.short;
        last = λ e. absurd (below_most (length s.lines) count most s.many m e);
      })

  pub no_memory : (limit : ℕ) (before now : Moment S) (left : Option (List ℕ)) (count most : ℕ) → ServedSoFar limit before now count
      → count < most → ReadsFewer limit now.left left → AfterFaultWithin Reply limit Memory before (read_on now left) most
  no_memory limit before now left count most h m k =
      after_more limit before now count (AfterMemory Reply limit before (read_on now left) most) (ReadsFewer limit) left h k (λ l r. r.part.read) (
      λ input l l' s r. record {
        now = now.state;
        answered = first_answered limit before now count most input l l' r.bytes s r.part.read (omega arith);
        wrote = s.wrote;
        settled = settled_for (length s.lines) count before.settled now.settled s.many h.handed;
        more = fewer (length s.lines) count most s.many m;
        next = inl ((r.part.plain, r.fewer), refl);
      })

  pub too_long : (limit : ℕ) (before now : Moment S) (left : Option (List ℕ)) (count most : ℕ) → ServedSoFar limit before now count
      → count < most → ReadsLong limit now.left left → AfterFaultWithin Reply limit LineTooLong before (read_on now left) most
  too_long limit before now left count most h m k =
      after_more limit before now count (AfterLong Reply limit before (read_on now left) most) (ReadsLong limit) left h k (λ l r. r.part.read) (
      λ input l l' s r. record {
        answered = first_answered limit before now count most input l l' r.bytes s r.part.read (omega arith);
        wrote = s.wrote;
        settled = settled_for (length s.lines) count before.settled now.settled s.many h.handed;
        part = r.part.plain;
        long = r.long;
        more = fewer (length s.lines) count most s.many m;
      })

  -- ---- a line that is not answered

  unanswered : (limit : ℕ) (fault : ServeFault) (before now after : Moment S) (count most : ℕ) (line bytes input left left' : List ℕ)
      → SoFar limit before now count input left → count < most → after.settled ≡ risen_by before.settled count → left ≡ bytes ++ left'
      → IsNext limit bytes left' line → FailsLine Reply fault now.state line now.written after.written after.state
      → After Reply limit fault before after most input left'
  unanswered limit fault before now after count most line bytes input left left' h m t e n (inl (f, k)) = rw f (record {
    now = now.state;
    answered = first_answered limit before now count most input left left' bytes h e (omega arith);
    wrote = subst (λ (x : List ℕ). Appends before.written after.written x) (append-nil (concat h.replies))
        (Appends-trans before.written now.written after.written (concat h.replies) [] h.wrote k.kept);
    settled = settled_for (length h.lines) count before.settled after.settled h.many t;
    more = fewer (length h.lines) count most h.many m;
    next = inr (line, n, k.effect);
  })
  unanswered limit fault before now after count most line bytes input left left' h m t e n (inr (f, k)) = rw f (record {
    now = now.state;
    answered = first_answered limit before now count most input left left' bytes h e (omega arith);
    settled = settled_for (length h.lines) count before.settled after.settled h.many t;
    more = fewer (length h.lines) count most h.many m;
    line = line;
    next = n;
    part = k.wrote.part;
    missing = k.wrote.missing;
    answers = subst (λ (x : List ℕ). Reply now.state line x after.state) (sym k.wrote.whole) k.answers;
    wrote = Appends-trans before.written now.written after.written (concat h.replies) k.wrote.part h.wrote k.wrote.wrote;
  })

  ended_is_next : (limit : ℕ) (line left left' : List ℕ) → ReadsEnded limit line (Some left) (Some left')
      → IsNext limit (line ++ 10 ∷ []) left' line
  ended_is_next limit line left left' k = record {
    read = lines_of-ended line [] k.plain;
    whole = ended_lines ((line ++ 10 ∷ []) ++ left') left' line refl k.plain;
    short = k.short;
  }

  last_is_next : (limit : ℕ) (line left left' : List ℕ) → ReadsLast limit line (Some left) (Some left') → IsNext limit line left' line
  last_is_next limit line left left' k =
      let one = lines_of-last line k.part.plain k.some in
      let none : left' ≡ [] = nothing_behind line left' (k.all ∙ k.part.read) in
      record { read = one; whole = rw none (ap lines_of (append-nil line) ∙ one); short = k.short }

  pub not_answered : (limit : ℕ) (fault : ServeFault) (before now after : Moment S) (line : List ℕ) (count most : ℕ)
      → ServedSoFar limit before now count → count < most → ReadsEnded limit line now.left after.left
      → FailsLine Reply fault now.state line now.written after.written after.state → after.settled ≡ now.settled
      → AfterFaultWithin Reply limit fault before after most
  not_answered limit fault before now after line count most h m k w t =
      after_more limit before now count (After Reply limit fault before after most) (ReadsEnded limit line) after.left h k (λ left r. r.read) (
      λ input left left' s r.
      unanswered limit fault before now after count most line (line ++ 10 ∷ []) input left left' s m (t ∙ h.handed) r.read
      (ended_is_next limit line left left' r) w)

  pub last_not_answered : (limit : ℕ) (fault : ServeFault) (before now after : Moment S) (line : List ℕ) (count most : ℕ)
      → ServedSoFar limit before now count → count < most → ReadsLast limit line now.left after.left
      → FailsLine Reply fault now.state line now.written after.written after.state → after.settled ≡ now.settled
      → AfterFaultWithin Reply limit fault before after most
  last_not_answered limit fault before now after line count most h m k w t =
      after_more limit before now count (After Reply limit fault before after most) (ReadsLast limit line) after.left h k (λ left r. r.part.read) (
      λ input left left' s r.
      unanswered limit fault before now after count most line line input left left' s m (t ∙ h.handed) r.part.read
      (last_is_next limit line left left' r) w)

  -- ---- if no line may follow

  past_last : (limit : ℕ) (before now : Moment S) (left : Option (List ℕ)) (count byte : ℕ) → ServedSoFar limit before now count
      → Consumes now.left left (byte ∷ []) → AfterFaultWithin Reply limit LineLimit before (read_on now left) count
  past_last limit before now left count byte h k =
      after_more limit before now count (AfterLimit Reply limit before (read_on now left) count) (λ a b. Consumes a b (byte ∷ [])) left h k (λ l r. r) (
      λ input l l' s r. record {
        answered = first_answered limit before now count count input l l' (byte ∷ []) s r (omega arith);
        wrote = s.wrote;
        settled = settled_for (length s.lines) count before.settled now.settled s.many h.handed;
        byte = refl;
        all = s.many;
      })

  no_end : (limit : ℕ) (before now : Moment S) (left : Option (List ℕ)) (count : ℕ) → ServedSoFar limit before now count
      → Keeps now.left left → AfterFaultWithin Reply limit Read before (read_on now left) count
  no_end limit before now left count h k =
      after_more limit before now count (AfterRead Reply limit before (read_on now left) count) Keeps left h k (λ l r. r) (
      λ input l l' s r. record {
        answered = first_answered limit before now count count input l l' [] s (sym r) (omega arith);
        wrote = s.wrote;
        settled = settled_for (length s.lines) count before.settled now.settled s.many h.handed;
        part = refl;
        short = omega arith;
        last = λ e. refl;
      })

  pub all_at_end : (limit : ℕ) (before now : Moment S) (left : Option (List ℕ)) (count : ℕ) (r : Result Served ServeFault)
      → ServedSoFar limit before now count → EndsAfter now.left left count r
      → IfOk r (λ served. AnswersWithin Reply limit before (read_on now left) served.lines)
  all_at_end limit before now left count (Ok served) h (end, e) = rw e (all_read limit before now left count h end)
  all_at_end limit before now left count (Err fault) h k = tt

  pub fault_at_end : (limit : ℕ) (before now : Moment S) (left : Option (List ℕ)) (count : ℕ) (r : Result Served ServeFault)
      → ServedSoFar limit before now count → EndsAfter now.left left count r
      → IfErr r (λ fault. AfterFaultWithin Reply limit fault before (read_on now left) count)
  fault_at_end limit before now left count (Ok served) h k = tt
  fault_at_end limit before now left count (Err LineLimit) h (byte, k) = past_last limit before now left count byte h k
  fault_at_end limit before now left count (Err Read) h k = no_end limit before now left count h k
  fault_at_end limit before now left count t h k = absurd k

  -- ---- one reply

  pub wrote : (old new : S) (line reply : List ℕ) (a b : Option (List ℕ)) → Reply old line reply new → Appends a b reply → Wrote Reply old line a b new
  wrote old new line reply a b response w = (reply, response, w)

  pub not_replied : (old new : S) (line : List ℕ) (a : Option (List ℕ)) → MayTakeEffect Reply old line new → FailsLine Reply Memory old line a a new
  not_replied old new line a response = inl (refl, record { effect = response; kept = Appends-nil a })

  -- a line that is not answered is no fault of the reader
  pub fails_reads : (fault : ServeFault) (old new : S) (line : List ℕ) (a b : Option (List ℕ)) (count : ℕ) → FailsLine Reply fault old line a b new
      → reads_failed {T = Served} count (Err fault) ≡ count
  fails_reads fault old new line a b count h = elim h [
    | inl (memory, left) ↦ rw memory refl
    | inr (write, left) ↦ rw write refl
  ]
