-- The bytes of an application's files under a limit on them.
use Rattle.std.proofs.Common.{◌≡◌, ◌≤◌, ◌^◌, ◌-◌, ◌+◌, ℕ, inl, inr, Bool, true, false, not, cond, List, [], ◌∷◌, ◌++◌, length, Option, Some, None, is_some, is_none, ◌⊎◌}
use Rattle.std.proofs.Common.{Result, Ok, Err, refl, sym, ◌∙◌, ap, subst, arith, option_map, nat_lt, nat_le}
use Rattle.std.specs.Map.{lookup, set_value, remove_entry}
use Rattle.std.specs.Str.{bytes_eq}
use Rattle.std.proofs.lemmas.Slice.Eq.{bytes_eq-Decides}
use Rattle.std.proofs.lemmas.Bool.{false≢true, and_parts}
use Rattle.std.proofs.lemmas.List.{length-map}
use Rattle.std.proofs.lemmas.List.Sums.{sum_by-append, sum_by-cons}
use Rattle.std.proofs.lemmas.Bool.Decides.{nat_tests}
use Rattle.rb_packages.specs.Packages.{Files, files_of}
use Rattle.rb_packages.specs.Usage.{bytes_of, apps_of}
use Rattle.rb_format.specs.File.{source_tree_of}
use Rattle.rb_packages.specs.Shelf.{holds, is_full}
use Rattle.rb_packages.specs.Packages.{shelf_of}
use Rattle.rb_packages.proofs.Lists.{bundle_at-shelf_of}
use Rattle.rb_engine.specs.Ask.{Call, Requests, LooksUp, caller, Content, spelled, denoted, unread}
use Rattle.rb_engine.specs.Answer.{Response, Replies, Finds, Refuses as NotFound, install_reply, replace_reply, add_reply}
use Rattle.rb_engine.specs.Change.{files_after}
use Rattle.rb_engine.specs.History.{Answered}
use Rattle.rb_engine.specs.Kept.{Kept, state_of}
use Rattle.rb_engine.specs.Place.{place_of}
use Rattle.rb_engine.specs.declared.handle.Change.{Change}
use Rattle.rb_engine.specs.declared.handle.Change.TheVariants as change
use Rattle.rb_engine.specs.declared.place.Place.{Place}
use Rattle.rb_engine.specs.declared.request.Payload.{Payload}
use Rattle.rb_engine.specs.declared.request.Reply.{Reply}
use Rattle.rb_engine.specs.declared.request.Reply.TheVariants as reply
use Rattle.rb_engine.specs.declared.request.Request.TheVariants as request
use Rattle.rb_engine.proofs.StepLemmas.{app-place_of}
use Rattle.rb_requests.specs.Limits.{is_over, payload_len, len_at, takes_place, file_refusal, change_refusal, call_refusal}
use Rattle.rb_requests.specs.Steps.{Outcome, IsAnswered, CallComesTo, put_file, taken_out, files_done, files_then}
use Rattle.rb_requests.specs.History.{IsWithinQuota}
use Rattle.rb_requests.specs.declared.limits.Limits.{Limits}
use Rattle.rb_requests.proofs.Counted.{used_with}
use Rattle.rb_requests.specs.declared.limits.Refusal.{Refusal}
use Rattle.rb_requests.specs.declared.limits.Refusal.TheVariants.{BundleTooLong, OverQuota, TooManyApps}

-- ---- the bytes of files

abbrev len_of : List ℕ × List ℕ → ℕ
len_of e = length e.1

-- with one more
bytes-push : (files : Files) (name file : List ℕ) → bytes_of (files ++ (name, file) ∷ []) ≡ bytes_of files + length file
bytes-push files name file = let more = sum_by-append len_of files ((name, file) ∷ []) in omega arith

-- with another in the place of one
bytes-set : (files : Files) (name file old : List ℕ) → lookup (bytes_eq name) files ≡ Some old
    → bytes_of (set_value (bytes_eq name) files file) + length old ≡ bytes_of files + length file
bytes-set [] name file old h = absurd cc
bytes-set (e ∷ es) name file old h = by (bytes-set es name file old) (bytes_eq name e.0) refl
  where
    by : (lookup (bytes_eq name) es ≡ Some old → bytes_of (set_value (bytes_eq name) es file) + length old ≡ bytes_of es + length file) → (b : Bool)
        → bytes_eq name e.0 ≡ b → bytes_of (set_value (bytes_eq name) (e ∷ es) file) + length old ≡ bytes_of (e ∷ es) + length file
    by rest true t =
        let here : Some e.1 ≡ Some old = rw t at h in
        let same : e.1 ≡ old = cc in
        let len : length e.1 ≡ length old = ap length same in
        let before = sum_by-cons len_of e es in
        let after = sum_by-cons len_of (e.0, file) es in
        rw t (omega arith)
    by rest false t =
        let later : lookup (bytes_eq name) es ≡ Some old = rw t at h in
        let more = rest later in
        let before = sum_by-cons len_of e es in
        let after = sum_by-cons len_of e (set_value (bytes_eq name) es file) in
        rw t (omega arith)

-- without one
bytes-remove : (files : Files) (name : List ℕ) → bytes_of (remove_entry (bytes_eq name) files) ≤ bytes_of files
bytes-remove [] name = omega arith
bytes-remove (e ∷ es) name = by (bytes-remove es name) (bytes_eq name e.0) refl
  where
    by : bytes_of (remove_entry (bytes_eq name) es) ≤ bytes_of es → (b : Bool) → bytes_eq name e.0 ≡ b
        → bytes_of (remove_entry (bytes_eq name) (e ∷ es)) ≤ bytes_of (e ∷ es)
    by rest true t = let before = sum_by-cons len_of e es in rw t (omega arith)
    by rest false t =
        let before = sum_by-cons len_of e es in
        let after = sum_by-cons len_of e (remove_entry (bytes_eq name) es) in
        rw t (omega arith)

-- ---- a file that is put

not_over : (most n : ℕ) → nat_lt most n ≡ false → n ≤ most
not_over most n h = grind (arith, nat_tests, h)

chosen_free : (t b q a : Bool) → t ≡ true → cond (not t) None (cond b (Some BundleTooLong) (cond q (Some OverQuota) (cond a (Some TooManyApps) None))) ≡ None
    → q ≡ false
chosen_free true true q a e h = cc
chosen_free true false true a e h = cc
chosen_free true false false a e h = refl
chosen_free false b q a e h = cc

-- a name at which there is a file, or none
absent_len : (name : List ℕ) (files : Files) → is_none (len_at name files) ≡ true → lookup (bytes_eq name) files ≡ None
absent_len name files h = by (lookup (bytes_eq name) files) refl
  where
    by : (o : Option (List ℕ)) → lookup (bytes_eq name) files ≡ o → lookup (bytes_eq name) files ≡ None
    by None e = e
    by (Some old) e = absurd (false≢true (rw e at h))

present_len : (name : List ℕ) (files : Files) → is_some (len_at name files) ≡ true → (old : List ℕ) × (lookup (bytes_eq name) files ≡ Some old)
present_len name files h = by (lookup (bytes_eq name) files) refl
  where
    by : (o : Option (List ℕ)) → lookup (bytes_eq name) files ≡ o → (old : List ℕ) × (lookup (bytes_eq name) files ≡ Some old)
    by None e = absurd (false≢true (rw e at h))
    by (Some old) e = (old, e)

put_within : (limits : Limits) (most : ℕ) (made : Change) (name : List ℕ) (files : Files) (apps : ℕ) (file : List ℕ) → limits.app_bytes ≡ Some most
    → most ≤ 2 ^ 64 - 1 → bytes_of files ≤ most → takes_place made (len_at name files) (length files) ≡ true
    → file_refusal limits made name files apps file ≡ None → bytes_of (files_after made name file files) ≤ most
put_within limits most made name files apps file e m h t f =
    let free : is_over limits.app_bytes (used_with name files (length file)) ≡ false =
    chosen_free (takes_place made (len_at name files) (length files)) (is_over limits.bundle_bytes (length file))
    (is_over limits.app_bytes (used_with name files (length file))) _ t f in
    let few : used_with name files (length file) ≤ most = not_over most _ (rw e at free) in
    by made t few
  where
    by : (c : Change) → takes_place c (len_at name files) (length files) ≡ true → used_with name files (length file) ≤ most
        → bytes_of (files_after c name file files) ≤ most
    by change.Install t few =
        let none = absent_len name files (and_parts (is_none (len_at name files)) (nat_lt (length files) 4096) t).0 in
        let few' = rw none at few in
        rw (bytes-push files name file) (omega arith)
    by change.Replace t few =
        let (old, there) = present_len name files t in
        let few' = rw there at few in
        let same = bytes-set files name file old there in
        omega arith

-- ---- a change that the engine makes

holds_len : (name : List ℕ) (files : Files) (b : Bool) → holds name (shelf_of files) ≡ b → is_some (len_at name files) ≡ b
holds_len name files b h = by (lookup (bytes_eq name) files) refl
  where
    by : (o : Option (List ℕ)) → lookup (bytes_eq name) files ≡ o → is_some (len_at name files) ≡ b
    by None e = rw e (sym (ap is_some (bundle_at-shelf_of files name ∙ ap (option_map source_tree_of) e)) ∙ h)
    by (Some old) e = rw e (sym (ap is_some (bundle_at-shelf_of files name ∙ ap (option_map source_tree_of) e)) ∙ h)

none_len : (o : Option ℕ) → is_some o ≡ false → is_none o ≡ true
none_len None h = refl
none_len (Some n) h = absurd (false≢true (sym h))

room_len : (files : Files) → is_full (shelf_of files) ≡ false → nat_lt (length files) 4096 ≡ true
room_len files h =
    let few : nat_le 4096 (length files) ≡ false = sym (ap (nat_le 4096) (length-map files _)) ∙ h in
    grind (arith, nat_tests, few)

added : (b f : Bool) → reply.Done ≡ cond b reply.Exists (cond f reply.Full reply.Done) → (b ≡ false) × (f ≡ false)
added true f h = cc
added false true h = cc
added false false h = (refl, refl)

add_takes : (p : Place) (files : Files) → reply.Done ≡ add_reply p (shelf_of files)
    → takes_place change.Install (len_at p.name files) (length files) ≡ true
add_takes p files h =
    let parts = added (holds p.name (shelf_of files)) (is_full (shelf_of files)) h in
    rw (none_len (len_at p.name files) (holds_len p.name files false parts.0)) (room_len files parts.1)

install_takes : (p : Place) (content : Content) (files : Files) → reply.Done ≡ install_reply (Ok p) content (shelf_of files)
    → takes_place change.Install (len_at p.name files) (length files) ≡ true
install_takes p unread files h = cc
install_takes p (spelled None) files h = cc
install_takes p (denoted None) files h = cc
install_takes p (spelled (Some source)) files h = add_takes p files h
install_takes p (denoted (Some source)) files h = add_takes p files h

held : (b : Bool) → reply.Done ≡ cond b reply.Done reply.Absent → b ≡ true
held true h = refl
held false h = cc

replace_takes : (p : Place) (content : Content) (files : Files) → reply.Done ≡ replace_reply (Ok p) content (shelf_of files)
    → takes_place change.Replace (len_at p.name files) (length files) ≡ true
replace_takes p unread files h = cc
replace_takes p (spelled None) files h = cc
replace_takes p (denoted None) files h = cc
replace_takes p (spelled (Some source)) files h = holds_len p.name files true (held (holds p.name (shelf_of files)) h)
replace_takes p (denoted (Some source)) files h = holds_len p.name files true (held (holds p.name (shelf_of files)) h)

free_file : (long : Bool) (o : Option Refusal) → cond long (Some BundleTooLong) o ≡ None → o ≡ None
free_file true o h = cc
free_file false o h = h

-- a change that is done, of an application whose files are within the limit
made_within : {E : Type 0} (limits : Limits) (most : ℕ) (k : Kept) (made : Change) (app : List ℕ) (payload : Payload) (incoming : Option (List ℕ))
    (r : Result Place E) → ((p : Place) → r ≡ Ok p → p.app ≡ app) → limits.app_bytes ≡ Some most → most ≤ 2 ^ 64 - 1
    → bytes_of (files_of app k.packages) ≤ most → change_refusal limits k made r payload incoming ≡ None
    → ((p : Place) → r ≡ Ok p → takes_place made (len_at p.name (files_of app k.packages)) (length (files_of app k.packages)) ≡ true)
    → bytes_of (put_file made r incoming (files_of app k.packages)) ≤ most
made_within limits most k made app payload incoming (Err e) is l m h f t = h
made_within limits most k made app payload None (Ok p) is l m h f t = h
made_within limits most k made app payload (Some file) (Ok p) is l m h f t =
    let same : p.app ≡ app = is p refl in
    let free = free_file (is_over limits.bundle_bytes (payload_len payload)) _ f in
    let own = subst (λ (a : List ℕ). file_refusal limits made p.name (files_of a k.packages) (apps_of k.packages) file ≡ None) same free in
    put_within limits most made p.name (files_of app k.packages) (apps_of k.packages) file l m h (t p refl) own

taken_within : {E : Type 0} (most : ℕ) (r : Result Place E) (files : Files) → bytes_of files ≤ most → bytes_of (taken_out r files) ≤ most
taken_within most (Err e) files h = h
taken_within most (Ok p) files h = omega (arith, bytes-remove files p.name)

done_is : (a b : Reply) → Replies a ≡ Replies b → a ≡ b
done_is a b h = cc

done_within : (limits : Limits) (most : ℕ) (k k' : Kept) (call : Call) (incoming : Option (List ℕ)) → limits.app_bytes ≡ Some most → most ≤ 2 ^ 64 - 1
    → bytes_of (files_of (caller call) k.packages) ≤ most → call_refusal limits k call incoming ≡ None
    → Answered (state_of k) call (Replies reply.Done) (state_of k') → bytes_of (files_done call incoming (files_of (caller call) k.packages)) ≤ most
done_within limits most k k' (Requests (request.Install app locale payload)) incoming l m h f a =
    let (content, x, is) = a.means in
    let answer = done_is _ _ (rw is at a.right) in
    made_within limits most k change.Install app payload incoming (place_of app locale) (app-place_of app locale) l m h f
    (λ p e. install_takes p content (files_of app k.packages) (rw e at answer))
done_within limits most k k' (Requests (request.Replace app locale payload)) incoming l m h f a =
    let (content, x, is) = a.means in
    let answer = done_is _ _ (rw is at a.right) in
    made_within limits most k change.Replace app payload incoming (place_of app locale) (app-place_of app locale) l m h f
    (λ p e. replace_takes p content (files_of app k.packages) (rw e at answer))
done_within limits most k k' (Requests (request.Remove app locale)) incoming l m h f a = taken_within most (place_of app locale) _ h
done_within limits most k k' (Requests (request.List app)) incoming l m h f a = h
done_within limits most k k' (LooksUp app locale path) incoming l m h f a = h

-- only what is done changes files
not_done : (call : Call) (incoming : Option (List ℕ)) (r : Response) (files : Files) → (r ≡ Replies reply.Done) ⊎ (files_then call incoming r files ≡ files)
not_done call incoming (Replies reply.Done) files = inl refl
not_done call incoming (Replies (reply.Names names)) files = inr refl
not_done call incoming (Replies reply.BadApp) files = inr refl
not_done call incoming (Replies reply.Reserved) files = inr refl
not_done call incoming (Replies reply.BadLocale) files = inr refl
not_done call incoming (Replies reply.BadText) files = inr refl
not_done call incoming (Replies reply.BadFile) files = inr refl
not_done call incoming (Replies reply.Exists) files = inr refl
not_done call incoming (Replies reply.Absent) files = inr refl
not_done call incoming (Replies reply.Full) files = inr refl
not_done call incoming (Replies reply.Memory) files = inr refl
not_done call incoming (Finds hit valid) files = inr refl
not_done call incoming (NotFound e) files = inr refl

-- ---- a step, and a history

answered_within : (limits : Limits) (most : ℕ) (k k' : Kept) (call : Call) (incoming : Option (List ℕ)) (o : Outcome) → limits.app_bytes ≡ Some most
    → most ≤ 2 ^ 64 - 1 → bytes_of (files_of (caller call) k.packages) ≤ most → IsAnswered limits k call incoming o k'
    → bytes_of (files_of (caller call) k'.packages) ≤ most
answered_within limits most k k' call incoming o l m h a =
    rw a.own (elim (not_done call incoming a.response (files_of (caller call) k.packages)) [
      | inl done ↦ rw done (done_within limits most k k' call incoming l m h a.free
          (subst (λ (r : Response). Answered (state_of k) call r (state_of k')) done a.answered))
      | inr same ↦ rw same h
    ])

step_within : (limits : Limits) (most : ℕ) (app : List ℕ) (k k' : Kept) (call : Call) (o : Outcome) → limits.app_bytes ≡ Some most → most ≤ 2 ^ 64 - 1
    → CallComesTo limits k call o k' → bytes_of (files_of app k.packages) ≤ most → bytes_of (files_of app k'.packages) ≤ most
step_within limits most app k k' call o l m (inl p) h = rw p.same h
step_within limits most app k k' call o l m (inr (x, y, inl p)) h = rw p.same h
step_within limits most app k k' call o l m (inr (incoming, y, inr p)) h = by (bytes_eq (caller call) app) refl
  where
    by : (b : Bool) → bytes_eq (caller call) app ≡ b → bytes_of (files_of app k'.packages) ≤ most
    by true e =
        let own : caller call ≡ app = (bytes_eq-Decides (caller call) app).0 e in
        subst (λ (a : List ℕ). bytes_of (files_of a k'.packages) ≤ most) own
        (answered_within limits most k k' call incoming o l m (subst (λ (a : List ℕ). bytes_of (files_of a k.packages) ≤ most) (sym own) h) p)
    by false e =
        let other : app ≡ caller call → ⊥ = λ h. false≢true (sym e ∙ (bytes_eq-Decides (caller call) app).1 (sym h)) in
        rw (p.others app other) h

pub within_quota : IsWithinQuota
within_quota limits most app s end [] l m h r = rw r h
within_quota limits most app s end (turn ∷ turns) l m h (mid, step, r) =
    within_quota limits most app mid end turns l m (step_within limits most app s mid turn.call turn.outcome l m step h) r
