-- What a client appends is plain, so that clients that are alike are so afterwards.
use Rattle.std.proofs.Common.{◌≡◌, ℕ, zero, suc, ◌+◌, ◌-◌, Bool, true, false, ◌&&◌, not, List, [], ◌∷◌, ◌++◌, Option, Some, None, Result, Ok, Err, refl, ap, ◌∙◌, if◌then◌else◌, ◌==◌, length, drop, take, nat_lt, nat_le}
use Rattle.std.specs.Prelude.{bytes_eq, ⊤}
use Rattle.sync_model.specs.Bytes.{Bytes, Uuid, Tables}
use Rattle.sync_model.specs.Profile.{Profile, apply_all, is_small, needs, first_need, all_admitted, first_outside}
use Rattle.sync_model.specs.Messages.{Change, Sent, Message, Bind, Ident, Upload, Ask, Download, Refused, Stored, Ask2, Retire, Retired, AskTables}
use Rattle.sync_model.specs.Each.{Each, no_more, and_each}
use Rattle.sync_model.specs.Clients.{Client, ClientRecord, Named, Made, Form, Subset, ClientRefusal, TooLarge, NumbersFull, OldForm, NotSubscribed, NotMine, TooLate, IdentDiffers, Gap, WasRefused, ClientStep, refuse, answers, appends, if_born, subscribed_once, is_late, took, take_one, commit, commit_born, commit_applied, upgrade, subscribe, last, entry_refusal, take_entries, take_ident, take_born, take as take_message, after_record, after_records}
use Rattle.sync_model.specs.Resets.{HeirStep, HeirAnswer, ResetRefusal, Skips, Integrated, Known, heir_refuses, heir_says, heir_commits, heir_read, heir, saved, RecoveryLine, IsHeir, Handled, Recovered, RecoveryRun, count_known, handled, says_only, recover_changes, recover_upload, recover_frame, recover_frames, recover}
use Rattle.shrink_law.specs.Short.{Alike}
use Rattle.shrink_law.proofs.Answering.{IsPlain, record_alike, commit_alike}

abbrev pub ArePlain : List ClientRecord → Type 0
ArePlain rs = Each IsPlain rs

pub plain_take : (n : ℕ) {rs : List ClientRecord} → ArePlain rs → ArePlain (take n rs)
plain_take zero h = no_more
plain_take (suc n) no_more = no_more
plain_take (suc n) (and_each h f) = and_each h (plain_take n f)

pub plain_append : {rs ts : List ClientRecord} → ArePlain rs → ArePlain ts → ArePlain (rs ++ ts)
plain_append no_more g = g
plain_append (and_each h f) g = and_each h (plain_append f g)

-- a refusal appends nothing
unless : {A : Type 0} (b : Bool) (w : ClientRefusal) (y : ClientStep A) → ArePlain y.records → ArePlain (if b then refuse w else y).records
unless true w y h = no_more
unless false w y h = h

module _ {I S : Type 0} (p : Profile I S) where
  pub records_alike : (rs : List ClientRecord) (c d : Client I S) → Alike c d → ArePlain rs → Alike (after_records p c rs) (after_records p d rs)
  records_alike [] c d a no_more = a
  records_alike (r ∷ rs) c d a (and_each h f) = records_alike rs (after_record p c r) (after_record p d r) (record_alike p c d a r h) f

  -- ---- what each call appends

  applied_plain : (number ms : ℕ) (body : Bytes) (r : Result S (ℕ × ℕ)) → ArePlain (commit_applied number (Made number ms body) r).records
  applied_plain number ms body (Ok s) = and_each tt no_more
  applied_plain number ms body (Err b) = no_more

  pub commit_plain : (c : Client I S) (ms : ℕ) (edits : List I) → ArePlain (commit p c ms edits).records
  commit_plain c ms edits = on c.id
    where
      on : (o : Option Uuid) → ArePlain (if_born o (λ id. commit_born p c ms edits)).records
      on None = no_more
      on (Some id) =
          unless (not (is_small p edits)) TooLarge _ (unless (length c.made == p.full) NumbersFull _ (unless (needs p edits && not c.second) (OldForm (first_need p edits)) _ (unless (not (all_admitted p c.subset edits)) (NotSubscribed (first_outside p c.subset edits)) _ (applied_plain (suc (length c.made)) ms (p.spell edits) (apply_all p edits c.objects)))))

  pub upgrade_plain : (c : Client I S) → ArePlain (upgrade c).records
  upgrade_plain c = on c.id c.second
    where
      on : (o : Option Uuid) (b : Bool) → ArePlain (if_born o (λ id. if b then answers false else appends Form true)).records
      on None b = no_more
      on (Some id) true = no_more
      on (Some id) false = and_each tt no_more

  pub subscribe_plain : (c : Client I S) (tables : Tables) → ArePlain (subscribe c tables).records
  subscribe_plain c tables = on c.id c.subset (is_late c)
    where
      on : (o : Option Uuid) (t : Option Tables) (b : Bool) → ArePlain (if_born o (λ id. subscribed_once t (if b then refuse TooLate else appends {A = ⊤} (Subset tables) tt))).records
      on None t b = no_more
      on (Some id) (Some t) b = no_more
      on (Some id) None true = no_more
      on (Some id) None false = and_each tt no_more

  entries_plain : (es : List Sent) (c : Client I S) → ArePlain (take_entries p c es).records
  entries_plain [] c = no_more
  entries_plain (e ∷ es) c = on (entry_refusal p c e) (entries_plain es (after_record p c (took e)))
    where
      on : (o : Option ClientRefusal) → ArePlain (take_entries p (after_record p c (took e)) es).records → ArePlain (take_one o (took e) (take_entries p (after_record p c (took e)) es)).records
      on (Some w) f = no_more
      on None f = and_each tt f

  ident_plain : (c : Client I S) (ident : ℕ) → ArePlain (take_ident c ident).records
  ident_plain c ident = on (c.ident == 0) (c.ident == ident)
    where
      on : (a b : Bool) → ArePlain (if a then appends (Named ident) c.cursor else if b then answers c.cursor else refuse (IdentDiffers c.ident ident)).records
      on true b = and_each tt no_more
      on false true = no_more
      on false false = no_more

  born_plain : (c : Client I S) (m : Message) (id : Uuid) → ArePlain (take_born p c m id).records
  born_plain c (Bind u) id = no_more
  born_plain c (Upload ident changes) id = no_more
  born_plain c (Ask ident cursor settled) id = no_more
  born_plain c (Ask2 ident cursor settled) id = no_more
  born_plain c (Retire ident by) id = no_more
  born_plain c (Retired ident by number) id = no_more
  born_plain c (AskTables ident cursor settled second tables) id = no_more
  born_plain c (Ident u ident) id = on (bytes_eq u id)
    where
      on : (b : Bool) → ArePlain (if b then take_ident c ident else refuse NotMine).records
      on true = ident_plain c ident
      on false = no_more
  born_plain c (Stored ident number) id = on (ident == c.ident)
    where
      on : (b : Bool) → ArePlain (if b then answers c.cursor else refuse NotMine).records
      on true = no_more
      on false = no_more
  born_plain c (Refused ident number code place) id = on (ident == c.ident)
    where
      on : (b : Bool) → ArePlain (if b then refuse {A = ℕ} (WasRefused number code) else refuse NotMine).records
      on true = no_more
      on false = no_more
  born_plain c (Download ident from entries) id = on (ident == c.ident) (nat_lt c.cursor from)
    where
      on : (a b : Bool) → ArePlain (if a then (if b then refuse (Gap c.cursor from) else take_entries p c (drop (c.cursor - from) entries)) else refuse NotMine).records
      on true true = no_more
      on true false = entries_plain (drop (c.cursor - from) entries) c
      on false b = no_more

  pub take_plain : (c : Client I S) (m : Message) → ArePlain (take_message p c m).records
  take_plain c m = on c.id
    where
      on : (o : Option Uuid) → ArePlain (if_born o (take_born p c m)).records
      on None = no_more
      on (Some id) = born_plain c m id

  -- ---- client reset

  read_alike : (c d : Client I S) → Alike c d → (h : Change) (r : Result (List I) (ℕ × ℕ)) → heir_read p d h r ≡ heir_read p c h r
  read_alike c d a h (Ok is) =
      ap (λ o. heir_commits (saved p o is).dropped (commit p d h.ms (saved p o is).kept)) a.objects
      ∙ ap (heir_commits (saved p c.objects is).dropped) (commit_alike p c d a h.ms (saved p c.objects is).kept)
  read_alike c d a h (Err f) = refl

  pub heir_alike : (c d : Client I S) → Alike c d → (by count : ℕ) (h : Change) → heir p d by count h ≡ heir p c by count h
  heir_alike c d a by count h =
      let rest = read_alike c d a h (p.unspell h.body) in
      λ i. if not (by == a.ident i) then heir_refuses ResetRefusal.NotMine
      else if nat_lt (suc (count + a.last i)) h.number then heir_refuses (Skips (suc (count + a.last i)) h.number)
      else if nat_le h.number count then heir_says Integrated
      else if nat_le h.number (count + a.last i) then heir_says Known
      else rest i

  heir_plain : (c : Client I S) (by count : ℕ) (h : Change) → ArePlain (heir p c by count h).records
  heir_plain c by count h = on (not (by == c.ident)) (nat_lt (suc (count + last c)) h.number) (nat_le h.number count) (nat_le h.number (count + last c)) (p.unspell h.body)
    where
      read : (r : Result (List I) (ℕ × ℕ)) → ArePlain (heir_read p c h r).records
      read (Ok is) = commit_plain c h.ms (saved p c.objects is).kept
      read (Err f) = no_more

      on : (x y z t : Bool) (r : Result (List I) (ℕ × ℕ)) → ArePlain (if x then heir_refuses ResetRefusal.NotMine else if y then heir_refuses (Skips (suc (count + last c)) h.number) else if z then heir_says Integrated else if t then heir_says Known else heir_read p c h r).records
      on true y z t r = no_more
      on false true z t r = no_more
      on false false true t r = no_more
      on false false false true r = no_more
      on false false false false r = read r

  -- the same of the changes of an Upload
  abbrev One : Client I S → ℕ → Change → HeirStep
  One c count h = heir p c c.ident count h

  one_alike : (c d : Client I S) → Alike c d → (count : ℕ) (h : Change) → One d count h ≡ One c count h
  one_alike c d a count h = ap (λ k. heir p d k count h) a.ident ∙ heir_alike c d a c.ident count h

  changes_plain : (hs : List Change) (c : Client I S) (count : ℕ) → ArePlain (recover_changes p c count hs).records
  changes_plain [] c count = no_more
  changes_plain (h ∷ hs) c count = on (One c count h).answer (changes_plain hs (after_records p c (One c count h).records) count)
    where
      on : (r : Result HeirAnswer ResetRefusal) → ArePlain (recover_changes p (after_records p c (One c count h).records) count hs).records → ArePlain (handled h.number (One c count h).records r (λ new. recover_changes p (after_records p c new) count hs)).records
      on (Ok x) f = plain_append (heir_plain c c.ident count h) f
      on (Err w) f = heir_plain c c.ident count h

  changes_alike : (hs : List Change) (c d : Client I S) → Alike c d → (count : ℕ) → recover_changes p d count hs ≡ recover_changes p c count hs
  changes_alike [] c d a count = refl
  changes_alike (h ∷ hs) c d a count =
      ap (λ z. handled h.number z.records z.answer (λ new. recover_changes p (after_records p d new) count hs)) (one_alike c d a count h)
      ∙ on (One c count h).answer (changes_alike hs (after_records p c (One c count h).records) (after_records p d (One c count h).records) (records_alike (One c count h).records c d a (heir_plain c c.ident count h)) count)
    where
      on : (r : Result HeirAnswer ResetRefusal) → recover_changes p (after_records p d (One c count h).records) count hs ≡ recover_changes p (after_records p c (One c count h).records) count hs
          → handled h.number (One c count h).records r (λ new. recover_changes p (after_records p d new) count hs) ≡ handled h.number (One c count h).records r (λ new. recover_changes p (after_records p c new) count hs)
      on (Ok x) e = λ i. record { records = (One c count h).records ++ (e i).records; answer = Handled h.number x ∷ (e i).answer }
      on (Err w) e = refl

  upload_alike : (c d : Client I S) → Alike c d → (known : List (ℕ × ℕ)) (o : Option ℕ) (hs : List Change) → recover_upload p d known o hs ≡ recover_upload p c known o hs
  upload_alike c d a known None hs = refl
  upload_alike c d a known (Some count) hs =
      let e = changes_alike hs c d a count in
      λ i. record { records = (e i).records; lines = (e i).answer; known = known }

  pub frame_alike : (c d : Client I S) → Alike c d → (known : List (ℕ × ℕ)) (m : Message) → recover_frame p d known m ≡ recover_frame p c known m
  frame_alike c d a known (Retired ident by count) = λ i. if by == a.ident i then says_only ((ident, count) ∷ known) (IsHeir ident count) else says_only known (RecoveryLine.Refuses ResetRefusal.NotMine)
  frame_alike c d a known (Upload ident hs) = upload_alike c d a known (count_known ident known) hs
  frame_alike c d a known (Bind u) = refl
  frame_alike c d a known (Ident u ident) = refl
  frame_alike c d a known (Ask ident cursor settled) = refl
  frame_alike c d a known (Ask2 ident cursor settled) = refl
  frame_alike c d a known (AskTables ident cursor settled second tables) = refl
  frame_alike c d a known (Download ident from entries) = refl
  frame_alike c d a known (Stored ident number) = refl
  frame_alike c d a known (Refused ident number code place) = refl
  frame_alike c d a known (Retire ident by) = refl

  upload_plain : (c : Client I S) (known : List (ℕ × ℕ)) (o : Option ℕ) (hs : List Change) → ArePlain (recover_upload p c known o hs).records
  upload_plain c known None hs = no_more
  upload_plain c known (Some count) hs = changes_plain hs c count

  pub frame_plain : (c : Client I S) (known : List (ℕ × ℕ)) (m : Message) → ArePlain (recover_frame p c known m).records
  frame_plain c known (Retired ident by count) = on (by == c.ident)
    where
      on : (b : Bool) → ArePlain (if b then says_only ((ident, count) ∷ known) (IsHeir ident count) else says_only known (RecoveryLine.Refuses ResetRefusal.NotMine)).records
      on true = no_more
      on false = no_more
  frame_plain c known (Upload ident hs) = upload_plain c known (count_known ident known) hs
  frame_plain c known (Bind u) = no_more
  frame_plain c known (Ident u ident) = no_more
  frame_plain c known (Ask ident cursor settled) = no_more
  frame_plain c known (Ask2 ident cursor settled) = no_more
  frame_plain c known (AskTables ident cursor settled second tables) = no_more
  frame_plain c known (Download ident from entries) = no_more
  frame_plain c known (Stored ident number) = no_more
  frame_plain c known (Refused ident number code place) = no_more
  frame_plain c known (Retire ident by) = no_more

  frames_plain : (ms : List Message) (c : Client I S) (known : List (ℕ × ℕ)) → ArePlain (recover_frames p c known ms).records
  frames_plain [] c known = no_more
  frames_plain (m ∷ ms) c known = plain_append (frame_plain c known m) (frames_plain ms (after_records p c (recover_frame p c known m).records) (recover_frame p c known m).known)

  -- a frame, and what the rest of the run makes of it
  abbrev Run : Client I S → List Message → Recovered → RecoveryRun
  Run c ms f = record {
    records = f.records ++ (recover_frames p (after_records p c f.records) f.known ms).records;
    answer = f.lines ∷ (recover_frames p (after_records p c f.records) f.known ms).answer;
  }

  frames_alike : (ms : List Message) (c d : Client I S) → Alike c d → (known : List (ℕ × ℕ)) → recover_frames p d known ms ≡ recover_frames p c known ms
  frames_alike [] c d a known = refl
  frames_alike (m ∷ ms) c d a known =
      let f = recover_frame p c known m in
      let e = frames_alike ms (after_records p c f.records) (after_records p d f.records) (records_alike f.records c d a (frame_plain c known m)) f.known in
      let rest : Run d ms f ≡ Run c ms f = λ i. record { records = f.records ++ (e i).records; answer = f.lines ∷ (e i).answer } in
      ap (Run d ms) (frame_alike c d a known m) ∙ rest

  pub recover_alike : (c d : Client I S) → Alike c d → (frames : List Message) → recover p d frames ≡ recover p c frames
  recover_alike c d a frames = frames_alike frames c d a []

  pub recover_plain : (c : Client I S) (frames : List Message) → ArePlain (recover p c frames).records
  recover_plain c frames = frames_plain frames c []
