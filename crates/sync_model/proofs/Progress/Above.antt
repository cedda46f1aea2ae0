-- A client whose settled number is at or above a version asks and uploads from there on, and stays above it whatever it does.
use Rattle.std.proofs.Common.{⊎_elim, ℕ, zero, suc, ◌-◌, ◌≤◌, Bool, true, false, ◌&&◌, not, List, [], ◌∷◌, Option, Some, None, Result, Ok, Err, arith, if◌then◌else◌, ◌==◌, length, map, nat_le}
use Rattle.std.specs.Prelude.{nat_lt}
use Rattle.sync_theory.specs.Changesets.{Changeset}
use Rattle.sync_theory.specs.Grid.{rebase, tail}
use Rattle.sync_model.specs.Bytes.{Tables}
use Rattle.sync_model.specs.Profile.{Profile, Stuck, cross_changesets, fitting, needs}
use Rattle.sync_model.specs.Messages.{Change, Message, Bind, Ident, Upload, Ask, Download, Refused, Stored, Ask2, Retire, Retired, AskTables}
use Rattle.sync_model.specs.Clients.{Client, ClientRecord, Born, Named, Made, Took, Form, Subset, Unsent, changeset_of, carried_to, settled_from, change_of, to_upload, question, ok_list, after_record, after_records, takes_entry, crossed, take as take_message, Resumed, Waits}
use Rattle.sync_model.specs.Servers.{Server, ServerRecord, ServerStep, ServerRefusal, NoSuchIdent, IdentsFull, AheadOfHistory, NeedsForm2, SelfRetire, RetiredBy, place_of, count, is_given, heir_of, merge, merged, marking, serve, serve_changes, retire_for, download, download_first, download_tables, first_form, if_there, entries_from, refuses, replies, after_all}
use Rattle.sync_model.specs.Each.{Each, no_more, and_each}
use Rattle.sync_model.proofs.Alike.{LowChange, IsLow}
use Rattle.sync_model.proofs.Limits.{each_append}
use Rattle.sync_model.proofs.Progress.Late.{IsTold, takes_told}

-- what a client appends once it has joined
abbrev pub IsCall : ClientRecord → Type 0
IsCall (Born id) = ⊥
IsCall (Named ident) = Unit {0}
IsCall (Made number ms body) = Unit {0}
IsCall (Took origin number ms body) = Unit {0}
IsCall Form = Unit {0}
IsCall (Subset tables) = Unit {0}
IsCall (ClientRecord.Part body) = ⊥
IsCall (ClientRecord.Floor version) = ⊥
IsCall (Resumed number waiting) = ⊥
IsCall (Waits number base ms body current) = ⊥

told_called : {rs : List ClientRecord} → Each IsTold rs → Each IsCall rs
told_called no_more = no_more
told_called (and_each {x = Named ident} h e) = and_each tt (told_called e)
told_called (and_each {x = Took origin number ms body} h e) = and_each tt (told_called e)
told_called (and_each {x = Born id} h e) = absurd h
told_called (and_each {x = Made number ms body} h e) = absurd h
told_called (and_each {x = Form} h e) = absurd h
told_called (and_each {x = Subset tables} h e) = absurd h
told_called (and_each {x = ClientRecord.Part body} h e) = absurd h
told_called (and_each {x = ClientRecord.Floor version} h e) = absurd h
told_called (and_each {x = Resumed number waiting} h e) = absurd h
told_called (and_each {x = Waits number base ms body current} h e) = absurd h

-- a reply, which asks for nothing
abbrev pub IsReply : Message → Type 0
IsReply (Bind u) = ⊥
IsReply (Ident u c) = Unit {0}
IsReply (Upload c hs) = ⊥
IsReply (Ask c cursor settled) = ⊥
IsReply (Ask2 c cursor settled) = ⊥
IsReply (AskTables c cursor settled second tables) = ⊥
IsReply (Download c from es) = Unit {0}
IsReply (Refused c number code place) = Unit {0}
IsReply (Stored c number) = Unit {0}
IsReply (Retire c by) = ⊥
IsReply (Retired c by number) = Unit {0}

pub reply_high : (floor : ℕ) (m : Message) → IsReply m → IsLow floor m → ⊥
reply_high floor (Bind u) r l = r
reply_high floor (Ident u c) r l = l
reply_high floor (Upload c hs) r l = r
reply_high floor (Ask c cursor settled) r l = r
reply_high floor (Ask2 c cursor settled) r l = r
reply_high floor (AskTables c cursor settled second tables) r l = r
reply_high floor (Download c from es) r l = l
reply_high floor (Refused c number code place) r l = l
reply_high floor (Stored c number) r l = l
reply_high floor (Retire c by) r l = r
reply_high floor (Retired c by number) r l = l

module _ {I S : Type 0} (p : Profile I S) where
  -- ---- what a server answers

  first_replies : (c k : ℕ) (xs : List (Changeset I)) → IsReply (download_first p c k xs).answer
  first_replies c k [] = tt
  first_replies c k (x ∷ xs) = go (needs p x.instrs)
    where
      go : (b : Bool) → IsReply (if b then refuses c 0 (NeedsForm2 k) else download p c k (first_form p (x ∷ xs))).answer
      go true = tt
      go false = tt

  tables_reply : (second : Bool) (tables : Tables) (c k : ℕ) (xs : List (Changeset I)) → IsReply (download_tables p second tables c k xs).answer
  tables_reply true tables c k xs = tt
  tables_reply false tables c k xs = first_replies c k (map (Rattle.sync_model.specs.Profile.restricted p (Some tables)) xs)

  ask_replies : (s : Server I) (c k settled : ℕ) (f : List (Changeset I) → ServerStep) → ((xs : List (Changeset I)) → IsReply (f xs).answer) → IsReply (if_there p s c k settled f).answer
  ask_replies s c k settled f all = go (is_given s c) (nat_lt (length s.log) k)
    where
      go : (a b : Bool) → IsReply (if not a then refuses c 0 (NoSuchIdent (length s.ids)) else (if b then refuses c 0 (AheadOfHistory (length s.log)) else marking c (s.marks c) k settled (f (entries_from p s.log (length s.log - k) k)).answer)).answer
      go false b = tt
      go true true = tt
      go true false = all (entries_from p s.log (length s.log - k) k)

  upload_replies : (hs : List Change) (s : Server I) (c : ℕ) → IsReply (serve_changes p s c hs).answer
  upload_replies [] s c = tt
  upload_replies (h ∷ hs) s c = go (nat_le h.number (count s c)) (merge p s c h) (upload_replies hs)
    where
      go : (b : Bool) (r : Result (List ServerRecord) ServerRefusal) → ((t : Server I) (d : ℕ) → IsReply (serve_changes p t d hs).answer) → IsReply (if b then serve_changes p s c hs else merged c h.number r (λ new. serve_changes p (after_all p s new) c hs)).answer
      go true r rec = rec s c
      go false (Ok new) rec = rec (after_all p s new) c
      go false (Err why) rec = tt

  pub serve_replies : (s : Server I) (m : Message) → IsReply (serve p s m).answer
  serve_replies s (Bind u) = go (place_of u s.ids == 0) (length s.ids == p.full)
    where
      go : (a b : Bool) → IsReply (if not a then replies (Ident u (place_of u s.ids)) else (if b then refuses 0 0 (IdentsFull (length s.ids)) else record { records = ServerRecord.Client u ∷ []; answer = Ident u (suc (length s.ids)) })).answer
      go false b = tt
      go true true = tt
      go true false = tt
  serve_replies s (Upload c hs) = go (is_given s c)
    where
      go : (a : Bool) → IsReply (if a then serve_changes p s c hs else refuses c 0 (NoSuchIdent (length s.ids))).answer
      go true = upload_replies hs s c
      go false = tt
  serve_replies s (Ask c k t) = ask_replies s c k t (download_first p c k) (first_replies c k)
  serve_replies s (Ask2 c k t) = ask_replies s c k t (download p c k) (λ xs. tt)
  serve_replies s (AskTables c k t second tables) = ask_replies s c k t (download_tables p second tables c k) (tables_reply second tables c k)
  serve_replies s (Retire c by) = go (is_given s c && is_given s by) (c == by) (heir_of c s.retired)
    where
      for_whom : (o : Option ℕ) → IsReply (retire_for s c by o).answer
      for_whom None = tt
      for_whom (Some other) = same (other == by)
        where
          same : (b : Bool) → IsReply (if b then replies (Message.Retired c by (count s c)) else refuses by 0 (RetiredBy other)).answer
          same true = tt
          same false = tt

      go : (a b : Bool) (o : Option ℕ) → IsReply (if not a then refuses by 0 (NoSuchIdent (length s.ids)) else (if b then refuses by 0 (SelfRetire c) else retire_for s c by o)).answer
      go false b o = tt
      go true true o = tt
      go true false o = for_whom o
  serve_replies s (Ident u c) = tt
  serve_replies s (Download c k es) = tt
  serve_replies s (Stored c k) = tt
  serve_replies s (Refused c k a b) = tt
  serve_replies s (Retired c by k) = tt

  -- ---- a client

  -- it stands, and its unsent changes begin, at or above a version
  pub record Above (floor : ℕ) (c : Client I S) : Type 0 where
    pub cursor : floor ≤ c.cursor
    pub bases : Each (λ (u : Unsent I). floor ≤ u.original.base) c.unsent

  tail_above : {floor : ℕ} (us : List (Unsent I)) → Each (λ (u : Unsent I). floor ≤ u.original.base) us → Each (λ (u : Unsent I). floor ≤ u.original.base) (tail us)
  tail_above [] e = no_more
  tail_above (u ∷ us) (and_each h e) = e

  carried_above : {floor : ℕ} (us : List (Unsent I)) (xs : List (Changeset I)) → Each (λ (u : Unsent I). floor ≤ u.original.base) us → Each (λ (u : Unsent I). floor ≤ u.original.base) (carried_to us xs)
  carried_above [] xs e = no_more
  carried_above (u ∷ us) [] e = no_more
  carried_above (u ∷ us) (x ∷ xs) (and_each h e) = and_each h (carried_above us xs e)

  entry_above : (floor : ℕ) (c : Client I S) (x : Changeset I) → Above floor c → Above floor (takes_entry p c x)
  entry_above floor c x a = go (x.origin == c.ident) (rebase (cross_changesets p) (map (changeset_of c.ident) c.unsent) x)
    where
      on : (r : Result (List (Changeset I) × Changeset I) (ℕ × Stuck)) → Above floor (crossed p c r)
      on (Ok q) = let k = a.cursor in record { cursor = omega arith; bases = carried_above c.unsent q.0 a.bases }
      on (Err f) = let k = a.cursor in record { cursor = omega arith; bases = a.bases }

      go : (b : Bool) (r : Result (List (Changeset I) × Changeset I) (ℕ × Stuck)) → Above floor (if b then record c { cursor = suc c.cursor; unsent = tail c.unsent } else crossed p c r)
      go true r = let k = a.cursor in record { cursor = omega arith; bases = tail_above c.unsent a.bases }
      go false r = on r

  made_above : (floor : ℕ) (c : Client I S) (number ms : ℕ) (body : List ℕ) → Above floor c → Above floor (after_record p c (Made number ms body))
  made_above floor c number ms body a = record { cursor = a.cursor; bases = each_append a.bases (and_each a.cursor no_more) }

  pub called_above : (floor : ℕ) (rs : List ClientRecord) (c : Client I S) → Each IsCall rs → Above floor c → Above floor (after_records p c rs)
  called_above floor [] c e a = a
  called_above floor (Named ident ∷ rs) c (and_each h e) a = called_above floor rs (after_record p c (Named ident)) e (record { cursor = a.cursor; bases = a.bases })
  called_above floor (Took origin number ms body ∷ rs) c (and_each h e) a = called_above floor rs (after_record p c (Took origin number ms body)) e (entry_above floor c (record { origin = origin; number = number; ms = ms; instrs = ok_list (p.unspell body) }) a)
  called_above floor (Made number ms body ∷ rs) c (and_each h e) a = called_above floor rs (after_record p c (Made number ms body)) e (made_above floor c number ms body a)
  called_above floor (Form ∷ rs) c (and_each h e) a = called_above floor rs (after_record p c Form) e (record { cursor = a.cursor; bases = a.bases })
  called_above floor (Subset tables ∷ rs) c (and_each h e) a = called_above floor rs (after_record p c (Subset tables)) e (record { cursor = a.cursor; bases = a.bases })
  called_above floor (Born id ∷ rs) c (and_each h e) a = absurd h
  called_above floor (ClientRecord.Part body ∷ rs) c (and_each h e) a = absurd h
  called_above floor (ClientRecord.Floor version ∷ rs) c (and_each h e) a = absurd h
  called_above floor (Resumed number waiting ∷ rs) c (and_each h e) a = absurd h
  called_above floor (Waits number base ms body current ∷ rs) c (and_each h e) a = absurd h

  pub takes_called : (c : Client I S) (m : Message) → Each IsCall (take_message p c m).records
  takes_called c m = told_called (takes_told p c m)

  -- ---- what it sends

  fitting_high : (floor : ℕ) (us : List (Unsent I)) (n room : ℕ) → Each (λ (u : Unsent I). floor ≤ u.original.base) us → LowChange floor (fitting (λ (h : Change). length h.body) n room (map (λ u. change_of p u.original) us)) → ⊥
  fitting_high floor [] n room e l = l
  fitting_high floor (u ∷ us) zero room e l = l
  fitting_high floor (u ∷ us) (suc n) room (and_each h e) l = go (nat_le (length (change_of p u.original).body) room) l (fitting_high floor us n (room - length (change_of p u.original).body) e)
    where
      go : (b : Bool) → LowChange floor (if b then change_of p u.original ∷ fitting (λ (h : Change). length h.body) n (room - length (change_of p u.original).body) (map (λ u. change_of p u.original) us) else [])
          → (LowChange floor (fitting (λ (h : Change). length h.body) n (room - length (change_of p u.original).body) (map (λ u. change_of p u.original) us)) → ⊥) → ⊥
      go true k rec = ⊎_elim (λ lt. absurd (omega arith)) rec k
      go false k rec = k

  pub uploads_high : (floor : ℕ) (c : Client I S) → Above floor c → LowChange floor (to_upload p c) → ⊥
  uploads_high floor c a l = fitting_high floor c.unsent p.most p.room a.bases l

  pub asks_high : (floor : ℕ) (c : Client I S) (o : Option Tables) → Above floor c → IsLow floor (question c o) → ⊥
  asks_high floor c None a l = on c.second l
    where
      on : (b : Bool) → IsLow floor (if b then Ask2 c.ident c.cursor (settled_from c.cursor c.unsent) else Ask c.ident c.cursor (settled_from c.cursor c.unsent)) → ⊥
      on true k = let h = a.cursor in omega arith
      on false k = let h = a.cursor in omega arith
  asks_high floor c (Some t) a l = let h = a.cursor in omega arith
