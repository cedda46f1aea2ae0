-- Each change of an old client takes effect as itself or as one transaction of its heir, however often runs of recovery
-- are repeated and wherever they are stopped.
use Rattle.std.proofs.Common.{◌≡◌, ◌≢◌, ◌⊎◌, inl, inr, ⊎_elim, ℕ, zero, suc, ◌+◌, ◌-◌, ◌<◌, Bool, true, false, not, List, [], ◌∷◌, ◌++◌, Option, Some, None, Result, Ok, Err, refl, sym, ap, ap₂, ◌∙◌, subst, arith, append_assoc, append-nil, if◌then◌else◌, ◌==◌, length, take, drop, map, nat_lt, eqb-true}
use Rattle.std.specs.Prelude.{⊤, bytes_eq}
use Rattle.sync_theory.specs.Changesets.{Changeset}
use Rattle.sync_theory.specs.Grid.{rebase, tail}
use Rattle.sync_theory.proofs.Logs.{length_snoc}
use Rattle.sync_theory.proofs.World.{same_or_not}
use Rattle.sync_model.specs.Bytes.{Uuid, Tables}
use Rattle.sync_model.specs.Profile.{Profile, Lawful, Stuck, cross_changesets, is_small}
use Rattle.sync_model.specs.Messages.{Change, Sent, Message, Bind, Ident, Upload, Ask, Download, Refused, Stored, Ask2, Retire, Retired, AskTables}
use Rattle.sync_model.specs.Clients.{Client, ClientRecord, Born, Named, Made, Took, Form, Subset, Part, Floor, Original, Unsent, ClientRefusal, NotNamed, NotMine, TooLate, IdentDiffers, Gap, WasRefused, ClientStep, refuse, answers, appends, carried_to, changeset_of, ok_list, born, born_once, if_born, no_client, client_of, after_record, after_records, makes, crossed, change_of, unsent_above, to_upload_from, upload_from, upgrade, is_late, subscribed_once, subscribe, last, entry_refusal, took, take_one, take_ident, take_entries, take_born, take as take_message, Resumed, Waits, blanks}
use Rattle.sync_model.specs.Files.{is_growing, some_come, client_admits, client_opens, server_opens}
use Rattle.sync_model.specs.Each.{Each, no_more, and_each}
use Rattle.sync_model.specs.Servers.{ServerRecord, no_server, server_of, after_all, heir_of, is_given, count, serve}
use Rattle.sync_model.specs.Worlds.{at, is_there}
use Rattle.sync_model.specs.Resets.{saved, HeirAnswer, ResetRefusal, HeirStep, heir, RecoveryLine, Recovered, count_known, handled, recover_changes, recover_upload, recover_frame, recover_frames, recover}
use Rattle.sync_model.specs.Recovery.{numbers_from, HeirMove, Births, Takes, Upgrades, Subscribes, Recovers, heir_moves, heir_after, IsAnswer, IsUploaded, IsFrame, IsMove, IsRecovery, IsSaved, SavesOnce}
use Rattle.sync_model.proofs.Acknowledged.{made_more}
use Rattle.sync_model.proofs.Calling.{took_cursor}
use Rattle.sync_model.proofs.Final.{server_opens_parts, stays, answer_tells, final_of}
use Rattle.sync_model.proofs.Heirs.{IsMade, HeirDid, quiet, made, heir_did}
use Rattle.sync_model.proofs.Holding.{server_append}
use Rattle.sync_model.proofs.Limits.{both, each_append, each_take, each_tail, each_weaker, each_map, each_at, fit_each}
use Rattle.sync_model.proofs.Lists.{at_snoc_old, at_new, take_all}
use Rattle.sync_model.proofs.Own.{after_append, client_step}
use Rattle.sync_model.proofs.Small.{client_lists}

-- what holds of a list with any part of two others behind it, the second behind the whole first
cut_append : {R : Type 0} (P : List R → Type 0) (rs xs ys : List R) → ((k : ℕ) → P (rs ++ take k xs)) → ((k : ℕ) → P ((rs ++ xs) ++ take k ys)) → (k : ℕ) → P (rs ++ take k (xs ++ ys))
cut_append P rs [] ys f g k = subst (λ l. P (l ++ take k ys)) (append-nil rs) (g k)
cut_append P rs (x ∷ xs) ys f g zero = f zero
cut_append P rs (x ∷ xs) ys f g (suc k) =
    subst P (append_assoc rs (x ∷ []) (take k (xs ++ ys)))
    (cut_append P (rs ++ x ∷ []) xs ys (λ j. subst P (sym (append_assoc rs (x ∷ []) (take j xs))) (f (suc j))) (λ j. subst (λ l. P (l ++ take j ys)) (sym (append_assoc rs (x ∷ []) xs)) (g j)) k)

cut_none : {R : Type 0} (P : List R → Type 0) (rs : List R) → P rs → (k : ℕ) → P (rs ++ take k [])
cut_none P rs h zero = subst P (sym (append-nil rs)) h
cut_none P rs h (suc k) = subst P (sym (append-nil rs)) h

cut_one : {R : Type 0} (P : List R → Type 0) (rs : List R) (r : R) → P rs → P (rs ++ r ∷ []) → (k : ℕ) → P (rs ++ take k (r ∷ []))
cut_one P rs r h g zero = subst P (sym (append-nil rs)) h
cut_one P rs r h g (suc zero) = g
cut_one P rs r h g (suc (suc k)) = g

cut_whole : {R : Type 0} (P : List R → Type 0) (rs xs : List R) → ((k : ℕ) → P (rs ++ take k xs)) → P (rs ++ xs)
cut_whole P rs xs f = subst (λ l. P (rs ++ l)) (take_all xs) (f (length xs))

numbers_within : (n k i x : ℕ) → at (numbers_from k n) i ≡ Some x → x < k + n
numbers_within zero k i x e = cc
numbers_within (suc n) k zero x e = let same : k ≡ x = cc in omega arith
numbers_within (suc n) k (suc i) x e = let r = numbers_within n (suc k) i x e in omega arith

module _ {I S : Type 0} (p : Profile I S) where
  -- ---- what the old client sends stands among what it made, at its number

  record IsPlaced (ms : List (Original I)) (o : Original I) : Type 0 where
    before : ℕ
    here : at ms before ≡ Some o
    number : o.number ≡ suc before

  placed_more : (ms more : List (Original I)) (o : Original I) → IsPlaced ms o → IsPlaced (ms ++ more) o
  placed_more ms more o x = record { before = x.before; here = at_snoc_old ms more x.before o x.here; number = x.number }

  abbrev Placed : Client I S → Type 0
  Placed c = Each (λ u. IsPlaced c.made u.original) c.unsent

  carried_placed : (ms : List (Original I)) (us : List (Unsent I)) (xs : List (Changeset I)) → Each (λ u. IsPlaced ms u.original) us → Each (λ u. IsPlaced ms u.original) (carried_to us xs)
  carried_placed ms [] xs f = no_more
  carried_placed ms (u ∷ us) [] f = no_more
  carried_placed ms (u ∷ us) (x ∷ xs) (and_each h f) = and_each h (carried_placed ms us xs f)

  placed_record : (c : Client I S) (ahead : List (Option ClientRecord)) (r : ClientRecord) → client_admits p c ahead r ≡ true → Placed c → Placed (after_record p c r)
  placed_record c ahead (Born id) e f = f
  placed_record c ahead (Named ident) e f = f
  placed_record c ahead Form e f = f
  placed_record c ahead (Subset tables) e f = f
  placed_record c ahead (Part body) e f = f
  placed_record c ahead (Floor version) e f = f
  placed_record c ahead (Resumed number waiting) e f = each_weaker (λ u h. placed_more c.made (blanks (suc (length c.made)) number) u.original h) f
  placed_record c ahead (Waits number base ms body current) e f =
      let b = both (some_come c.front) _ e in
      let d = both (number == suc (length c.made)) _ b.1 in
      let o : Original I = record { base = base; number = number; ms = ms; instrs = ok_list (p.unspell body) } in
      each_append (each_weaker (λ u h. placed_more c.made (record { base = base; number = number; ms = ms; instrs = ok_list (p.unspell body) } ∷ []) u.original h) f)
      (and_each (record { before = length c.made; here = at_new c.made (record { base = base; number = number; ms = ms; instrs = ok_list (p.unspell body) }); number = eqb-true number (suc (length c.made)) d.0 }) no_more)
  placed_record c ahead (Made number ms body) e f =
      let b = both (is_there c.id) _ e in
      let g = both (not (is_growing c)) _ b.1 in
      let d = both (number == suc (length c.made)) _ g.1 in
      each_append (each_weaker (λ u h. placed_more c.made (record { base = c.cursor; number = number; ms = ms; instrs = ok_list (p.unspell body) } ∷ []) u.original h) f)
      (and_each (record { before = length c.made; here = at_new c.made (record { base = c.cursor; number = number; ms = ms; instrs = ok_list (p.unspell body) }); number = eqb-true number (suc (length c.made)) d.0 }) no_more)
  placed_record c ahead (Took origin number ms body) e f = go (origin == c.ident) (rebase (cross_changesets p) (map (changeset_of c.ident) c.unsent) (record { origin = origin; number = number; ms = ms; instrs = ok_list (p.unspell body) }))
    where
      go : (b : Bool) (r : Result (List (Changeset I) × Changeset I) (ℕ × Stuck)) → Placed (if b then record c { cursor = suc c.cursor; unsent = tail c.unsent } else crossed p c r)
      go true r = each_tail f
      go false (Ok q) = carried_placed c.made c.unsent q.0 f
      go false (Err q) = f

  -- of any beginning of what opening accepts
  placed_records : (rs ts : List ClientRecord) (c : Client I S) → client_opens p c (rs ++ ts) ≡ true → Placed c → Placed (after_records p c rs)
  placed_records [] ts c e f = f
  placed_records (r ∷ rs) ts c e f = let b = both (client_admits p c (map (λ q. Some q) (rs ++ ts)) r) (client_opens p (after_record p c r) (rs ++ ts)) e in placed_records rs ts (after_record p c r) b.1 (placed_record c (map (λ q. Some q) (rs ++ ts)) r b.0 f)

  -- a change that bears one of these
  record IsOf (ms : List (Original I)) (h : Change) : Type 0 where
    original : Original I
    is : h ≡ change_of p original
    place : IsPlaced ms original

  above_placed : (after : ℕ) (ms : List (Original I)) (us : List (Unsent I)) → Each (λ u. IsPlaced ms u.original) us → Each (λ u. IsPlaced ms u.original) (unsent_above after us)
  above_placed after ms [] f = no_more
  above_placed after ms (u ∷ us) (and_each h f) = go (nat_lt after u.original.number) (above_placed after ms us f)
    where
      go : (b : Bool) → Each (λ u. IsPlaced ms u.original) (unsent_above after us) → Each (λ u. IsPlaced ms u.original) (if b then u ∷ unsent_above after us else unsent_above after us)
      go true g = and_each h g
      go false g = g

  -- the changes of an Upload are of what its client made
  uploads_of : (c : Client I S) (after ident : ℕ) (hs : List Change) → Placed c → (upload_from p c after).answer ≡ Ok (Upload ident hs) → Each (IsOf c.made) hs
  uploads_of c after ident hs f e = at_id c.id e
    where
      sent : Each (IsOf c.made) (to_upload_from p c after)
      sent = fit_each (λ h. length h.body) p.most p.room (map (λ u. change_of p u.original) (unsent_above after c.unsent)) (each_map (λ u. change_of p u.original) (λ u x. record { original = u.original; is = refl; place = x }) (above_placed after c.made c.unsent f))

      same : (c2 : ℕ) (gs : List Change) → ◌≡◌ {A = Result Message ClientRefusal} (Ok (Upload c2 gs)) (Ok (Upload ident hs)) → gs ≡ hs
      same c2 gs g = cc

      named : (b : Bool) → (if b then refuse NotNamed else answers (Upload c.ident (to_upload_from p c after))).answer ≡ Ok (Upload ident hs) → Each (IsOf c.made) hs
      named true g = cc
      named false g = subst (Each (IsOf c.made)) (same c.ident (to_upload_from p c after) g) sent

      at_id : (o : Option Uuid) → (if_born o (λ id. if c.ident == 0 then refuse NotNamed else answers (Upload c.ident (to_upload_from p c after)))).answer ≡ Ok (Upload ident hs) → Each (IsOf c.made) hs
      at_id None g = cc
      at_id (Some id) g = named (c.ident == 0) g

  -- and stand among what it made by now
  uploaded_of : (old : List ClientRecord) (ident : ℕ) (hs : List Change) → client_opens p (no_client p) old ≡ true → IsUploaded p old ident hs → Each (IsOf (client_of p old).made) hs
  uploaded_of old ident hs opens u =
      let whole = ap (client_opens p (no_client p)) (sym u.split) ∙ opens in
      let more = made_more p (client_of p u.before) u.rest in
      let is : (client_of p old).made ≡ (client_of p u.before).made ++ more.0 = ap (λ l. (client_of p l).made) u.split ∙ ap (λ c. c.made) (after_append p (no_client p) u.before u.rest) ∙ more.1 in
      each_weaker (λ h x. record { original = x.original; is = x.is; place = subst (λ ms. IsPlaced ms x.original) (sym is) (placed_more (client_of p u.before).made more.0 x.original x.place) })
      (uploads_of (client_of p u.before) u.after ident hs (placed_records u.before u.rest (no_client p) whole no_more) u.answer)

  -- ---- records that name nobody, and those that make nothing

  abbrev NamesNone : ClientRecord → Type 0
  NamesNone (Born id) = Unit {0}
  NamesNone (Named ident) = ⊥
  NamesNone (Made number ms body) = Unit {0}
  NamesNone (Took origin number ms body) = Unit {0}
  NamesNone Form = Unit {0}
  NamesNone (Subset tables) = Unit {0}
  NamesNone (Part body) = Unit {0}
  NamesNone (Floor version) = Unit {0}
  NamesNone (Resumed number waiting) = Unit {0}
  NamesNone (Waits number base ms body current) = Unit {0}

  abbrev MakesNone : ClientRecord → Type 0
  MakesNone (Born id) = Unit {0}
  MakesNone (Named ident) = Unit {0}
  MakesNone (Made number ms body) = ⊥
  MakesNone (Took origin number ms body) = Unit {0}
  MakesNone Form = Unit {0}
  MakesNone (Subset tables) = Unit {0}
  MakesNone (Part body) = Unit {0}
  MakesNone (Floor version) = Unit {0}
  MakesNone (Resumed number waiting) = ⊥
  MakesNone (Waits number base ms body current) = ⊥

  ident_after : (c : Client I S) (r : ClientRecord) → NamesNone r → (after_record p c r).ident ≡ c.ident
  ident_after c (Born id) q = refl
  ident_after c (Named ident) q = absurd q
  ident_after c (Made number ms body) q = refl
  ident_after c Form q = refl
  ident_after c (Subset tables) q = refl
  ident_after c (Part body) q = refl
  ident_after c (Floor version) q = refl
  ident_after c (Resumed number waiting) q = refl
  ident_after c (Waits number base ms body current) q = refl
  ident_after c (Took origin number ms body) q = (took_cursor p c (record { origin = origin; number = number; ms = ms; instrs = ok_list (p.unspell body) })).1

  ident_after_all : (c : Client I S) (rs : List ClientRecord) → Each NamesNone rs → (after_records p c rs).ident ≡ c.ident
  ident_after_all c [] f = refl
  ident_after_all c (r ∷ rs) (and_each q f) = ident_after_all (after_record p c r) rs f ∙ ident_after c r q

  made_after : (c : Client I S) (r : ClientRecord) → MakesNone r → (after_record p c r).made ≡ c.made
  made_after c (Born id) q = refl
  made_after c (Named ident) q = refl
  made_after c (Made number ms body) q = absurd q
  made_after c Form q = refl
  made_after c (Subset tables) q = refl
  made_after c (Part body) q = refl
  made_after c (Floor version) q = refl
  made_after c (Resumed number waiting) q = absurd q
  made_after c (Waits number base ms body current) q = absurd q
  made_after c (Took origin number ms body) q = go (origin == c.ident) (rebase (cross_changesets p) (map (changeset_of c.ident) c.unsent) (record { origin = origin; number = number; ms = ms; instrs = ok_list (p.unspell body) }))
    where
      go : (b : Bool) (r : Result (List (Changeset I) × Changeset I) (ℕ × Stuck)) → (if b then record c { cursor = suc c.cursor; unsent = tail c.unsent } else crossed p c r).made ≡ c.made
      go true r = refl
      go false (Ok q) = refl
      go false (Err q) = refl

  entries_only : (es : List Sent) (c : Client I S) → Each (λ r. NamesNone r × MakesNone r) (take_entries p c es).records
  entries_only [] c = no_more
  entries_only (e ∷ es) c = on (entry_refusal p c e) (entries_only es (after_record p c (took e)))
    where
      on : (r : Option ClientRefusal) → Each (λ r. NamesNone r × MakesNone r) (take_entries p (after_record p c (took e)) es).records → Each (λ r. NamesNone r × MakesNone r) (take_one r (took e) (take_entries p (after_record p c (took e)) es)).records
      on (Some why) g = no_more
      on None g = and_each (tt, tt) g

  -- a message makes nothing, and names nobody who has an ident
  abbrev Takes_ : Client I S → ClientRecord → Type 0
  Takes_ c r = (c.ident ≢ 0 → NamesNone r) × MakesNone r

  message_makes : (c : Client I S) (m : Message) → Each (Takes_ c) (take_message p c m).records
  message_makes c m = at_id c.id
    where
      refused : (b : Bool) (y : ClientStep ℕ) (why : ClientRefusal) → Each (Takes_ c) y.records → Each (Takes_ c) (if b then y else refuse why).records
      refused true y why f = f
      refused false y why f = no_more

      identified : (k : ℕ) → Each (Takes_ c) (take_ident c k).records
      identified k = go (c.ident == 0) refl (c.ident == k)
        where
          go : (a : Bool) → (c.ident == 0) ≡ a → (b : Bool) → Each (Takes_ c) (if a then appends (Named k) c.cursor else (if b then answers c.cursor else refuse (IdentDiffers c.ident k))).records
          go true is b = and_each (λ ne. ne (eqb-true c.ident 0 is), tt) no_more
          go false is true = no_more
          go false is false = no_more

      downloaded : (from : ℕ) (es : List Sent) → Each (Takes_ c) (if nat_lt c.cursor from then refuse (Gap c.cursor from) else take_entries p c (drop (c.cursor - from) es)).records
      downloaded from es = go (nat_lt c.cursor from)
        where
          go : (b : Bool) → Each (Takes_ c) (if b then refuse (Gap c.cursor from) else take_entries p c (drop (c.cursor - from) es)).records
          go true = no_more
          go false = each_weaker (λ r x. (λ ne. x.0, x.1)) (entries_only (drop (c.cursor - from) es) c)

      on : (m : Message) → (id : Uuid) → Each (Takes_ c) (take_born p c m id).records
      on (Bind u) id = no_more
      on (Upload a hs) id = no_more
      on (Ask a b d) id = no_more
      on (Ask2 a b d) id = no_more
      on (AskTables a b d second tables) id = no_more
      on (Retire a b) id = no_more
      on (Retired a b d) id = no_more
      on (Ident u a) id = refused (bytes_eq u id) (take_ident c a) NotMine (identified a)
      on (Stored a b) id = refused (a == c.ident) (answers c.cursor) NotMine no_more
      on (Refused a b d e) id = refused (a == c.ident) (refuse (WasRefused b d)) NotMine no_more
      on (Download a from es) id = refused (a == c.ident) _ NotMine (downloaded from es)

      at_id : (o : Option Uuid) → Each (Takes_ c) (if_born o (take_born p c m)).records
      at_id None = no_more
      at_id (Some id) = on m id

  upgrade_only : (c : Client I S) → Each (λ r. NamesNone r × MakesNone r) (upgrade c).records
  upgrade_only c = on c.id c.second
    where
      on : (o : Option Uuid) (b : Bool) → Each (λ r. NamesNone r × MakesNone r) (if_born o (λ id. if b then answers false else appends Form true)).records
      on None b = no_more
      on (Some id) true = no_more
      on (Some id) false = and_each (tt, tt) no_more

  subscribe_only : (c : Client I S) (tables : Tables) → Each (λ r. NamesNone r × MakesNone r) (subscribe c tables).records
  subscribe_only c tables = on c.id c.subset (is_late c)
    where
      on : (o : Option Uuid) (q : Option Tables) (b : Bool) → Each (λ r. NamesNone r × MakesNone r) (if_born {A = ⊤} o (λ id. subscribed_once q (if b then refuse TooLate else appends (Subset tables) tt))).records
      on None q b = no_more
      on (Some id) (Some t) b = no_more
      on (Some id) None true = no_more
      on (Some id) None false = and_each (tt, tt) no_more

  born_only : (c : Client I S) (id : Uuid) → Each (λ r. NamesNone r × MakesNone r) (born c id).records
  born_only c id = on c.id
    where
      on : (o : Option Uuid) → Each (λ r. NamesNone r × MakesNone r) (born_once {A = ⊤} o (appends {A = ⊤} (Born id) tt)).records
      on None = and_each (tt, tt) no_more
      on (Some other) = no_more

  -- recovery names nobody

  heir_names : (c : Client I S) (b n : ℕ) (h : Change) → Each NamesNone (heir p c b n h).records
  heir_names c b n h = on (heir_did p c b n h)
    where
      on : HeirDid p c b n h (heir p c b n h) → Each NamesNone (heir p c b n h).records
      on (quiet none not_saved) = subst (Each NamesNone) (sym none) no_more
      on (made m) = subst (Each NamesNone) (sym m.records) (and_each tt no_more)

  changes_name : (hs : List Change) (c : Client I S) (n : ℕ) → Each NamesNone (recover_changes p c n hs).records
  changes_name [] c n = no_more
  changes_name (h ∷ hs) c n = on (heir p c c.ident n h).answer (λ d. changes_name hs d n)
    where
      on : (a : Result HeirAnswer ResetRefusal) → ((d : Client I S) → Each NamesNone (recover_changes p d n hs).records) → Each NamesNone (handled h.number (heir p c c.ident n h).records a (λ new. recover_changes p (after_records p c new) n hs)).records
      on (Ok a) rec = each_append (heir_names c c.ident n h) (rec (after_records p c (heir p c c.ident n h).records))
      on (Err why) rec = heir_names c c.ident n h

  frame_names : (m : Message) (c : Client I S) (known : List (ℕ × ℕ)) → Each NamesNone (recover_frame p c known m).records
  frame_names (Retired d b n) c known = go (b == c.ident)
    where
      go : (t : Bool) → Each NamesNone (if t then Rattle.sync_model.specs.Resets.says_only ((d, n) ∷ known) (Rattle.sync_model.specs.Resets.IsHeir d n) else Rattle.sync_model.specs.Resets.says_only known (Rattle.sync_model.specs.Resets.Refuses Rattle.sync_model.specs.Resets.ResetRefusal.NotMine)).records
      go true = no_more
      go false = no_more
  frame_names (Upload d hs) c known = go (count_known d known)
    where
      go : (o : Option ℕ) → Each NamesNone (recover_upload p c known o hs).records
      go None = no_more
      go (Some n) = changes_name hs c n
  frame_names (Bind u) c known = no_more
  frame_names (Ident u d) c known = no_more
  frame_names (Ask d cursor settled) c known = no_more
  frame_names (Ask2 d cursor settled) c known = no_more
  frame_names (AskTables d cursor settled second tables) c known = no_more
  frame_names (Download d from es) c known = no_more
  frame_names (Refused d number code place) c known = no_more
  frame_names (Stored d number) c known = no_more
  frame_names (Retire d b) c known = no_more

  frames_name : (ms : List Message) (c : Client I S) (known : List (ℕ × ℕ)) → Each NamesNone (recover_frames p c known ms).records
  frames_name [] c known = no_more
  frames_name (m ∷ ms) c known = each_append (frame_names m c known) (frames_name ms (after_records p c (recover_frame p c known m).records) (recover_frame p c known m).known)

  -- so a client keeps the ident that it has

  move_names : (m : HeirMove) (rs : List ClientRecord) → (client_of p rs).ident ≢ 0 → (client_of p (rs ++ heir_moves p rs m)).ident ≡ (client_of p rs).ident
  move_names m rs ne = ap (λ c. c.ident) (after_append p (no_client p) rs (heir_moves p rs m)) ∙ ident_after_all (client_of p rs) (heir_moves p rs m) (none m)
    where
      none : (m : HeirMove) → Each NamesNone (heir_moves p rs m)
      none (Births id stand) = each_take stand (each_weaker (λ r x. x.0) (born_only (client_of p rs) id))
      none (Takes m stand) = each_take stand (each_weaker (λ r x. x.0 ne) (message_makes (client_of p rs) m))
      none (Upgrades stand) = each_take stand (each_weaker (λ r x. x.0) (upgrade_only (client_of p rs)))
      none (Subscribes tables stand) = each_take stand (each_weaker (λ r x. x.0) (subscribe_only (client_of p rs) tables))
      none (Recovers frames stand) = each_take stand (frames_name frames (client_of p rs) [])

  moves_name : (ms : List HeirMove) (rs : List ClientRecord) → (client_of p rs).ident ≢ 0 → (client_of p (heir_after p rs ms)).ident ≡ (client_of p rs).ident
  moves_name [] rs ne = refl
  moves_name (m ∷ ms) rs ne = let one = move_names m rs ne in moves_name ms (rs ++ heir_moves p rs m) (λ z. ne (sym one ∙ z)) ∙ one

  -- ---- the heir's file

  module _ {Fits : S → Type 0} (law : Lawful p Fits) (server : List ServerRecord) (ident by : ℕ) (old : List ClientRecord) (server_file : server_opens p no_server server ≡ true) (old_file : client_opens p (no_client p) old ≡ true) (alone : (c : ℕ) → heir_of c (server_of p server).retired ≡ Some by → c ≡ ident) where
    abbrev final : ℕ
    final = count (server_of p server) ident

    abbrev IsGone : Type 0
    IsGone = heir_of ident (server_of p server).retired ≡ Some by

    record Holds (rs : List ClientRecord) : Type 0 where
      each : (j : ℕ) → j < length (client_of p rs).made → IsSaved p old rs (count (server_of p server) ident) j
      gone : (j : ℕ) → j < length (client_of p rs).made → heir_of ident (server_of p server).retired ≡ Some by

    -- what was saved stays
    saved_stays : (rs ts : List ClientRecord) (j : ℕ) → IsSaved p old rs final j → IsSaved p old (rs ++ ts) final j
    saved_stays rs ts j x =
        let more = made_more p (client_of p rs) ts in
        record {
          original = x.original;
          there = x.there;
          number = x.number;
          before = x.before;
          rest = x.rest ++ ts;
          stands = ap (λ l. l ++ ts) x.stands ∙ append_assoc x.before (Made (suc j) x.original.ms (p.spell (saved p (client_of p x.before).objects x.original.instrs).kept) ∷ x.rest) ts;
          so_far = x.so_far;
          transaction = ap (λ c. at c.made j) (after_append p (no_client p) rs ts) ∙ ap (λ l. at l j) more.1 ∙ at_snoc_old (client_of p rs).made more.0 j _ x.transaction;
        }

    quiet_holds : (rs : List ClientRecord) (r : ClientRecord) → MakesNone r → Holds rs → Holds (rs ++ r ∷ [])
    quiet_holds rs r q h =
        let now = client_step p rs r in
        let len : length (client_of p (rs ++ r ∷ [])).made ≡ length (client_of p rs).made = ap (λ c. length c.made) now ∙ ap length (made_after (client_of p rs) r q) in
        record { each = λ j lt. saved_stays rs (r ∷ []) j (h.each j (omega arith)); gone = λ j lt. h.gone j (omega arith) }

    quiets_hold : (ts rs : List ClientRecord) → Each MakesNone ts → Holds rs → (k : ℕ) → Holds (rs ++ take k ts)
    quiets_hold [] rs f h k = cut_none Holds rs h k
    quiets_hold (r ∷ ts) rs (and_each q f) h zero = subst Holds (sym (append-nil rs)) h
    quiets_hold (r ∷ ts) rs (and_each q f) h (suc k) = subst Holds (append_assoc rs (r ∷ []) (take k ts)) (quiets_hold ts (rs ++ r ∷ []) f (quiet_holds rs r q h) k)

    -- ---- a change is saved

    old_small : (o : Original I) (k : ℕ) → at (client_of p old).made k ≡ Some o → is_small p o.instrs ≡ true
    old_small o k e = each_at (client_of p old).made k o (client_lists p law old).made e

    made_holds : (rs : List ClientRecord) (h : Change) → IsMade p (client_of p rs) (client_of p rs).ident final h (heir p (client_of p rs) (client_of p rs).ident final h) → IsOf (client_of p old).made h → IsGone → Holds rs → Holds (rs ++ (heir p (client_of p rs) (client_of p rs).ident final h).records)
    made_holds rs h m of gone_ x = subst (λ l. Holds (rs ++ l)) (sym m.records) now
      where
        c : Client I S
        c = client_of p rs

        o : Original I
        o = of.original

        kept : List I
        kept = (saved p (client_of p rs).objects m.instrs).kept

        r : ClientRecord
        r = Made (suc (last (client_of p rs))) h.ms (p.spell (saved p (client_of p rs).objects m.instrs).kept)

        place_is : of.place.before ≡ final + last (client_of p rs)
        place_is = let a = ap (λ z. z.number) of.is in let b = of.place.number in let d = m.next in omega arith

        there_ : at (client_of p old).made (final + last (client_of p rs)) ≡ Some of.original
        there_ = ap (at (client_of p old).made) (sym place_is) ∙ of.place.here

        ms_is : h.ms ≡ of.original.ms
        ms_is = ap (λ z. z.ms) of.is

        instrs_is : m.instrs ≡ of.original.instrs
        instrs_is =
            let a = m.read in
            let b = ap (λ z. p.unspell z.body) of.is in
            let d = law.spelled of.original.instrs (old_small of.original of.place.before of.place.here) in
            cc

        back : ok_list (p.unspell (p.spell (saved p (client_of p rs).objects m.instrs).kept)) ≡ (saved p (client_of p rs).objects m.instrs).kept
        back = ap ok_list (law.spelled (saved p (client_of p rs).objects m.instrs).kept m.small)

        state : client_of p (rs ++ Made (suc (last (client_of p rs))) h.ms (p.spell (saved p (client_of p rs).objects m.instrs).kept) ∷ []) ≡ makes p (client_of p rs) (record { base = (client_of p rs).cursor; number = suc (last (client_of p rs)); ms = h.ms; instrs = (saved p (client_of p rs).objects m.instrs).kept })
        state = client_step p rs (Made (suc (last (client_of p rs))) h.ms (p.spell (saved p (client_of p rs).objects m.instrs).kept)) ∙ ap (λ is. makes p (client_of p rs) (record { base = (client_of p rs).cursor; number = suc (last (client_of p rs)); ms = h.ms; instrs = is })) back

        len : length (client_of p (rs ++ Made (suc (last (client_of p rs))) h.ms (p.spell (saved p (client_of p rs).objects m.instrs).kept) ∷ [])).made ≡ suc (last (client_of p rs))
        len = ap (λ d. length d.made) state ∙ length_snoc (client_of p rs).made (record { base = (client_of p rs).cursor; number = suc (last (client_of p rs)); ms = h.ms; instrs = (saved p (client_of p rs).objects m.instrs).kept })

        new : IsSaved p old (rs ++ Made (suc (last (client_of p rs))) h.ms (p.spell (saved p (client_of p rs).objects m.instrs).kept) ∷ []) final (last (client_of p rs))
        new = record {
          original = of.original;
          there = there_;
          number = of.place.number ∙ ap suc place_is;
          before = rs;
          rest = [];
          stands = ap₂ (λ t is. rs ++ Made (suc (last (client_of p rs))) t (p.spell (saved p (client_of p rs).objects is).kept) ∷ []) ms_is instrs_is;
          so_far = refl;
          transaction = ap (λ d. at d.made (last (client_of p rs))) state ∙ at_new (client_of p rs).made (record { base = (client_of p rs).cursor; number = suc (last (client_of p rs)); ms = h.ms; instrs = (saved p (client_of p rs).objects m.instrs).kept })
              ∙ ap₂ (λ t is. Some (record { base = (client_of p rs).cursor; number = suc (last (client_of p rs)); ms = t; instrs = (saved p (client_of p rs).objects is).kept })) ms_is instrs_is;
        }

        now : Holds (rs ++ Made (suc (last (client_of p rs))) h.ms (p.spell (saved p (client_of p rs).objects m.instrs).kept) ∷ [])
        now = record {
          each = λ j lt. ⊎_elim
              (λ is. subst (λ i. IsSaved p old (rs ++ Made (suc (last (client_of p rs))) h.ms (p.spell (saved p (client_of p rs).objects m.instrs).kept) ∷ []) final i) (sym is) new)
              (λ ne. saved_stays rs (Made (suc (last (client_of p rs))) h.ms (p.spell (saved p (client_of p rs).objects m.instrs).kept) ∷ []) j (x.each j (let l = len in omega arith)))
              (same_or_not j (last (client_of p rs)));
          gone = λ j lt. gone_;
        }

    heir_holds : (rs : List ClientRecord) (h : Change) → IsOf (client_of p old).made h → IsGone → Holds rs → (k : ℕ) → Holds (rs ++ take k (heir p (client_of p rs) (client_of p rs).ident final h).records)
    heir_holds rs h of gone_ x = on (heir_did p (client_of p rs) (client_of p rs).ident final h)
      where
        on : HeirDid p (client_of p rs) (client_of p rs).ident final h (heir p (client_of p rs) (client_of p rs).ident final h) → (k : ℕ) → Holds (rs ++ take k (heir p (client_of p rs) (client_of p rs).ident final h).records)
        on (quiet none not_saved) k = subst (λ l. Holds (rs ++ take k l)) (sym none) (cut_none Holds rs x k)
        on (made m) k =
            subst (λ l. Holds (rs ++ take k l)) (sym m.records)
            (cut_one Holds rs (Made (suc (last (client_of p rs))) h.ms (p.spell (saved p (client_of p rs).objects m.instrs).kept)) x (subst (λ l. Holds (rs ++ l)) m.records (made_holds rs h m of gone_ x)) k)

    -- ---- the changes of an Upload

    changes_hold : (hs : List Change) (rs : List ClientRecord) → Each (IsOf (client_of p old).made) hs → IsGone → Holds rs → (c : Client I S) → client_of p rs ≡ c → (k : ℕ) → Holds (rs ++ take k (recover_changes p c final hs).records)
    changes_hold [] rs f gone_ x c c_is = cut_none Holds rs x
    changes_hold (h ∷ hs) rs (and_each of f) gone_ x c c_is = on (heir p c c.ident final h).answer (λ new. changes_hold hs (rs ++ (heir p c c.ident final h).records) f gone_)
      where
        step : (k : ℕ) → Holds (rs ++ take k (heir p c c.ident final h).records)
        step = subst (λ d. (k : ℕ) → Holds (rs ++ take k (heir p d d.ident final h).records)) c_is (heir_holds rs h of gone_ x)

        on : (a : Result HeirAnswer ResetRefusal) → (Unit {0} → Holds (rs ++ (heir p c c.ident final h).records) → (d : Client I S) → client_of p (rs ++ (heir p c c.ident final h).records) ≡ d → (k : ℕ) → Holds ((rs ++ (heir p c c.ident final h).records) ++ take k (recover_changes p d final hs).records))
            → (k : ℕ) → Holds (rs ++ take k (handled h.number (heir p c c.ident final h).records a (λ new. recover_changes p (after_records p c new) final hs)).records)
        on (Ok a) rec = cut_append Holds rs (heir p c c.ident final h).records (recover_changes p (after_records p c (heir p c c.ident final h).records) final hs).records step
            (rec tt (cut_whole Holds rs (heir p c c.ident final h).records step) (after_records p c (heir p c c.ident final h).records) (after_append p (no_client p) rs (heir p c c.ident final h).records ∙ ap (λ d. after_records p d (heir p c c.ident final h).records) c_is))
        on (Err why) rec = step

    -- ---- a Retired frame

    record IsKnown (q : ℕ × ℕ) : Type 0 where
      who : q.0 ≡ ident
      many : q.1 ≡ count (server_of p server) ident
      gone : heir_of ident (server_of p server).retired ≡ Some by

    answer_known : (c b n : ℕ) → IsAnswer p server c b n → b ≡ by → IsKnown (c, n)
    answer_known c b n a is =
        let opens = server_opens_parts p no_server (a.before ++ (serve p (server_of p a.before) (Retire c b)).records) a.rest (ap (server_opens p no_server) (sym a.split) ∙ server_file) in
        let t = answer_tells p (server_of p a.before) c b n a.answer in
        let here : server_of p (a.before ++ (serve p (server_of p a.before) (Retire c b)).records) ≡ after_all p (server_of p a.before) (serve p (server_of p a.before) (Retire c b)).records = server_append p no_server a.before (serve p (server_of p a.before) (Retire c b)).records in
        let st = stays p a.rest (server_of p (a.before ++ (serve p (server_of p a.before) (Retire c b)).records)) c b opens.1 (ap (λ s. heir_of c s.retired) here ∙ t.retired) in
        let now : server_of p server ≡ after_all p (server_of p (a.before ++ (serve p (server_of p a.before) (Retire c b)).records)) a.rest = ap (server_of p) a.split ∙ server_append p no_server (a.before ++ (serve p (server_of p a.before) (Retire c b)).records) a.rest in
        let retired_ : heir_of c (server_of p server).retired ≡ Some b = ap (λ s. heir_of c s.retired) now ∙ st.retired in
        let counted_ : count (server_of p server) c ≡ n = ap (λ s. count s c) now ∙ st.counted ∙ ap (λ s. count s c) here ∙ t.kept ∙ sym t.counted in
        let who_ : c ≡ ident = alone c (retired_ ∙ ap (λ x. Some x) is) in
        record {
          who = who_;
          many = sym counted_ ∙ ap (count (server_of p server)) who_;
          gone = ap (λ d. heir_of d (server_of p server).retired) (sym who_) ∙ retired_ ∙ ap (λ x. Some x) is;
        }

    -- what a look-up finds was put there
    found_known : (c : ℕ) (known : List (ℕ × ℕ)) (n : ℕ) → Each IsKnown known → count_known c known ≡ Some n → IsKnown (c, n)
    found_known c [] n f e = cc
    found_known c (q ∷ qs) n (and_each g f) e = go (c == q.0) refl e (found_known c qs n f)
      where
        go : (b : Bool) → (c == q.0) ≡ b → (if b then Some q.1 else count_known c qs) ≡ Some n → (count_known c qs ≡ Some n → IsKnown (c, n)) → IsKnown (c, n)
        go true b_is h ih = let is = eqb-true c q.0 b_is in let same : q.1 ≡ n = cc in record { who = is ∙ g.who; many = sym same ∙ g.many; gone = g.gone }
        go false b_is h ih = ih h

    -- and so was its heir
    answer_named : (c b n : ℕ) → IsAnswer p server c b n → b ≡ 0 → ⊥
    answer_named c b n a is = not_given (sym (ap (is_given (server_of p a.before)) is) ∙ (answer_tells p (server_of p a.before) c b n a.answer).given)
      where
        not_given : is_given (server_of p a.before) 0 ≡ true → ⊥
        not_given e = cc

    -- ---- one frame

    -- the client has no ident, or this one
    abbrev IsNamed : Client I S → Type 0
    IsNamed c = (c.ident ≡ 0) ⊎ (c.ident ≡ by)

    record FrameHolds (rs : List ClientRecord) (did : Recovered) : Type 0 where
      cut : (k : ℕ) → Holds (rs ++ take k did.records)
      known : Each IsKnown did.known

    frame_holds : (m : Message) (rs : List ClientRecord) (known : List (ℕ × ℕ)) → IsFrame p server ident old m → Each IsKnown known → Holds rs → (c : Client I S) → client_of p rs ≡ c → IsNamed c → FrameHolds rs (recover_frame p c known m)
    frame_holds (Retired d b n) rs known a f x c c_is named = go (b == c.ident) refl
      where
        go : (t : Bool) → (b == c.ident) ≡ t → FrameHolds rs (if t then Rattle.sync_model.specs.Resets.says_only ((d, n) ∷ known) (Rattle.sync_model.specs.Resets.IsHeir d n) else Rattle.sync_model.specs.Resets.says_only known (Rattle.sync_model.specs.Resets.Refuses Rattle.sync_model.specs.Resets.ResetRefusal.NotMine))
        go true t_is = record { cut = cut_none Holds rs x; known = and_each (⊎_elim (λ z. absurd (answer_named d b n a (eqb-true b c.ident t_is ∙ z))) (λ is. answer_known d b n a (eqb-true b c.ident t_is ∙ is)) named) f }
        go false t_is = record { cut = cut_none Holds rs x; known = f }
    frame_holds (Upload d hs) rs known u f x c c_is named = go (count_known d known) refl
      where
        go : (o : Option ℕ) → count_known d known ≡ o → FrameHolds rs (recover_upload p c known o hs)
        go None o_is = record { cut = cut_none Holds rs x; known = f }
        go (Some n) o_is =
            let g = found_known d known n f o_is in
            record {
              cut = subst (λ i. (k : ℕ) → Holds (rs ++ take k (recover_changes p c i hs).records)) (sym g.many) (changes_hold hs rs (uploaded_of old d hs old_file (u g.who)) g.gone x c c_is);
              known = f;
            }
    frame_holds (Bind u) rs known a f x c c_is named = record { cut = cut_none Holds rs x; known = f }
    frame_holds (Ident u d) rs known a f x c c_is named = record { cut = cut_none Holds rs x; known = f }
    frame_holds (Ask d cursor settled) rs known a f x c c_is named = record { cut = cut_none Holds rs x; known = f }
    frame_holds (Ask2 d cursor settled) rs known a f x c c_is named = record { cut = cut_none Holds rs x; known = f }
    frame_holds (AskTables d cursor settled second tables) rs known a f x c c_is named = record { cut = cut_none Holds rs x; known = f }
    frame_holds (Download d from es) rs known a f x c c_is named = record { cut = cut_none Holds rs x; known = f }
    frame_holds (Refused d number code place) rs known a f x c c_is named = record { cut = cut_none Holds rs x; known = f }
    frame_holds (Stored d number) rs known a f x c c_is named = record { cut = cut_none Holds rs x; known = f }
    frame_holds (Retire d b) rs known a f x c c_is named = record { cut = cut_none Holds rs x; known = f }

    frames_hold : (ms : List Message) (rs : List ClientRecord) (known : List (ℕ × ℕ)) → Each (IsFrame p server ident old) ms → Each IsKnown known → Holds rs → (c : Client I S) → client_of p rs ≡ c → IsNamed c → (k : ℕ) → Holds (rs ++ take k (recover_frames p c known ms).records)
    frames_hold [] rs known a f x c c_is named = cut_none Holds rs x
    frames_hold (m ∷ ms) rs known (and_each a more) f x c c_is named =
        let g = frame_holds m rs known a f x c c_is named in
        let same = ident_after_all c (recover_frame p c known m).records (frame_names m c known) in
        cut_append Holds rs (recover_frame p c known m).records (recover_frames p (after_records p c (recover_frame p c known m).records) (recover_frame p c known m).known ms).records g.cut
        (frames_hold ms (rs ++ (recover_frame p c known m).records) (recover_frame p c known m).known more g.known (cut_whole Holds rs (recover_frame p c known m).records g.cut)
        (after_records p c (recover_frame p c known m).records)
        (after_append p (no_client p) rs (recover_frame p c known m).records ∙ ap (λ d. after_records p d (recover_frame p c known m).records) c_is)
        (⊎_elim (λ z. inl (same ∙ z)) (λ is. inr (same ∙ is)) named))

    -- ---- moves

    move_holds : (m : HeirMove) (rs : List ClientRecord) → IsMove p server ident old m → IsNamed (client_of p rs) → Holds rs → Holds (rs ++ heir_moves p rs m)
    move_holds (Births id stand) rs a named x = quiets_hold (born (client_of p rs) id).records rs (each_weaker (λ r y. y.1) (born_only (client_of p rs) id)) x stand
    move_holds (Takes m stand) rs a named x = quiets_hold (take_message p (client_of p rs) m).records rs (each_weaker (λ r y. y.1) (message_makes (client_of p rs) m)) x stand
    move_holds (Upgrades stand) rs a named x = quiets_hold (upgrade (client_of p rs)).records rs (each_weaker (λ r y. y.1) (upgrade_only (client_of p rs))) x stand
    move_holds (Subscribes tables stand) rs a named x = quiets_hold (subscribe (client_of p rs) tables).records rs (each_weaker (λ r y. y.1) (subscribe_only (client_of p rs) tables)) x stand
    move_holds (Recovers frames stand) rs a named x = frames_hold frames rs [] a no_more x (client_of p rs) refl named stand

    moves_hold : (ms : List HeirMove) (rs : List ClientRecord) → Each (IsMove p server ident old) ms → (client_of p (heir_after p rs ms)).ident ≡ by → Holds rs → Holds (heir_after p rs ms)
    moves_hold [] rs f named x = x
    moves_hold (m ∷ ms) rs (and_each a f) named x =
        moves_hold ms (rs ++ heir_moves p rs m) f named
        (move_holds m rs a (⊎_elim (λ z. inl z) (λ ne. inr (sym (moves_name (m ∷ ms) rs ne) ∙ named)) (same_or_not (client_of p rs).ident 0)) x)

    saves_from : (first : List ClientRecord) (moves : List HeirMove) → (client_of p (heir_after p first moves)).ident ≡ by → (client_of p first).made ≡ [] → Each (IsMove p server ident old) moves → SavesOnce p server ident by old (heir_after p first moves)
    saves_from first moves named nothing frames =
        let none : length (client_of p first).made ≡ 0 = ap length nothing in
        let x = moves_hold moves first frames named (record { each = λ j lt. absurd (omega arith); gone = λ j lt. absurd (omega arith) }) in
        record {
          each = x.each;
          retired = x.gone;
          never_both = λ j lt more opens k e.
              let f = final_of p law server more ident by server_file (x.gone j lt) opens in
              let w = numbers_within final 1 k (suc (final + j)) (ap (λ l. at l k) (sym f.numbers) ∙ e) in
              omega arith;
        }

  pub saves_once : {Fits : S → Type 0} → Lawful p Fits → (server : List ServerRecord) (ident by : ℕ) (old first : List ClientRecord) (moves : List HeirMove) → IsRecovery p server ident by old first moves → SavesOnce p server ident by old (heir_after p first moves)
  saves_once law server ident by old first moves r = saves_from law server ident by old r.server_file r.old_file r.alone first moves r.named r.nothing_made r.frames
