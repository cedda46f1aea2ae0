-- What holds of the record of a transaction, and of those that a message's entries make, holds of each record of their steps.
use Rattle.std.proofs.Common.{◌≡◌, ℕ, Bool, true, false, cond, not, ◌&&◌, List, [], ◌∷◌, Option, None, Some, Result, Ok, Err, refl, zero, suc, drop, length}
use Rattle.std.specs.Prelude.{nat_lt, ◌==◌, bytes_eq}
use Rattle.sync_data.specs.declared.instr.Instr.{Instr}
use Rattle.sync_base.specs.States.{State}
use Rattle.sync_exchange.specs.Profile.{the_profile}
use Rattle.sync_model.specs.Clients.{Client, ClientRecord, ClientRefusal, ClientStep, Named, Made, after_record, commit, commit_applied, commit_born, entry_refusal, if_born, NotSubscribed, NumbersFull, OldForm, TooLarge, refuse, take, take_born, take_entries, take_ident, take_one, took}
use Rattle.sync_model.specs.Messages.{Message, Sent, Bind, Ident, Upload, Ask, Download, Refused, Stored, Ask2, Retire, Retired, AskTables}
use Rattle.sync_model.specs.Profile.{all_admitted, apply_all, first_need, first_outside, is_small, needs}

abbrev pub Held : Type 0
Held = Client Instr State

abbrev pub AllAre : (ClientRecord → Type 0) → List ClientRecord → Type 0
AllAre Q [] = Unit {0}
AllAre Q (r ∷ rs) = Q r × AllAre Q rs

module _ (Q : ClientRecord → Type 0) where
  pub record StepIs {A : Type 0} (did : ClientStep A) : Type 0 where
    pub records : AllAre Q did.records

  none : {A : Type 0} (answer : Result A ClientRefusal) → StepIs (record { records = []; answer = answer })
  none answer = record { records = tt }

  either : {A : Type 0} (b : Bool) (u v : ClientStep A) → StepIs u → StepIs v → StepIs (cond b u v)
  either true u v h k = h
  either false u v h k = k

  unless : {A : Type 0} (b : Bool) (u v : ClientStep A) → StepIs u → (b ≡ true → StepIs v) → StepIs (cond (not b) u v)
  unless true u v h k = k refl
  unless false u v h k = h

  born_is : {A : Type 0} (id : Option (List ℕ)) (go : List ℕ → ClientStep A) → ((u : List ℕ) → StepIs (go u)) → StepIs (if_born id go)
  born_is None go h = none _
  born_is (Some u) go h = h u

  -- ---- a transaction
  applied_is : (number : ℕ) (made : ClientRecord) (r : Result State (ℕ × ℕ)) → Q made → StepIs (commit_applied number made r)
  applied_is number made (Ok s) h = record { records = (h, tt) }
  applied_is number made (Err b) h = none _

  refused : (why : ClientRefusal) → StepIs {A = ℕ} (refuse why)
  refused why = none (Err why)

  pub commit_is : (c : Held) (ms : ℕ) (is : List Instr) → (is_small the_profile is ≡ true → (n : ℕ) → Q (Made n ms (the_profile.spell is))) → StepIs (commit the_profile c ms is)
  commit_is c ms is h =
      born_is c.id (λ id. commit_born the_profile c ms is)
      (λ id. unless (is_small the_profile is) _ _ (refused TooLarge) (λ small.
      either (length c.made == the_profile.full) _ _ (refused NumbersFull)
      (either (needs the_profile is && not c.second) _ _ (refused (OldForm (first_need the_profile is)))
      (either (not (all_admitted the_profile c.subset is)) _ _ (refused (NotSubscribed (first_outside the_profile c.subset is)))
      (applied_is (suc (length c.made)) (Made (suc (length c.made)) ms (the_profile.spell is)) (apply_all the_profile is c.objects) (h small (suc (length c.made))))))))

  -- ---- a message
  abbrev pub EntriesAre : List Sent → Type 0
  EntriesAre [] = Unit {0}
  EntriesAre (e ∷ es) = Q (took e) × EntriesAre es

  abbrev pub MessageIs : Message → Type 0
  MessageIs (Download ident from entries) = EntriesAre entries
  MessageIs m = Unit {0}

  one_is : (o : Option ClientRefusal) (r : ClientRecord) (rest : ClientStep ℕ) → Q r → StepIs rest → StepIs (take_one o r rest)
  one_is (Some why) r rest h k = none _
  one_is None r rest h k = record { records = (h, k.records) }

  entries_are : (c : Held) (es : List Sent) → EntriesAre es → StepIs (take_entries the_profile c es)
  entries_are c [] h = none _
  entries_are c (e ∷ es) h =
      one_is (entry_refusal the_profile c e) (took e) (take_entries the_profile (after_record the_profile c (took e)) es) h.0 (entries_are (after_record the_profile c (took e)) es h.1)

  dropped : (n : ℕ) (es : List Sent) → EntriesAre es → EntriesAre (drop n es)
  dropped zero es h = h
  dropped (suc n) [] h = tt
  dropped (suc n) (e ∷ es) h = dropped n es h.1

  ident_is : (c : Held) (ident : ℕ) → Q (Named ident) → StepIs (take_ident c ident)
  ident_is c ident h = either (c.ident == 0) _ _ (record { records = (h, tt) }) (either (c.ident == ident) _ _ (none _) (none _))

  message_is : (c : Held) (m : Message) (id : List ℕ) → ((ident : ℕ) → Q (Named ident)) → MessageIs m → StepIs (take_born the_profile c m id)
  message_is c (Bind u) id n h = none _
  message_is c (Upload ident changes) id n h = none _
  message_is c (Ask ident cursor settled) id n h = none _
  message_is c (Ask2 ident cursor settled) id n h = none _
  message_is c (Retire ident by) id n h = none _
  message_is c (Retired ident by number) id n h = none _
  message_is c (AskTables ident cursor settled second tables) id n h = none _
  message_is c (Ident u ident) id n h = either (bytes_eq u id) _ _ (ident_is c ident (n ident)) (none _)
  message_is c (Stored ident number) id n h = either (ident == c.ident) _ _ (none _) (none _)
  message_is c (Refused ident number code place) id n h = either (ident == c.ident) _ _ (none _) (none _)
  message_is c (Download ident from entries) id n h =
      either (ident == c.ident) _ _ (either (nat_lt c.cursor from) _ _ (none _) (entries_are c (drop _ entries) (dropped _ entries h))) (none _)

  pub take_is : (c : Held) (m : Message) → ((ident : ℕ) → Q (Named ident)) → MessageIs m → StepIs (take the_profile c m)
  take_is c m n h = born_is c.id (take_born the_profile c m) (λ id. message_is c m id n h)
