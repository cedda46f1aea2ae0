-- What the heir's call answers, and what it leaves.
use Rattle.std.specs.Prelude.{◌≡◌, ◌↔◌, ◌⊎◌, true, List, ◌++◌, map, Option, None, Some, Result, Ok, Err, IsErrOf}
use Rattle.std.specs.Option.{option_map}
use Rattle.sync_disk.specs.declared.disk.Disk.{Ghosts}
use Rattle.sync_journal.specs.Several.{Asks}
use Rattle.sync_messages.specs.Parts.{ChangeParts, RetiredParts}
use Rattle.sync_model.specs.Clients.{ClientRecord, client_of}
use Rattle.sync_model.specs.Resets.{ByClient, HeirAnswer, HeirStep, ResetRefusal, heir, heir_read}
use Rattle.sync_exchange.specs.Profile.{the_profile, unspell}
use Rattle.sync_exchange.specs.Seen.{change_seen, client_bytes}
use Rattle.sync_client.specs.Clients.{AskedFor, IsClientOf, IsStored, Leaves, is_closed}
use Rattle.sync_client.specs.Refusals.{refusal_seen}
use Rattle.sync_client.specs.declared.client.Client.{Client}
use Rattle.sync_client.specs.declared.refusal.ClientRefusal.TheVariants as codes
use Rattle.sync_heir.specs.declared.answer.Heir.{Heir}
use Rattle.sync_heir.specs.declared.answer.Heir.TheVariants as heirs
use Rattle.sync_heir.specs.declared.refusal.ResetRefusal.{ResetRefusal as CodeReset}
use Rattle.sync_heir.specs.declared.refusal.ResetRefusal.TheVariants as resets
use Rattle.sync_reset.specs.Saved.{drops}

-- ---- the answers of the code as those of the model; in the model memory never runs out
abbrev pub heir_seen : Heir → HeirAnswer
heir_seen heirs.Integrated = HeirAnswer.Integrated
heir_seen heirs.Known = HeirAnswer.Known
heir_seen (heirs.Saved number dropped) = HeirAnswer.SavedAs number (drops dropped)

abbrev pub reset_seen : CodeReset → Option ResetRefusal
reset_seen resets.NotMine = Some ResetRefusal.NotMine
reset_seen (resets.Skips expected got) = Some (ResetRefusal.Skips expected got)
reset_seen (resets.BadChange number offset rule) = Some (ResetRefusal.BadChange number offset rule)
reset_seen (resets.Client why) = option_map (λ w. ByClient w) (refusal_seen why)
reset_seen resets.NoMemory = None

-- a refusal that the model knows has this cause
abbrev pub IfReset : Option ResetRefusal → (ResetRefusal → Type 0) → Type 0
IfReset None Cause = Unit {0}
IfReset (Some why) Cause = Cause why

-- ---- the step of a client of these records
abbrev pub heir_step : List ClientRecord → RetiredParts → ChangeParts → HeirStep
heir_step records retired change = heir the_profile (client_of the_profile records) retired.by retired.number (change_seen change)

-- where the change is the next one that it saves
abbrev pub save_step : List ClientRecord → ChangeParts → HeirStep
save_step records change = heir_read the_profile (client_of the_profile records) (change_seen change) (unspell change.body)

-- the bytes of the change have this fault
abbrev pub IsUnread : ChangeParts → CodeReset → Type 0
IsUnread change (resets.BadChange number offset rule) = (number ≡ change.number) × (unspell change.body ≡ Err (offset, rule))
IsUnread change resets.NoMemory = Unit {0}
IsUnread change why = ⊥

-- ---- what the call leaves
module _ {D : Type 0} {G : Ghosts D} where
  -- it did so
  pub record HeirDid (did : HeirStep) (answer : Result HeirAnswer ResetRefusal) (records : List ClientRecord) (c : Client D G) : Type 0 where
    pub answer_is : did.answer ≡ answer
    pub client : IsClientOf (records ++ did.records) c

  -- it answered as defined and appended the step's records; out of memory, a fault and a closed client are told elsewhere
  abbrev pub HeirSays : HeirStep → List ClientRecord → Client D G → Result Heir CodeReset → Type 0
  HeirSays did records new (Ok a) = HeirDid did (Ok (heir_seen a)) records new
  HeirSays did records new (Err why) = IfReset (reset_seen why) (λ w. HeirDid did (Err w) records new)

  -- and the disk holds them
  abbrev pub HeirStores : HeirStep → List ClientRecord → Client D G → Result Heir CodeReset → Type 0
  HeirStores did records new (Ok a) = IsStored (records ++ did.records) new
  HeirStores did records new (Err why) = IfReset (reset_seen why) (λ w. IsStored (records ++ did.records) new)

  -- the disk was asked for the appends of the step's records, as a transaction asks
  abbrev pub HeirAsked : HeirStep → Client D G → Client D G → Result Heir CodeReset → Type 0
  HeirAsked did old new (Err (resets.Client why)) = AskedFor did.records old.journal new.journal (Some why)
  HeirAsked did old new (Err resets.NoMemory) = Unit {0}
  HeirAsked did old new result = Asks (map client_bytes did.records) old.journal new.journal

  -- it survives a crash as a transaction does
  pub record HeirSurvives (did : HeirStep) (records : List ClientRecord) (old new : Client D G) (result : Result Heir CodeReset) : Type 0 where
    pub stored : HeirStores did records new result
    pub any_moment : Leaves records did.records old.journal new.journal
    pub asked : HeirAsked did old new result

  -- a closed client does nothing; a fault, and out of memory in the transaction, close it; before that, out of memory changes
  -- nothing
  pub record HeirCloses (old new : Client D G) (result : Result Heir CodeReset) : Type 0 where
    pub closed : IsErrOf result (resets.Client codes.Closed) ↔ (is_closed old ≡ true)
    pub shut : IsErrOf result (resets.Client codes.Closed) → new ≡ old
    pub closes : IsErrOf result (resets.Client codes.DiskFault) ⊎ IsErrOf result (resets.Client codes.NoMemory) → is_closed new ≡ true
    pub unchanged : IsErrOf result resets.NoMemory → new ≡ old

-- an open heir's transaction is refused by these alone
abbrev pub IsHeirCause : CodeReset → Type 0
IsHeirCause (resets.Client codes.NumbersFull) = Unit {0}
IsHeirCause (resets.Client (codes.OldForm place)) = Unit {0}
IsHeirCause (resets.Client (codes.NotSubscribed place)) = Unit {0}
IsHeirCause (resets.Client codes.DiskFault) = Unit {0}
IsHeirCause (resets.Client codes.NoMemory) = Unit {0}
IsHeirCause (resets.Client why) = ⊥
IsHeirCause why = Unit {0}
