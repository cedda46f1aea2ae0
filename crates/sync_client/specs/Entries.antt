-- How a client in memory takes an entry of the history.
use Rattle.std.specs.Prelude.{◌≡◌, ℕ, ◌+◌, List, Some, None, Result, Ok, Err}
use Rattle.sync_data.specs.declared.entry.Entry.{Entry}
use Rattle.sync_data.specs.declared.instr.Instr.{Instr}
use Rattle.sync_data.specs.Payload.{Changes}
use Rattle.sync_base.specs.declared.answers.Break.{Break}
use Rattle.sync_base.specs.declared.answers.Mismatch.{Mismatch}
use Rattle.sync_base.specs.Checks.{act_all, break_at}
use Rattle.sync_base.specs.Codes.{break_code, mismatch_code}
use Rattle.sync_base.specs.States.{State}
use Rattle.sync_codec.specs.Spelling.{spelling}
use Rattle.sync_codec.specs.Valid.{AreInstrs}
use Rattle.sync_model.specs.Messages.{Sent}
use Rattle.sync_model.specs.Clients.{Client, ClientRefusal, Unsent, after_record, entry_refusal, took}
use Rattle.sync_rebase.specs.Taking.{Crosses, StuckAt}
use Rattle.sync_exchange.specs.Profile.{the_profile, unspell}
use Rattle.sync_client.specs.declared.refusal.ClientRefusal.{ClientRefusal as CodeRefusal}
use Rattle.sync_client.specs.declared.refusal.ClientRefusal.TheVariants as codes
use Rattle.sync_client.specs.declared.replica.Replica.{Replica}
use Rattle.sync_client.specs.Refusals.{refusal_seen, IfSeen}

-- ---- the whole step

-- an entry is refused so, and the client is as before
pub record Declines (old new : Client Instr State) (e : Sent) (why : ClientRefusal) : Type 0 where
  pub cause : entry_refusal the_profile old e ≡ Some why
  pub unchanged : new ≡ old

-- an entry is taken
pub record TakesIt (old new : Client Instr State) (e : Sent) : Type 0 where
  pub fine : entry_refusal the_profile old e ≡ None
  pub after : new ≡ after_record the_profile old (took e)

-- it is taken, or refused as defined; out of memory, nothing is said
abbrev pub Takes : Client Instr State → Client Instr State → Sent → Result (Unit {0}) CodeRefusal → Type 0
Takes old new e (Ok u) = TakesIt old new e
Takes old new e (Err why) = IfSeen (refusal_seen why) (Declines old new e)

-- ---- its parts

-- the body was read so
pub record IsRead (ms : ℕ) (body : List ℕ) (v : Changes) : Type 0 where
  pub time : v.ms ≡ ms
  pub read : unspell body ≡ Ok v.instrs
  pub valid : AreInstrs v.instrs
  pub bytes : body ≡ spelling v.instrs

-- the body has this fault
abbrev pub IsUnread : ℕ → List ℕ → CodeRefusal → Type 0
IsUnread version body (codes.BadBody v offset rule) = (v ≡ version) × (unspell body ≡ Err (offset, rule))
IsUnread version body codes.NoMemory = Unit {0}
IsUnread version body why = ⊥

-- an entry of another was carried and has acted
pub record TookOther (old new : Replica) (e : Entry) : Type 0 where
  pub changes : Changes
  pub crosses : Crosses old.ident old.unsent e new.unsent changes
  pub acts : act_all changes.instrs old.objects ≡ Some new.objects
  pub is : new ≡ record old { unsent = new.unsent; objects = new.objects; cursor = old.cursor + 1 }

-- the first break, by its number
pub record Breaks (is : List Instr) (s : State) (place code : ℕ) : Type 0 where
  pub cause : Break
  pub at : break_at is s ≡ Some (place, cause)
  pub code_is : code ≡ break_code cause

-- it was carried and doesn't act
pub record StopsActing (old : Replica) (e : Entry) (place code : ℕ) : Type 0 where
  pub changes : Changes
  pub after : List (Unsent Instr)
  pub crosses : Crosses old.ident old.unsent e after changes
  pub breaks : Breaks changes.instrs old.objects place code

-- it can't cross the unsent changeset of that number
pub record StopsCrossing (old : Replica) (e : Entry) (number kind : ℕ) : Type 0 where
  pub mismatch : Mismatch
  pub stuck : StuckAt old.ident old.unsent e number mismatch
  pub kind_is : kind ≡ mismatch_code mismatch

abbrev pub RefusesOther : Replica → Replica → Entry → CodeRefusal → Type 0
RefusesOther old new e (codes.Mismatch version number kind) = (version ≡ old.cursor) × StopsCrossing old e number kind × (new ≡ old)
RefusesOther old new e (codes.NotApplicable version place code) = (version ≡ old.cursor) × StopsActing old e place code × (new ≡ old)
RefusesOther old new e codes.NoMemory = Unit {0}
RefusesOther old new e why = ⊥

-- what the objects refuse
abbrev pub RefusesActing : Replica → Replica → List Instr → CodeRefusal → Type 0
RefusesActing old new is (codes.NotApplicable version place code) = (version ≡ old.cursor) × Breaks is old.objects place code × (new ≡ old)
RefusesActing old new is codes.NoMemory = Unit {0}
RefusesActing old new is why = ⊥
