-- How a client in memory makes a transaction.
use Rattle.std.specs.Prelude.{◌≡◌, ℕ, suc, List, Result, Ok, Err}
use Rattle.sync_data.specs.declared.instr.Instr.{Instr}
use Rattle.sync_model.specs.Clients.{ClientRecord, ClientRefusal, Original, after_record, appends, commit_born, refuse}
use Rattle.sync_exchange.specs.Profile.{the_profile}
use Rattle.sync_client.specs.declared.refusal.ClientRefusal.{ClientRefusal as CodeRefusal}
use Rattle.sync_client.specs.declared.refusal.ClientRefusal.TheVariants as codes
use Rattle.sync_client.specs.declared.replica.Replica.{Replica}
use Rattle.sync_client.specs.declared.transactions.Made.{Made}
use Rattle.sync_client.specs.Refusals.{refusal_seen, IfSeen}
use Rattle.sync_client.specs.Entries.{Breaks}
use Rattle.sync_client.specs.Seen.{Past, and_made, seen}

-- the changeset that a client makes next
abbrev pub next_original : Replica → ℕ → ℕ → List Instr → Original Instr
next_original r number ms is = record { base = r.cursor; number = number; ms = ms; instrs = is }

-- it was made
pub record Committed (past : Past) (old new : Replica) (ms : ℕ) (is : List Instr) (m : Made) : Type 0 where
  pub step : commit_born the_profile (seen past old) ms is ≡ appends (ClientRecord.Made m.number ms m.body.items) m.number
  pub after : seen (and_made past (next_original old m.number ms is)) new ≡ after_record the_profile (seen past old) (ClientRecord.Made m.number ms m.body.items)
  pub count : new.count ≡ suc old.count

-- it was refused so
pub record Uncommitted (past : Past) (old new : Replica) (ms : ℕ) (is : List Instr) (why : ClientRefusal) : Type 0 where
  pub step : commit_born the_profile (seen past old) ms is ≡ refuse why
  pub unchanged : new ≡ old

abbrev pub Commits : Past → Replica → Replica → ℕ → List Instr → Result Made CodeRefusal → Type 0
Commits past old new ms is (Ok m) = Committed past old new ms is m
Commits past old new ms is (Err why) = IfSeen (refusal_seen why) (Uncommitted past old new ms is)

-- what the objects refuse
abbrev pub RefusesEdits : Replica → Replica → List Instr → CodeRefusal → Type 0
RefusesEdits old new is (codes.Break place code) = Breaks is old.objects place code × (new ≡ old)
RefusesEdits old new is codes.NoMemory = Unit {0}
RefusesEdits old new is why = ⊥
