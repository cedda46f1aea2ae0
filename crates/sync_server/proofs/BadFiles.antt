-- A file in which a record is bad has one.
use Rattle.std.proofs.Common.{◌≡◌, ℕ, List, [], ◌∷◌, Err}
use Rattle.sync_journal.specs.Opening.{BadRecordAt, unread_cause}
use Rattle.sync_journal.specs.declared.opening.OpenCause.TheVariants.{BadFile}
use Rattle.sync_journal.specs.declared.opening.ReadRefusal.{ReadRefusal}
use Rattle.sync_journal.specs.declared.opening.ReadRefusal.TheVariants as refusals
use Rattle.sync_server.specs.Files.{Refuses}
use Rattle.server_memory.specs.Opening.{ReadsFile}

pub bad_at : (file : List (List ℕ)) (why : ReadRefusal) (place : ℕ) → ReadsFile file (Err why) → unread_cause file why ≡ BadFile place → BadRecordAt Refuses file place
bad_at file (refusals.BadRecord number) place reads is = record { number = number; reads = reads; gate = cc }
bad_at file refusals.NoMemory place reads is = cc

pub some_record : (file : List (List ℕ)) (place : ℕ) → BadRecordAt Refuses file place → file ≡ [] → ⊥
some_record [] place bad is = let reads = bad.reads in cc
some_record (f ∷ fs) place bad is = cc
