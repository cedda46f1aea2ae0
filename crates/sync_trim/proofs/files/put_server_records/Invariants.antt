use Rattle.std.proofs.Common.{◌≡◌, ◌++◌, ℕ, List, All, map, drop, take}
use Rattle.sync_journal.specs.Files.{AreBytes}
use Rattle.sync_records.specs.Limits.{IsServerRecord}
use Rattle.sync_records.specs.Spelling.{server_spelling}
use Rattle.sync_trim.proofs.files.put_server_records.Given as goal

-- the records so far, and those that are left
abbrev pub invariant-loop-record : goal.invariant-loop-record
invariant-loop-record l = record {
  put : (before : List (List ℕ)) → AreBytes before l.fn.file
      → (done : List (List ℕ)) × AreBytes done l.file × (done ++ map server_spelling (drop l.record-index l.records) ≡ before ++ map server_spelling l.records);
  are : All IsServerRecord (take l.record-index l.records);
}
