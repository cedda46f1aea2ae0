use Rattle.std.proofs.Common.{◌≡◌, ◌++◌, ℕ, List, All, map, drop, take}
use Rattle.sync_journal.specs.Files.{AreBytes}
use Rattle.sync_records.specs.Limits.{IsClientRecord}
use Rattle.sync_records.specs.Spelling.{client_spelling}
use Rattle.sync_trim.proofs.files.put_client_records.Given as goal

-- the records so far, and those that are left
abbrev pub invariant-loop-record : goal.invariant-loop-record
invariant-loop-record l = record {
  put : (before : List (List ℕ)) → AreBytes before l.fn.file
      → (done : List (List ℕ)) × AreBytes done l.file × (done ++ map client_spelling (drop l.record-index l.records) ≡ before ++ map client_spelling l.records);
  are : All IsClientRecord (take l.record-index l.records);
}
