-- The bytes of a journal that was made whole.
use Rattle.std.specs.Prelude.{◌≡◌, ℕ, false, List, ◌++◌}
use Rattle.std.specs.List.{flat_map}
use Rattle.sync_journal.specs.Records.{AreRecords, behind_gate, file_of, magic, records_of}
use Rattle.sync_journal.specs.Records.Reading.{Good}
use Rattle.sync_journal.specs.declared.bytes.JournalBytes.{JournalBytes}

-- the bytes of these records, up to the shut gate
pub record AreBytes (records : List (List ℕ)) (made : JournalBytes) : Type 0 where
  pub bytes : made.out.items ≡ magic ++ flat_map behind_gate records
  pub are : AreRecords false records (flat_map behind_gate records)

-- the bytes of a whole journal, which stands for these records
pub record IsFile (records : List (List ℕ)) (bytes : List ℕ) : Type 0 where
  pub bytes_are : bytes ≡ file_of records
  pub reads : records_of bytes ≡ Good records
