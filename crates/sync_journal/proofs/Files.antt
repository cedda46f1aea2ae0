-- The bytes of a whole journal stand for its records.
use Rattle.std.proofs.Common.{◌≡◌, ◌≢◌, ℕ, ◌≤◌, List, [], ◌∷◌, ◌++◌, length, OnOk, false, Result, Ok, Err, refl, ap, sym, subst, ◌∙◌, append_assoc, append-nil, arith}
use Rattle.std.specs.List.{flat_map}
use Rattle.std.proofs.lemmas.List.Concat.{flat_map-append}
use Rattle.sync_journal.specs.Files.{AreBytes, IsFile}
use Rattle.sync_journal.specs.Records.{AreRecords, behind_gate, file_of, is_note, longest, magic, size_bytes}
use Rattle.sync_journal.specs.declared.journal.JournalRefusal.{JournalRefusal}
use Rattle.sync_journal.specs.declared.bytes.JournalBytes.{JournalBytes}
use Rattle.sync_journal.proofs.Crash.{closed_file}
use Rattle.sync_journal.proofs.Scan.{kept_record, length-size_bytes, no_records, one_more, size_of-size_bytes}

pub are_none : (made : JournalBytes) → made.out.items ≡ magic → AreBytes [] made
are_none made is = record { bytes = is ∙ sym (append-nil magic); are = no_records false }

front_more : (records : List (List ℕ)) (next : List ℕ) → flat_map behind_gate (records ++ next ∷ []) ≡ flat_map behind_gate records ++ behind_gate next
front_more records next = flat_map-append behind_gate records (next ∷ []) ∙ ap (λ l. flat_map behind_gate records ++ l) (append-nil (behind_gate next))

pub are_more : (records : List (List ℕ)) (next : List ℕ) (old new : JournalBytes) → AreBytes records old → length next ≤ longest → is_note next ≡ false → new.out.items ≡ old.out.items ++ behind_gate next → AreBytes (records ++ next ∷ []) new
are_more records next old new so_far short plain is = record {
  bytes = is ∙ ap (λ l. l ++ behind_gate next) so_far.bytes ∙ append_assoc magic (flat_map behind_gate records) (behind_gate next) ∙ ap (λ l. magic ++ l) (sym (front_more records next));
  are = subst (AreRecords false (records ++ next ∷ [])) (sym (front_more records next))
      (subst (λ added. AreRecords false (records ++ added) (flat_map behind_gate records ++ behind_gate next)) (kept_record false next plain)
      (one_more false records (flat_map behind_gate records) (size_bytes (length next)) next so_far.are (length-size_bytes (length next)) (λ rest. size_of-size_bytes (length next) rest (omega (arith, short))) short));
}

zero_shut : {gate : ℕ} → gate ≡ 0 → gate ≢ 1
zero_shut is e = omega (arith, is, e)

pub are_file : (records : List (List ℕ)) (made : JournalBytes) (bytes : List ℕ) → AreBytes records made → bytes ≡ made.out.items ++ 0 ∷ [] → IsFile records bytes
are_file records made bytes so_far is =
    let here : bytes ≡ file_of records = is ∙ ap (λ l. l ++ 0 ∷ []) so_far.bytes ∙ append_assoc magic (flat_map behind_gate records) (0 ∷ []) in
    record { bytes_are = here; reads = ap (Rattle.sync_journal.specs.Records.reading false) here ∙ closed_file false records (flat_map behind_gate records) 0 [] so_far.are (zero_shut refl) }

pub more_or : (r : Result (Unit {0}) JournalRefusal) (records : List (List ℕ)) (next : List ℕ) (old new : JournalBytes) → AreBytes records old → length next ≤ longest → is_note next ≡ false → OnOk r (new.out.items ≡ old.out.items ++ behind_gate next) → OnOk r (AreBytes (records ++ next ∷ []) new)
more_or (Ok done) records next old new so_far short plain is = are_more records next old new so_far short plain is
more_or (Err why) records next old new so_far short plain is = tt
