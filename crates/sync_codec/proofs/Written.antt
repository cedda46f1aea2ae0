-- What is written field by field is the fields' spelling.
use Rattle.std.proofs.Common.{◌≡◌, ℕ, List, [], ◌∷◌, ◌++◌, length, refl, sym, ap, ◌∙◌, append_assoc}
use Rattle.std.specs.List.{flat_map}
use Rattle.std.proofs.lemmas.List.{append-nil}
use Rattle.sync_intern.specs.FirstUses.{place_of, with_string, with_strings}
use Rattle.sync_io.specs.Varints.{varint}
use Rattle.sync_data.specs.declared.instr.Instr.{Instr}
use Rattle.sync_codec.specs.Spelling.{Field, byte, number, run, string, strings_in_field, strings_of, field_bytes, instr_fields, version_of, table_bytes, spelling}
use Rattle.sync_codec.specs.Writing.{Written, with_field, with_fields}
use Rattle.sync_codec.proofs.Places.{has_used, place_stays}

pub strings_written : (w : Written) (fields : List Field) → (with_fields w fields).strings ≡ with_strings w.strings (flat_map strings_in_field fields)
strings_written w [] = refl
strings_written w (byte b ∷ fields) = strings_written (with_field w (byte b)) fields
strings_written w (number n ∷ fields) = strings_written (with_field w (number n)) fields
strings_written w (run bytes ∷ fields) = strings_written (with_field w (run bytes)) fields
strings_written w (string s ∷ fields) = strings_written (with_field w (string s)) fields

pub bytes_written : (w : Written) (fields : List Field) → (with_fields w fields).bytes ≡ w.bytes ++ flat_map (field_bytes (with_fields w fields).strings) fields
bytes_written w [] = sym (append-nil w.bytes)
bytes_written w (byte b ∷ fields) = bytes_written (with_field w (byte b)) fields ∙ append_assoc w.bytes (b ∷ []) _
bytes_written w (number n ∷ fields) = bytes_written (with_field w (number n)) fields ∙ append_assoc w.bytes (varint n) _
bytes_written w (run bytes ∷ fields) = bytes_written (with_field w (run bytes)) fields ∙ append_assoc w.bytes bytes _
bytes_written w (string s ∷ fields) =
    let m = with_field w (string s) in
    let place : place_of (with_fields m fields).strings s ≡ place_of (with_string w.strings s) s = ap (λ (ss : List (List ℕ)). place_of ss s) (strings_written m fields) ∙ place_stays (with_string w.strings s) (flat_map strings_in_field fields) s (has_used w.strings s) in
    bytes_written m fields ∙ append_assoc w.bytes (varint (place_of (with_string w.strings s) s)) _ ∙ ap (λ (n : ℕ). w.bytes ++ (varint n ++ flat_map (field_bytes (with_fields m fields).strings) fields)) (sym place)

pub spelled_out : (fields : List Field) (w : Written) → w ≡ with_fields (record { strings = []; bytes = [] }) fields → (w.strings ≡ strings_of fields) × (w.bytes ≡ flat_map (field_bytes (strings_of fields)) fields)
spelled_out fields w e =
    let start : Written = record { strings = []; bytes = [] } in
    let ss : w.strings ≡ strings_of fields = ap (λ (v : Written). v.strings) e ∙ strings_written start fields in
    let bs : w.bytes ≡ flat_map (field_bytes (with_fields start fields).strings) fields = ap (λ (v : Written). v.bytes) e ∙ bytes_written start fields in
    (ss, bs ∙ ap (λ (strings : List (List ℕ)). flat_map (field_bytes strings) fields) (strings_written start fields))

pub encoded : (is : List Instr) (w : Written) → w ≡ with_fields (record { strings = []; bytes = [] }) (flat_map instr_fields is) → (((version_of is ∷ []) ++ table_bytes w.strings) ++ varint (length is)) ++ w.bytes ≡ spelling is
unfolding spelling
encoded is w e =
    let p = spelled_out (flat_map instr_fields is) w e in
    rw (p.0, p.1) (append_assoc ((version_of is ∷ []) ++ table_bytes (strings_of (flat_map instr_fields is))) (varint (length is)) _)

pub assembled : (is : List Instr) (w : Written) (none head strings count all : List ℕ) (version : ℕ) (table : List (List ℕ)) (body : List ℕ) → none ≡ [] → version ≡ version_of is → head ≡ none ++ version ∷ [] → table ≡ w.strings → strings ≡ head ++ table_bytes table → count ≡ strings ++ varint (length is) → body ≡ w.bytes → all ≡ count ++ body
    → w ≡ with_fields (record { strings = []; bytes = [] }) (flat_map instr_fields is) → all ≡ spelling is
assembled is w none head strings count all version table body e0 e1 e2 e3 e4 e5 e6 e7 e8 =
    e7 ∙ rw (e6, e5, e4, e3, e2, e1, e0) (encoded is w e8)
