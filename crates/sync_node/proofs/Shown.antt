-- Whose file is shown: the node's file, by that of a client or of a server.
use Rattle.std.proofs.Common.{◌≡◌, ℕ, ◌<◌, ◌≤◌, Bool, true, false, if◌then◌else◌, List, [], length, Option, Some, Result, Ok, Err, inl, inr, refl, sym, subst, ap, ◌∙◌, arith}
use Rattle.std.proofs.lemmas.Bool.{cases_lt}
use Rattle.sync_disk.specs.Disk.{LeavesOnly, Rose, Told}
use Rattle.sync_disk.proofs.Moments.{and_then}
use Rattle.sync_journal.specs.Records.{Reading, records_of}
use Rattle.sync_journal.specs.Records.Reading.{Good}
use Rattle.sync_journal.proofs.Reading.{small}
use Rattle.sync_model.specs.Clients.{ClientRecord}
use Rattle.sync_model.specs.Servers.{ServerRecord}
use Rattle.sync_io.specs.declared.status.Status.{Status}
use Rattle.sync_node.specs.Commands.{TellsText}
use Rattle.sync_node.specs.Opening.{HoldsThose, client_file, client_in, server_file, server_in}
use Rattle.sync_node.specs.Showing.{NodeRecords, client_shown, file_as, is_client_file, node_file, node_in, of_client, of_server, server_shown, shown}
use Rattle.sync_node.specs.Texts.{Writes}
use Rattle.sync_node.specs.Showing.NodeRecords.{OfClient, OfServer}

-- ---- one of the two
ok_client : (r : Result (List ClientRecord) ℕ) (records : NodeRecords) → of_client r ≡ Ok records → (rs : List ClientRecord) × (r ≡ Ok rs) × (records ≡ OfClient rs)
ok_client (Ok rs) records is = (rs, refl, ok_is (OfClient rs) records is)
  where
    ok_is : (a b : NodeRecords) → ◌≡◌ {A = Result NodeRecords ℕ} (Ok a) (Ok b) → b ≡ a
    ok_is a b e = cc
ok_client (Err place) records is = absurd (cc)

ok_server : (r : Result (List ServerRecord) ℕ) (records : NodeRecords) → of_server r ≡ Ok records → (rs : List ServerRecord) × (r ≡ Ok rs) × (records ≡ OfServer rs)
ok_server (Ok rs) records is = (rs, refl, ok_is (OfServer rs) records is)
  where
    ok_is : (a b : NodeRecords) → ◌≡◌ {A = Result NodeRecords ℕ} (Ok a) (Ok b) → b ≡ a
    ok_is a b e = cc
ok_server (Err place) records is = absurd (cc)

err_client : (r : Result (List ClientRecord) ℕ) (place : ℕ) → of_client r ≡ Err place → r ≡ Err place
err_client (Ok rs) place is = absurd (cc)
err_client (Err at) place is = ap (λ n. Err n) (err_is at place is)
  where
    err_is : (a b : ℕ) → ◌≡◌ {A = Result NodeRecords ℕ} (Err a) (Err b) → a ≡ b
    err_is a b e = cc

err_server : (r : Result (List ServerRecord) ℕ) (place : ℕ) → of_server r ≡ Err place → r ≡ Err place
err_server (Ok rs) place is = absurd (cc)
err_server (Err at) place is = ap (λ n. Err n) (err_is at place is)
  where
    err_is : (a b : ℕ) → ◌≡◌ {A = Result NodeRecords ℕ} (Err a) (Err b) → a ≡ b
    err_is a b e = cc

-- a text of a client's file, and of a server's, as one of a node's
module _ {D : Type 0} (content : D → Option (List ℕ)) (images : D → List ℕ → Type 0) (moment : D → ℕ) (since : D → ℕ → List ℕ → Type 0) (status : Status) (first last : D) (old new : Option (List ℕ)) where
  pub tells_of_client : TellsText content images moment since client_file client_shown status first last old new → TellsText content images moment since (file_as true) shown status first last old new
  tells_of_client t = record {
    written = λ b told records file. let f = ok_client (client_file b) records file in subst (λ r. Writes status (shown r) old new) (sym f.2) (t.written b told f.0 f.1);
    bad_file = λ b told place is. ap of_client (t.bad_file b told place is);
    bad_place = λ b told place bad. t.bad_place b told place (err_client (client_file b) place bad);
    bad_unwritten = λ b told place bad. t.bad_unwritten b told place (err_client (client_file b) place bad);
    bad_kept = t.bad_kept;
    kept = t.kept;
    any_moment = t.any_moment;
  }

  pub tells_of_server : TellsText content images moment since server_file server_shown status first last old new → TellsText content images moment since (file_as false) shown status first last old new
  tells_of_server t = record {
    written = λ b told records file. let f = ok_server (server_file b) records file in subst (λ r. Writes status (shown r) old new) (sym f.2) (t.written b told f.0 f.1);
    bad_file = λ b told place is. ap of_server (t.bad_file b told place is);
    bad_place = λ b told place bad. t.bad_place b told place (err_server (server_file b) place bad);
    bad_unwritten = λ b told place bad. t.bad_unwritten b told place (err_server (server_file b) place bad);
    bad_kept = t.bad_kept;
    kept = t.kept;
    any_moment = t.any_moment;
  }

-- whose file it is, by bytes that stand for the same records
pub same_node : (b file : List ℕ) (is_client : Bool) → is_client ≡ is_client_file b → records_of file ≡ records_of b → file_as is_client file ≡ node_file b
same_node b file is_client kind reads = ap (λ k. file_as k file) kind ∙ ap (λ r. if is_client_file b then of_client (client_in r) else of_server (server_in r)) reads

-- ---- a small file is no bad one
pub long_node : (b : List ℕ) (place : ℕ) → node_file b ≡ Err place → 9 < length b
long_node b place bad = elim (cases_lt 9 (length b)) [
  | inl lt ↦ lt
  | inr le ↦
      let none = small false b le in
      let file : node_file b ≡ Ok (OfServer []) = ap node_in none in
      absurd (no_err (OfServer []) place (sym file ∙ bad))
]
  where
    no_err : (records : NodeRecords) (place : ℕ) → ◌≡◌ {A = Result NodeRecords ℕ} (Ok records) (Err place) → ⊥
    no_err records place e = cc

-- the bytes that aren't a journal at all aren't one of that node
pub bad_journal : (b : List ℕ) (place : ℕ) → records_of b ≡ Reading.BadAt place → node_file b ≡ Err place
bad_journal b place bad = ap node_in bad

-- ---- the disk
pub holds_on : {D : Type 0} (content : D → Option (List ℕ)) (images : D → List ℕ → Type 0) (f b : List ℕ) (disk : D) → records_of f ≡ records_of b → HoldsThose content images f disk → HoldsThose content images b disk
holds_on content images f b disk same h = record { file = h.file; told = h.told; reads = h.reads ∙ same; durable = h.durable }

pub rose_later : (a b c : ℕ) → a ≤ b → Rose b c → Rose a c
rose_later a b c le rose = grind arith

-- what is written of a file whose node is known is written of the node's file
module _ {D : Type 0} (content : D → Option (List ℕ)) (images : D → List ℕ → Type 0) (moment : D → ℕ) (since : D → ℕ → List ℕ → Type 0) (first sorted last : D) (status : Status) (old new : Option (List ℕ)) (is_client : Bool) where
  pub sorted_tells : ((b : List ℕ) → content first ≡ Some b → images first b) → Told (content first) (λ b. is_client ≡ is_client_file b) → Told (content first) (λ b. HoldsThose content images b sorted) → Told (content first) (λ b. 9 < length b → content sorted ≡ Some b)
      → ((records : List (List ℕ)) → Told (content first) (λ b. ((f : List ℕ) → images first f → records_of f ≡ Good records) → LeavesOnly moment since first sorted (λ f. records_of f ≡ Good records)))
      → TellsText content images moment since (file_as is_client) shown status sorted last old new → TellsText content images moment since node_file shown status first last old new
  sorted_tells is_image kind holds untouched any_moment tells =
      let same = λ (b : List ℕ) (told : content first ≡ Some b). same_node b (holds b told).file is_client (kind b told) (holds b told).reads in
      record {
        written = λ b told records file. tells.written (holds b told).file (holds b told).told records (same b told ∙ file);
        bad_file = λ b told place is. sym (same b told) ∙ tells.bad_file (holds b told).file (holds b told).told place is;
        bad_place = λ b told place bad. tells.bad_place (holds b told).file (holds b told).told place (same b told ∙ bad);
        bad_unwritten = λ b told place bad. tells.bad_unwritten (holds b told).file (holds b told).told place (same b told ∙ bad);
        bad_kept = λ b told place is.
            let bad = sym (same b told) ∙ tells.bad_file (holds b told).file (holds b told).told place is in
            tells.bad_kept b (untouched b told (long_node b place bad)) place is;
        kept = λ b told made. holds_on content images (holds b told).file b last (holds b told).reads (tells.kept (holds b told).file (holds b told).told made);
        any_moment = λ records b told crash.
            let h = holds b told in
            let now = h.reads ∙ crash b (is_image b told) in
            and_then moment since first sorted last (λ f. records_of f ≡ Good records) (any_moment records b told crash) (tells.any_moment records h.file h.told (λ f left. ap records_of (h.durable f left) ∙ now));
      }
