-- The bytes of a new file are a file of its node, where the server wrote its own file.
use Rattle.std.proofs.Common.{◌≡◌, ℕ, List, [], map, Some, Result, Ok, Err, Vec, Global, IfOk, OnOk, refl, ap, subst, sym, ◌∙◌}
use Rattle.sync_base.specs.States.{State}
use Rattle.sync_data.specs.declared.instr.Instr.{Instr}
use Rattle.sync_data.specs.declared.memory.NoMemory.{NoMemory}
use Rattle.sync_journal.specs.Files.{IsFile}
use Rattle.sync_journal.specs.Records.{file_of, records_of}
use Rattle.sync_journal.specs.Records.Reading.{Good}
use Rattle.sync_model.specs.Bytes.{Uuid}
use Rattle.sync_model.specs.Clients.{no_client}
use Rattle.sync_model.specs.Each.{Each}
use Rattle.sync_model.specs.Fronts.{file_gives}
use Rattle.sync_model.specs.Parts.{Parts}
use Rattle.sync_model.specs.Servers.{ServerRecord}
use Rattle.sync_model.specs.Trimmed.{trim_records}
use Rattle.sync_model.proofs.GivenUp.{all_kept, trims_alike}
use Rattle.sync_model.proofs.Reading.{all_read as all_read_back, client_reads_back}
use Rattle.sync_model.proofs.Starting.{started_is, started_opens}
use Rattle.sync_exchange.specs.Lemmas.Buildable.{real_buildable}
use Rattle.sync_exchange.specs.Lemmas.Lawful.{real_lawful}
use Rattle.sync_exchange.specs.Profile.{the_profile}
use Rattle.sync_exchange.specs.Seen.{client_bytes, read_client, read_server, server_bytes}
use Rattle.sync_node.specs.Opening.{all_read, at_gate, client_in, if_given, server_in}
use Rattle.sync_node.specs.ServerTexts.{StandsStarted, StandsTrimmed, started_by, text_of, trimmed_by}
use Rattle.sync_node.specs.Steps.{kept_by, kept_or}
use Rattle.sync_node.specs.declared.server_text.ServerText.TheVariants as texts
use Rattle.sync_node.proofs.Objects.{objects_bounded, objects_fit, objects_old}
use Rattle.sync_node.proofs.Opened.{all_again}

pub trimmed_stands : (records : List ServerRecord) → records_of (text_of texts.Trimmed records) ≡ Good (map server_bytes (trimmed_by records)) → Each (λ r. read_server (server_bytes r) ≡ Some r) (trimmed_by records) → StandsTrimmed records
trimmed_stands records reads back = record {
  reads = reads;
  opens = λ own.
      let file = map server_bytes (trimmed_by records) in
      let seen = all_read_back read_server server_bytes (trimmed_by records) back in
      let gives = ap (file_gives the_profile) seen ∙ (trims_alike the_profile real_lawful real_buildable (kept_by records) own.kept [] refl).file in
      ap server_in reads ∙ ap (at_gate file) (ap (if_given file) gives ∙ ap (λ rs. Ok rs) (ap all_read seen ∙ all_again (trimmed_by records)));
}

pub started_stands : (id : Uuid) (records : List ServerRecord) → records_of (text_of (texts.Started id) records) ≡ Good (map client_bytes (started_by id (kept_by records))) → Each (λ r. read_client (client_bytes r) ≡ Some r) (started_by id (kept_by records)) → StandsStarted id records
started_stands id records reads back = record {
  reads = reads;
  opens = λ own.
      let kept = kept_by records in
      let k = all_kept the_profile real_lawful real_buildable own.kept in
      let file = map client_bytes (started_by id kept) in
      let opens = started_opens the_profile real_lawful real_buildable id kept.second kept.len kept.objects (objects_fit the_profile real_lawful real_buildable kept k) (objects_bounded the_profile real_lawful real_buildable kept k) (objects_old the_profile real_lawful real_buildable kept k) in
      ap client_in reads ∙ ap (at_gate file) (client_reads_back the_profile read_client client_bytes (started_by id kept) (no_client the_profile) opens back);
  client = λ own.
      let kept = kept_by records in
      let k = all_kept the_profile real_lawful real_buildable own.kept in
      started_is the_profile real_lawful real_buildable id kept.second kept.len kept.objects (objects_fit the_profile real_lawful real_buildable kept k) (objects_bounded the_profile real_lawful real_buildable kept k);
}

-- ---- as the calls that write the bytes promise it
same_file : (records : List (List ℕ)) (bytes : List ℕ) → IsFile records bytes → records_of (file_of records) ≡ Good records
same_file records bytes is = ap records_of (sym is.bytes_are) ∙ is.reads

pub trimmed_text : (records : List ServerRecord) (kept : Parts Instr State) (r : Result (Vec ℕ Global) NoMemory) → file_gives the_profile (map (λ r. Some r) records) ≡ Ok kept
    → IfOk r (λ bytes. IsFile (map server_bytes (trim_records the_profile kept)) bytes.items) → OnOk r (Each (λ r. read_server (server_bytes r) ≡ Some r) (trim_records the_profile kept)) → OnOk r (StandsTrimmed records)
trimmed_text records kept (Err e) gives file back = tt
trimmed_text records kept (Ok bytes) gives file back =
    let same : kept ≡ kept_by records = sym (ap kept_or gives) in
    trimmed_stands records (subst (λ k. records_of (file_of (map server_bytes (trim_records the_profile k))) ≡ Good (map server_bytes (trim_records the_profile k))) same (same_file _ bytes.items file)) (subst (λ k. Each (λ r. read_server (server_bytes r) ≡ Some r) (trim_records the_profile k)) same back)

pub started_text : (id : Uuid) (records : List ServerRecord) (kept : Parts Instr State) (r : Result (Vec ℕ Global) NoMemory) → file_gives the_profile (map (λ r. Some r) records) ≡ Ok kept
    → IfOk r (λ bytes. IsFile (map client_bytes (started_by id kept)) bytes.items) → OnOk r (Each (λ r. read_client (client_bytes r) ≡ Some r) (started_by id kept)) → OnOk r (StandsStarted id records)
started_text id records kept (Err e) gives file back = tt
started_text id records kept (Ok bytes) gives file back =
    let same : kept ≡ kept_by records = sym (ap kept_or gives) in
    started_stands id records (subst (λ k. records_of (file_of (map client_bytes (started_by id k))) ≡ Good (map client_bytes (started_by id k))) same (same_file _ bytes.items file)) (subst (λ k. Each (λ r. read_client (client_bytes r) ≡ Some r) (started_by id k)) same back)
