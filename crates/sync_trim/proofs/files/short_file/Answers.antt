use Rattle.std.proofs.Common.{◌≡◌, [], IfOk, Some, map, ap, subst, ◌∙◌}
use Rattle.std.proofs.lemmas.List.Elements.{recursion_from_All}
use Rattle.sync_journal.specs.Files.{IsFile}
use Rattle.sync_model.specs.Each.{Each}
use Rattle.sync_exchange.specs.Seen.{client_bytes, client_seen, read_client}
use Rattle.sync_records.specs.Limits.{IsClientRecord}
use Rattle.sync_records.specs.Spelling.{client_spelling}
use Rattle.sync_trim.proofs.Spelled.{client_texts, clients_back, on_ok}
use Rattle.sync_trim.proofs.files.short_file.Goals as goal

pub returns : goal.returns
returns g c = record {
  file = λ of is. subst (λ records. IfOk c.end.result (λ bytes. IsFile records bytes.items))
      (ap (map client_spelling) c.as_slice.ensures.value ∙ client_texts c.in_ok-records.records.items ∙ ap (map client_bytes) (c.in_ok-records.ensures of is))
      (c.end.ensures (map client_spelling c.as_slice.result.now) (c.in_ok-put_client_records.ensures.put [] c.in_ok-file.ensures));
  back = λ of is. on_ok c.end.result (subst (λ records. Each (λ r. read_client (client_bytes r) ≡ Some r) records)
      (ap (map client_seen) c.as_slice.ensures.value ∙ c.in_ok-records.ensures of is)
      (clients_back c.as_slice.result.now (recursion_from_All IsClientRecord c.as_slice.result.now c.in_ok-put_client_records.ensures.are)));
}
