use Rattle.std.proofs.Common.{◌≡◌, [], IfOk, Some, map, ap, subst, ◌∙◌}
use Rattle.std.proofs.lemmas.List.Elements.{recursion_from_All}
use Rattle.sync_journal.specs.Files.{IsFile}
use Rattle.sync_model.specs.Each.{Each}
use Rattle.sync_exchange.specs.Seen.{server_bytes, server_seen, read_server}
use Rattle.sync_records.specs.Limits.{IsServerRecord}
use Rattle.sync_records.specs.Spelling.{server_spelling}
use Rattle.sync_trim.proofs.Spelled.{server_texts, servers_back, on_ok}
use Rattle.sync_trim.proofs.files.trimmed_file.Goals as goal

pub returns : goal.returns
returns g c = record {
  file = subst (λ records. IfOk c.end.result (λ bytes. IsFile records bytes.items))
      (ap (map server_spelling) c.as_slice.ensures.value ∙ server_texts c.in_ok-records.records.items ∙ ap (map server_bytes) c.in_ok-records.ensures.trimmed)
      (c.end.ensures (map server_spelling c.as_slice.result.now) (c.in_ok-put_server_records.ensures.put [] c.in_ok-file.ensures));
  back = on_ok c.end.result (subst (λ records. Each (λ r. read_server (server_bytes r) ≡ Some r) records)
      (ap (map server_seen) c.as_slice.ensures.value ∙ c.in_ok-records.ensures.trimmed)
      (servers_back c.as_slice.result.now (recursion_from_All IsServerRecord c.as_slice.result.now c.in_ok-put_server_records.ensures.are)));
}
