use Rattle.std.proofs.Common.{◌≡◌, refl, sym, subst}
use Rattle.sync_disk.specs.Disk.{LeavesOnly}
use Rattle.sync_journal.specs.Records.{records_of}
use Rattle.sync_journal.specs.Records.Reading.{Good}
use Rattle.sync_client.specs.Clients.{IsClientOf}
use Rattle.sync_node.specs.Opening.{HoldsThose, client_file}
use Rattle.sync_node.specs.Sending.{StandsFor, text_of}
use Rattle.sync_node.proofs.Opened.{client_holds, no_both, same_err, same_ok, tells_bad}
use Rattle.sync_node.proofs.Telling.{on_done, open_no_write, open_tells, open_undone, open_unmade, text_no_bad, text_no_fault, text_tells, writes_none}
use Rattle.sync_node.proofs.sending.write_of_client.Goals as goal

pub returns-clause-tells : goal.returns-clause-tells
returns-clause-tells g c =
    let opened = c.in-Ok.ensures.opened in
    let status = c.write_text-status.result in
    let only = c.write_text-status.ensures.only in
    record {
      written = λ b told records file.
          let o = opened b told in
          c.write_text-status.ensures.writes (text_of c.args.errand records) (c.text_of-text.ensures.text records (subst (λ rs. IsClientOf rs c.in-Ok.client) (same_ok (client_file b) o.records records o.file file) o.client));
      bad_file = λ b told place is. absurd (text_no_bad status place only is);
      bad_place = λ b told place bad. let o = opened b told in absurd (no_both (client_file b) o.records place o.file bad);
      bad_unwritten = λ b told place bad. let o = opened b told in absurd (no_both (client_file b) o.records place o.file bad);
      bad_kept = λ b told place is. absurd (text_no_bad status place only is);
      kept = λ b told made. subst (λ d. HoldsThose g.D.Disk.content g.D.Disk.images b d) (sym c.into_disk.ensures) (client_holds b c.in-Ok.client (opened b told));
      any_moment = λ records b told crash.
          subst (λ disk. LeavesOnly g.D.Disk.moment g.D.Disk.images_since c.args.disk disk (λ f. records_of f ≡ Good records)) (sym c.into_disk.ensures) (c.in-Ok.ensures.any_moment records b told crash);
    }

pub returns-in-Err-clause-tells : goal.returns-in-Err-clause-tells
returns-in-Err-clause-tells g c =
    let ended = c.in-Err.ended in
    let only = c.in-Err.ensures.only in
    record {
      written = λ b told records file. writes_none ended.status (text_of c.args.errand records) (g.K.Sink.taken c.args.sink.now) only;
      bad_file = c.in-Err.ensures.bad_file;
      bad_place = λ b told place bad. tells_bad place ended.status only (λ at is. same_err (client_file b) at place (c.in-Err.ensures.bad_file b told at is) bad);
      bad_unwritten = λ b told place bad. refl;
      bad_kept = c.in-Err.ensures.kept;
      kept = λ b told made. absurd (open_unmade ended.status only made);
      any_moment = c.in-Err.ensures.any_moment_err;
    }

pub returns-clause-disk_cause : goal.returns-clause-disk_cause
returns-clause-disk_cause g c = λ is. absurd (text_no_fault c.write_text-status.result c.write_text-status.ensures.only is)

pub returns-in-Err-clause-write_cause : goal.returns-in-Err-clause-write_cause
returns-in-Err-clause-write_cause g c = λ is. absurd (open_no_write c.in-Err.ended.status c.in-Err.ensures.only is)

pub returns-clause-only : goal.returns-clause-only
returns-clause-only g c = text_tells c.write_text-status.result c.write_text-status.ensures.only

pub returns-in-Err-clause-only : goal.returns-in-Err-clause-only
returns-in-Err-clause-only g c = open_tells c.in-Err.ended.status c.in-Err.ensures.only

pub returns-clause-bad_untouched : goal.returns-clause-bad_untouched
returns-clause-bad_untouched g c = λ place is. absurd (text_no_bad c.write_text-status.result place c.write_text-status.ensures.only is)

pub returns-clause-stands : goal.returns-clause-stands
returns-clause-stands g c = λ b told records file done.
    let o = c.in-Ok.ensures.opened b told in
    let client = subst (λ rs. IsClientOf rs c.in-Ok.client) (same_ok (client_file b) o.records records o.file file) o.client in
    on_done c.text_of-text.result c.write_text-status.result (StandsFor c.args.errand records) (c.text_of-text.ensures.stands records client) c.write_text-status.ensures.made done

pub returns-in-Err-clause-stands : goal.returns-in-Err-clause-stands
returns-in-Err-clause-stands g c = λ b told records file done. absurd (open_undone c.in-Err.ended.status c.in-Err.ensures.only done)
