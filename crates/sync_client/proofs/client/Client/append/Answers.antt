use Rattle.std.proofs.Common.{◌∷◌, [], Err, ◌∙◌, ap, sym, subst, arith, rules}
use Rattle.std.proofs.lemmas.Grind.{common_steps}
use Rattle.sync_disk.specs.Disk.{LeavesOnly}
use Rattle.sync_journal.specs.Records.{StandsForPrefix}
use Rattle.sync_journal.specs.Stands.{disk_of}
use Rattle.sync_journal.specs.declared.journal.JournalRefusal.{JournalRefusal}
use Rattle.sync_exchange.specs.Seen.{client_bytes, client_seen}
use Rattle.sync_client.proofs.Records.{bytes_back}
use Rattle.sync_client.proofs.Strokes.{cut_asked}
use Rattle.sync_client.proofs.client.Client.append.Goals as goal

pub returns-in-Ok-append-clause-appends : goal.returns-in-Ok-append-clause-appends
returns-in-Ok-append-clause-appends g c =
    let D = g.D.Disk in
    let e = c.as_slice.ensures.value ∙ c.in-Ok.ensures.spelled ∙ bytes_back c.args.added.now in
    record {
      stored = first_of (search rules, grind (arith, common_steps));
      any_moment = λ rs s. subst (λ b. LeavesOnly D.moment D.images_since (disk_of c.args.self.now.journal) (disk_of c.append.new.self) (StandsForPrefix rs (b ∷ []))) e (c.append.ensures.any_moment rs s);
      asked = first_of (search rules, grind (arith, common_steps));
    }

pub returns-in-Err-DiskFault-clause-appends : goal.returns-in-Err-DiskFault-clause-appends
returns-in-Err-DiskFault-clause-appends g c =
    let D = g.D.Disk in
    let e = c.as_slice.ensures.value ∙ c.in-Ok.ensures.spelled ∙ bytes_back c.args.added.now in
    let fault = c.in-Err-DiskFault.is ∙ ap (λ (w : JournalRefusal). Err w) c.in-Err-DiskFault.field-0-is in
    record {
      stored = λ records s. tt;
      any_moment = λ rs s. subst (λ b. LeavesOnly D.moment D.images_since (disk_of c.args.self.now.journal) (disk_of c.append.new.self) (StandsForPrefix rs (b ∷ []))) e (c.append.ensures.any_moment rs s);
      asked = λ b told. cut_asked (client_seen c.args.added.now) c.as_slice.result.now c.args.self.now.journal c.append.new.self e
          (c.append.ensures.can.1 fault) (c.append.ensures.cut b told fault);
    }

pub returns-clause-appends : goal.returns-clause-appends
returns-clause-appends g c =
    let D = g.D.Disk in
    let e = c.as_slice.ensures.value ∙ c.in-Ok.ensures.spelled ∙ bytes_back c.args.added.now in
    let journal = c.args.self.now.journal in
    record {
      stored = λ records s. tt;
      any_moment = λ rs s. subst (λ d. LeavesOnly D.moment D.images_since (disk_of journal) d (StandsForPrefix rs (client_bytes (client_seen c.args.added.now) ∷ []))) (sym c.close-in-Err.ensures.disk)
          (subst (λ b. LeavesOnly D.moment D.images_since (disk_of journal) (disk_of c.append.new.self) (StandsForPrefix rs (b ∷ []))) e (c.append.ensures.any_moment rs s));
      asked = λ b told. tt;
    }
