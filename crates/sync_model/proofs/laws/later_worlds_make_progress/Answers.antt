use Rattle.sync_model.proofs.Progress.LaterLaws.{later_current, later_one, later_all, later_reads}
use Rattle.sync_model.proofs.Progress.Calm.{calm_all}
use Rattle.sync_model.proofs.Progress.StaysAbove.{stays_above}
use Rattle.sync_model.proofs.laws.later_worlds_make_progress.Goals as goal

pub returns : goal.returns
returns g c =
    let p = g.E.Exchange.profile in
    let law = g.E.Exchange.lawful in
    let built = g.E.Exchange.buildable in
    record {
      quiet = λ l r q i nd here ne. later_current p law built l r i nd here ne (q i nd here ne);
      current = λ l r i nd here ne cur. later_current p law built l r i nd here ne cur;
      one = λ roomy l r i nd here k le. later_one p law built l r roomy i nd here k le;
      calm = λ roomy l r calm k le. calm_all p law built l r roomy calm k le;
      readers = λ l r i nd here ne second none up unarmed unarmed_server n borne. later_reads p law built l r i nd here ne second none up unarmed unarmed_server n borne;
      above = λ l r i nd here ne up es end there. stays_above p law built l r i nd here ne up es end there;
      all = λ roomy l r k le. later_all p law built l r roomy k le;
    }
