use Rattle.sync_model.proofs.Progress.Valid.{reached_valid}
use Rattle.sync_model.proofs.Progress.LaterLaws.{later_is_valid}
use Rattle.sync_model.proofs.Progress.Runs.{runs_as}
use Rattle.sync_model.proofs.Progress.Rescuing.{runs_end, lives_on}
use Rattle.sync_model.proofs.laws.recoveries_end.Goals as goal

pub returns : goal.returns
returns g c =
    let p = g.E.Exchange.profile in
    let law = g.E.Exchange.lawful in
    let built = g.E.Exchange.buildable in
    record {
      ends = λ roomy w r i nd here named heir opens ne n le runs enough. runs_end p law built roomy w (reached_valid p law built w r) i nd here named runs heir opens ne n le enough;
      ends_later = λ roomy l r i nd here named heir opens ne n le runs enough. runs_end p law built roomy l.world (later_is_valid p law built l r) i nd here named runs heir opens ne n le enough;
      runs = λ w r i nd here stops frames. runs_as p law built w (reached_valid p law built w r) i nd here stops frames;
      lives = λ server ident by old first moves r all k lt. lives_on p law built server ident by old first moves r all k lt;
    }
