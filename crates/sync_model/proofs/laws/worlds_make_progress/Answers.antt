use Rattle.sync_model.proofs.Reached.{reached_facts}
use Rattle.sync_model.proofs.Progress.Quiet.{quiet_objects, quiet_agree, current_objects}
use Rattle.sync_model.proofs.Progress.Laws.{catches_up_law, all_catch_up_law, gets_there}
use Rattle.sync_model.proofs.Progress.Interrupted.{turns_are}
use Rattle.sync_model.proofs.Progress.Valid.{reached_valid}
use Rattle.sync_model.proofs.Progress.Staying.{stays_at}
use Rattle.sync_model.proofs.Progress.Late.{late}
use Rattle.sync_model.proofs.laws.worlds_make_progress.Goals as goal

pub returns : goal.returns
returns g c =
    let p = g.E.Exchange.profile in
    let law = g.E.Exchange.lawful in
    let built = g.E.Exchange.buildable in
    record {
      quiet = λ w r q i nd here ne. quiet_objects p w (reached_facts p law built w r) q i nd here ne;
      agree = λ w r q i j a b here there ne nf same. quiet_agree p w (reached_facts p law built w r) q i j a b here there ne nf same;
      current = λ w r i nd here ne cur. current_objects p w (reached_facts p law built w r) i nd here ne cur;
      one = λ roomy w r i nd here k le. catches_up_law p law built roomy w (reached_valid p law built w r) i nd here k le;
      between = λ roomy w r i nd here ess most bounded lt. gets_there p law built roomy w (reached_valid p law built w r) i nd here ess most bounded lt;
      stays = λ w r es i nd end here there ne cur log made. stays_at p law built w (reached_valid p law built w r) es i nd end here there ne cur log made;
      late = λ w r all ds. late p law built ds w (reached_valid p law built w r) all;
      turns = λ name w ess. turns_are p name ess w;
      all = λ roomy w r k le. all_catch_up_law p law built roomy w (reached_valid p law built w r) k le;
    }
