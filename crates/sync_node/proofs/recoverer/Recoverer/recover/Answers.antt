use Rattle.std.proofs.Common.{Some, refl, arith}
use Rattle.sync_model.specs.Clients.{client_of}
use Rattle.sync_model.specs.Resets.{NoRetired, recover_frame}
use Rattle.sync_exchange.specs.Profile.{the_profile}
use Rattle.sync_exchange.specs.Seen.{message_seen}
use Rattle.sync_node.specs.Heirs.{RecovererStands, counts_of}
use Rattle.sync_node.specs.Recovering.{recovered, recovery_line}
use Rattle.sync_node.specs.Runs.{AnswersSo}
use Rattle.sync_node.proofs.Recoverers.{for_none, line_so, says_so}
use Rattle.sync_node.proofs.recoverer.Recoverer.recover.Goals as goal

pub returns-in_default : goal.returns-in_default
returns-in_default g c = record {
  done = λ records stands ours.
      let heir = client_of the_profile records in
      let heard = c.args.self.now.heard.items in
      let counts = counts_of heard in
      let did = recover_frame the_profile heir counts (message_seen c.args.message.now) in
      line_so c.line.result (recovery_line c.args.number NoRetired) (λ text. AnswersSo (Some (recovered c.args.number did)) records text (λ rs. RecovererStands did.known rs heard c.args.client.now)) c.line.ensures.line
      (says_so c.args.number did NoRetired counts (recovery_line c.args.number NoRetired) records heard c.args.client.now (for_none c.args.message.now heir counts c.in_default.not-Upload c.in_default.not-Retired) refl
      (record { client = stands; counts_is = refl; mine_is = ours }));
  bad = c.line.ensures.bad;
  same = refl;
  later = omega arith;
  cause = λ is. absurd (c.line.ensures.fault is);
}
