use Rattle.gen_law.proofs.Accepted.{all_accepted}
use Rattle.gen_law.proofs.Harmless.{is_drawn}
use Rattle.gen_law.proofs.laws.generated_exchanges_refuse_nothing.Goals as goal

pub returns : goal.returns
returns c seed count le = all_accepted (λ most w r h e good. c.harmless_clients_catch_up.ensures.lasts is_drawn most w r h e good) seed count le
