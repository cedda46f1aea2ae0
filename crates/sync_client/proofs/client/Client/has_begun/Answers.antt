use Rattle.std.proofs.Common.{◌∙◌, ap, sym, ◌==◌, ◌||◌, not, length}
use Rattle.sync_model.specs.Clients.{Client, has_floor}
use Rattle.sync_data.specs.declared.instr.Instr.{Instr}
use Rattle.sync_base.specs.States.{State}
use Rattle.sync_client.proofs.client.Client.has_begun.Goals as goal

pub returns : goal.returns
returns g c = λ records k. c.has_begun.ensures k.kept.past k.kept.count ∙ ap (λ (x : Client Instr State). has_floor x.floor || (not (length x.made == 0) || not (x.cursor == 0))) (sym k.kept.stands_for)
