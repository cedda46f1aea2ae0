use Rattle.std.proofs.Common.{sym, subst}
use Rattle.std.specs.Option.{option_map}
use Rattle.sync_host.specs.Heirs.{heir_answer, inherited_in}
use Rattle.sync_host.specs.Steps.{Answers, IfTold, Lasts}
use Rattle.sync_host.proofs.Lasting.{client_at_rest}
use Rattle.sync_host.proofs.heir.inherit.Goals as goal

pub returns-in-Ok-clause-step : goal.returns-in-Ok-clause-step
returns-in-Ok-clause-step g c = λ records is.
    subst (λ o. IfTold c.take.result (Answers (option_map (heir_answer records) o) records c.take.result c.args.client.now c.take.new.client)) (sym c.in-Ok.ensures) (c.take.ensures.step records is)

pub returns-in-Ok-clause-lasts : goal.returns-in-Ok-clause-lasts
returns-in-Ok-clause-lasts g c = λ records is. subst (λ o. Lasts (option_map (heir_answer records) o) records c.args.client.now c.take.new.client) (sym c.in-Ok.ensures) (c.take.ensures.lasts records is)

pub returns-in-Err-NoMemory-clause-lasts : goal.returns-in-Err-NoMemory-clause-lasts
returns-in-Err-NoMemory-clause-lasts g c = λ records is. client_at_rest g.met.D.Disk.only_now (option_map (heir_answer records) (inherited_in c.args.bytes.now)) records c.args.client.now is

pub returns-in-Err-BadMessage-clause-lasts : goal.returns-in-Err-BadMessage-clause-lasts
returns-in-Err-BadMessage-clause-lasts g c = λ records is. client_at_rest g.met.D.Disk.only_now (option_map (heir_answer records) (inherited_in c.args.bytes.now)) records c.args.client.now is
