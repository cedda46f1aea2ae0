use Rattle.std.proofs.Common.{IfOk, sym, subst}
use Rattle.std.specs.Option.{option_map}
use Rattle.sync_exchange.specs.Seen.{message_seen}
use Rattle.sync_node.specs.Holding.{ClientStands}
use Rattle.sync_node.specs.Runs.{AnswersSo}
use Rattle.sync_node.specs.Steps.{take_answer}
use Rattle.sync_node.proofs.Told.{noteless}
use Rattle.sync_node.proofs.editor.TakerClientStep.answer.Goals as goal

pub returns-in-Ok-clause-done : goal.returns-in-Ok-clause-done
returns-in-Ok-clause-done g c = λ notes records keeps stands.
    noteless _ records (λ rs. ClientStands rs c.take.new.client) c.take.result
    (subst (λ o. IfOk c.take.result (λ text. AnswersSo (option_map (take_answer records c.args.number) (option_map message_seen o)) records text.items (λ rs. ClientStands rs c.take.new.client)))
    (sym c.in-Ok.ensures.exact) (c.take.ensures.done records stands))
