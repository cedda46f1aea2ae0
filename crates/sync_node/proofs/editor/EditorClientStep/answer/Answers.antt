use Rattle.std.proofs.Common.{IfOk, sym, subst}
use Rattle.std.specs.Option.{option_map}
use Rattle.sync_node.specs.Holding.{ClientStands}
use Rattle.sync_node.specs.Runs.{AnswersSo}
use Rattle.sync_node.specs.Steps.{line_answer}
use Rattle.sync_node.proofs.Told.{noteless}
use Rattle.sync_node.proofs.editor.EditorClientStep.answer.Goals as goal

pub returns-in-Ok-clause-done : goal.returns-in-Ok-clause-done
returns-in-Ok-clause-done g c = λ notes records keeps stands.
    noteless _ records (λ rs. ClientStands rs c.take_line.new.client) c.take_line.result
    (subst (λ o. IfOk c.take_line.result (λ text. AnswersSo (option_map (line_answer records c.args.number) o) records text.items (λ rs. ClientStands rs c.take_line.new.client)))
    (sym c.in-Ok.ensures) (c.take_line.ensures.done records stands))
