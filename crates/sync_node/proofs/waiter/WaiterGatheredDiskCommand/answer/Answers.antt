use Rattle.std.proofs.Common.{IfOk, sym, ap, subst}
use Rattle.std.specs.Option.{option_map}
use Rattle.sync_model.specs.Parts.{serve_by}
use Rattle.sync_exchange.specs.Profile.{the_profile}
use Rattle.sync_exchange.specs.Seen.{message_seen}
use Rattle.sync_node.specs.Holding.{ServerStands}
use Rattle.sync_node.specs.Runs.{AnswersSo}
use Rattle.sync_node.specs.Steps.{kept_or, replied}
use Rattle.sync_words.specs.Messages.{message_read}
use Rattle.server_memory.specs.Kept.{parts}
use Rattle.sync_server.specs.Serving.{kept_of}
use Rattle.sync_node.proofs.waiter.WaiterGatheredDiskCommand.answer.Goals as goal

pub returns-in-Ok-clause-done : goal.returns-in-Ok-clause-done
returns-in-Ok-clause-done g c = λ notes records stands.
    subst (λ k. IfOk c.reply.result (λ text. AnswersSo (option_map (λ message. replied (serve_by the_profile k message)) (message_read c.args.item.now)) records text.items (λ rs. ServerStands rs c.reply.new.server)))
    (sym (ap kept_or stands.server.gives))
    (subst (λ o. IfOk c.reply.result (λ text. AnswersSo (option_map (λ message. replied (serve_by the_profile (parts (kept_of c.args.self.now.server)) message)) (option_map message_seen o)) records text.items (λ rs. ServerStands rs c.reply.new.server)))
    (sym c.in-Ok.ensures.exact) (c.reply.ensures.done records stands))
