use Rattle.std.proofs.Common.{◌≡◌, true, false, not, Ok, ap, sym, subst, ◌∙◌}
use Rattle.std.specs.Prelude.{IfOk}
use Rattle.sync_messages.specs.Parts.{AskParts}
use Rattle.sync_model.specs.Messages.{Ask, Ask2, AskTables}
use Rattle.sync_exchange.specs.Seen.{message_seen}
use Rattle.sync_client.proofs.Asking.{ask_answer, tables_sends}
use Rattle.sync_client.proofs.client.Client.ask.Goals as goal

pub returns-in-Some-clause-step : goal.returns-in-Some-clause-step
returns-in-Some-clause-step g c = λ records before.
    tables_sends records c.args.self.now.replica c.settled.result c.in-Some.tables c.ask_for.result before.kept (c.is_none.ensures ∙ ap not c.if-is_none.false) c.if-self-eq0.false c.in-Some.is c.settled.ensures.value
    (subst (λ (a : AskParts). IfOk c.ask_for.result (λ m. message_seen m ≡ AskTables a.ident a.cursor a.settled c.args.self.now.replica.second c.in-Some.tables)) c.new-ask.ensures c.ask_for.ensures.asked) c.ask_for.ensures.memory

pub returns-then-self-clause-step : goal.returns-then-self-clause-step
returns-then-self-clause-step g c = λ records before.
    ask_answer records c.args.self.now.replica true c.settled.result before.kept (c.is_none.ensures ∙ ap not c.if-is_none.false) c.if-self-eq0.false c.in-None.is c.if-self.true c.settled.ensures.value
    ∙ ap (λ (a : AskParts). Ok (Ask2 a.ident a.cursor a.settled)) (sym c.new-ask.ensures)

pub returns-else-self-clause-step : goal.returns-else-self-clause-step
returns-else-self-clause-step g c = λ records before.
    ask_answer records c.args.self.now.replica false c.settled.result before.kept (c.is_none.ensures ∙ ap not c.if-is_none.false) c.if-self-eq0.false c.in-None.is c.if-self.false c.settled.ensures.value
    ∙ ap (λ (a : AskParts). Ok (Ask a.ident a.cursor a.settled)) (sym c.new-ask.ensures)
