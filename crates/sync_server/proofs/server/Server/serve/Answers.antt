use Rattle.std.proofs.Common.{◌≡◌, ◌==◌, Some, sym, ◌∙◌, subst}
use Rattle.sync_exchange.specs.Profile.{the_profile}
use Rattle.sync_exchange.specs.Seen.{message_seen}
use Rattle.sync_model.specs.Parts.{serve_by}
use Rattle.server_memory.specs.Kept.{parts}
use Rattle.server_memory.specs.Sending.{asked}
use Rattle.sync_server.specs.Serving.{Appends}
use Rattle.sync_server.proofs.server.Server.serve.Goals as goal

pub returns-in-Bind-clause-appends : goal.returns-in-Bind-clause-appends
returns-in-Bind-clause-appends g c =
    subst (λ m. Appends (serve_by the_profile (parts c.args.self.now.kept) (message_seen m)).records c.args.self.now c.take_bind.new.self c.take_bind.result) (sym c.in-Bind.is) c.take_bind.ensures.appends

pub returns-in-Upload-clause-appends : goal.returns-in-Upload-clause-appends
returns-in-Upload-clause-appends g c =
    subst (λ m. Appends (serve_by the_profile (parts c.args.self.now.kept) (message_seen m)).records c.args.self.now c.take_upload.new.self c.take_upload.result) (sym c.in-Upload.is) c.take_upload.ensures.appends

pub returns-in-Ask-clause-appends : goal.returns-in-Ask-clause-appends
returns-in-Ask-clause-appends g c =
    subst (λ m. Appends (serve_by the_profile (parts c.args.self.now.kept) (message_seen m)).records c.args.self.now c.take_ask.new.self c.take_ask.result) (sym c.in-Ask.is) c.take_ask.ensures.appends

pub returns-in-Ask2-clause-appends : goal.returns-in-Ask2-clause-appends
returns-in-Ask2-clause-appends g c =
    subst (λ m. Appends (serve_by the_profile (parts c.args.self.now.kept) (message_seen m)).records c.args.self.now c.take_ask-in-Ask2.new.self c.take_ask-in-Ask2.result) (sym c.in-Ask2.is) c.take_ask-in-Ask2.ensures.appends

pub returns-in-Retire-clause-appends : goal.returns-in-Retire-clause-appends
returns-in-Retire-clause-appends g c =
    subst (λ m. Appends (serve_by the_profile (parts c.args.self.now.kept) (message_seen m)).records c.args.self.now c.take_retire.new.self c.take_retire.result) (sym c.in-Retire.is) c.take_retire.ensures.appends

pub returns-in-AskTables-clause-appends : goal.returns-in-AskTables-clause-appends
returns-in-AskTables-clause-appends g c =
    let kept = parts c.args.self.now.kept in
    let same : (asked kept c.ask.result.now.ident c.ask.result.now.cursor c.ask.result.now.settled (Some c.tables.result.now) (c.form.result == 2)).records ≡ (serve_by the_profile kept (message_seen c.args.message.now)).records =
    (λ i. (asked kept (c.ask.ensures i).ident (c.ask.ensures i).cursor (c.ask.ensures i).settled (Some (c.tables.ensures i)) (c.form.ensures.value i == 2)).records)
    ∙ (λ i. (serve_by the_profile kept (message_seen (sym c.in-AskTables.is i))).records)
    in
    subst (λ l. Appends l c.args.self.now c.take_ask-in-AskTables.new.self c.take_ask-in-AskTables.result) same c.take_ask-in-AskTables.ensures.appends
