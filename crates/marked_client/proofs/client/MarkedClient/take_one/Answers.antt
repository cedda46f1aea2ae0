use Rattle.std.proofs.Common.{ap, ◌∙◌}
use Rattle.sync_model.specs.Clients.{client_of, take}
use Rattle.sync_exchange.specs.Profile.{the_profile}
use Rattle.sync_exchange.specs.Seen.{message_seen, sent_seen}
use Rattle.sync_messages.specs.declared.message.Message.TheVariants as messages
use Rattle.sync_messages.specs.Parts.{DownloadParts}
use Rattle.marked_client.proofs.Entries.{entry_err, entry_says, taking_one}
use Rattle.marked_client.proofs.client.MarkedClient.take_one.Goals as goal

pub returns-in-Ok-take_as_ever : goal.returns-in-Ok-take_as_ever
returns-in-Ok-take_as_ever g c = record {
  does = λ records k next.
      entry_says records c.take_as_ever.new.self (sent_seen c.args.sent.now) c.in-Ok-take_as_ever.taken _
      (ap (λ (d : DownloadParts). take the_profile (client_of the_profile records) (message_seen (messages.Download d))) c.in-Ok.ensures ∙ taking_one records c.args.self.now.client.replica c.args.ident c.args.version (sent_seen c.args.sent.now) k.kept next)
      (c.in-Ok-take_as_ever.ensures.does records k);
}

pub returns-in-Err-take_as_ever : goal.returns-in-Err-take_as_ever
returns-in-Err-take_as_ever g c = record {
  does = λ records k next.
      entry_err records c.take_as_ever.new.self (sent_seen c.args.sent.now) c.in-Err-take_as_ever.why _
      (ap (λ (d : DownloadParts). take the_profile (client_of the_profile records) (message_seen (messages.Download d))) c.in-Ok.ensures ∙ taking_one records c.args.self.now.client.replica c.args.ident c.args.version (sent_seen c.args.sent.now) k.kept next)
      (c.in-Err-take_as_ever.ensures.does records k);
}
