use Rattle.std.proofs.Common.{refl, sym, subst, ◌∙◌, ap}
use Rattle.sync_model.specs.Clients.{client_of, take}
use Rattle.sync_exchange.specs.Profile.{the_profile}
use Rattle.sync_exchange.specs.Seen.{message_seen}
use Rattle.sync_messages.specs.declared.message.Message.{Message}
use Rattle.life_bytes.specs.declared.answered.Answered.TheVariants as answered
use Rattle.marked_client.specs.Marked.{TookAsEver, marks_of, standing_of}
use Rattle.marked_client.proofs.Passing.{download_passes}
use Rattle.marked_client.proofs.client.MarkedClient.take_message.Goals as goal

pub returns-in-Download : goal.returns-in-Download
returns-in-Download g c = record {
  does = λ records k inner passes.
      subst (λ (m : Message). TookAsEver (take the_profile (client_of the_profile records) (message_seen m)) records c.take_entries.new.self c.take_entries.result) (sym c.in-Download.is)
      (c.take_entries.ensures.does records (standing_of records c.args.self.now) k refl
      (download_passes (marks_of c.args.self.now) (standing_of records c.args.self.now) c.args.answers.now c.in-Download.download (inner ∙ ap (λ (m : Message). answered.Message m) c.in-Download.is) passes));
}

pub returns-in-Ident : goal.returns-in-Ident
returns-in-Ident g c = record {
  does = λ records k inner passes.
      subst (λ (m : Message). TookAsEver (take the_profile (client_of the_profile records) (message_seen m)) records c.take_ident.new.self c.take_ident.result) (sym c.in-Ident.is) (c.take_ident.ensures.does records k);
}
