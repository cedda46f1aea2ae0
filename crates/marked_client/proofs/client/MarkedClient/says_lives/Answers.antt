use Rattle.std.proofs.Common.{sym, ◌∙◌, ap}
use Rattle.sync_model.specs.Clients.{client_of}
use Rattle.sync_exchange.specs.Profile.{the_profile}
use Rattle.life_bytes.specs.Envelopes.{SaysParts}
use Rattle.life_bytes.specs.declared.letter.Letter.TheVariants as letters
use Rattle.marked_client.specs.Marked.{marks_of, uuid_of}
use Rattle.marked_client.proofs.NoUpload.{broken_is, not_upload, on_each}
use Rattle.marked_client.proofs.client.MarkedClient.says_lives.Goals as goal

pub returns-in_default : goal.returns-in_default
returns-in_default g c = record {
  told = λ records k.
      on_each c.plainly.result
      (λ letter e. e
      ∙ ap (λ (x : SaysParts). letters.Says x) (sym (not_upload (marks_of c.args.self.now) (uuid_of records) (client_of the_profile records).cursor c.args.message c.in_default.not-Upload)))
      (c.plainly.ensures.told records k);
  refused = broken_is c.plainly.result c.plainly.ensures.refused;
}
