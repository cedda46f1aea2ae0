-- What a server does by what it keeps, and the records of its file.
use Rattle.std.proofs.Common.{◌≡◌, false, List, Ok, sym, ap, ◌∙◌}
use Rattle.sync_data.specs.declared.instr.Instr.{Instr}
use Rattle.sync_base.specs.States.{State}
use Rattle.sync_disk.specs.declared.disk.Disk.{Ghosts}
use Rattle.sync_model.specs.Messages.{Message}
use Rattle.sync_model.specs.Parts.{Parts, serve_by}
use Rattle.sync_model.specs.Servers.{ServerRecord}
use Rattle.sync_model.proofs.Written.{serve_writes}
use Rattle.sync_exchange.specs.Profile.{the_profile}
use Rattle.sync_messages.specs.declared.message.Message.{Message as CodeMessage}
use Rattle.server_memory.specs.Kept.{parts}
use Rattle.sync_server.specs.Serving.{Did, IsServed, IsServerOf, is_closed}
use Rattle.sync_server.specs.declared.server.Server.{Server}
use Rattle.server_memory.proofs.Continuing.{file_goes_on}

module _ {D : Type 0} {G : Ghosts D} (records : List ServerRecord) (m : Message) (old new : Server D G) (is : IsServerOf records old) where
  pub did : (reply : CodeMessage) → IsServed (serve_by the_profile (parts old.kept) m) reply new.kept → is_closed new ≡ false → Did (serve_by the_profile (parts old.kept) m) reply records new
  did reply served still =
      let writes = serve_writes the_profile (parts old.kept) m in
      record {
        reply_is = served.reply_is;
        parts_are = served.parts_are;
        server = record {
          gives = file_goes_on the_profile records (serve_by the_profile (parts old.kept) m).records (parts old.kept) is.gives writes.opens
              ∙ ap (λ (k : Parts Instr State). Ok k) (writes.gives ∙ sym served.parts_are);
          open_ = still;
        };
      }
