use Rattle.std.proofs.Common.{Option, sym, subst}
use Rattle.std.specs.Option.{option_map}
use Rattle.sync_model.specs.Parts.{serve_by}
use Rattle.sync_exchange.specs.Profile.{the_profile}
use Rattle.sync_exchange.specs.Seen.{message_seen}
use Rattle.sync_messages.specs.declared.message.Message.{Message}
use Rattle.server_memory.specs.Kept.{parts}
use Rattle.sync_server.specs.Serving.{kept_of}
use Rattle.sync_host.specs.Steps.{ServerLasts, message_read}
use Rattle.sync_host.proofs.Lasting.{server_still}
use Rattle.sync_host.proofs.server.take.Goals as goal

pub returns-in-Ok-clause-lasts : goal.returns-in-Ok-clause-lasts
returns-in-Ok-clause-lasts g c = λ records is.
    subst (λ (m : Option Message). ServerLasts (option_map (serve_by the_profile (parts (kept_of c.args.server.now))) (option_map message_seen m)) records c.args.server.now c.take_message.new.server) (sym c.in-Ok.ensures.exact)
    (c.take_message.ensures.lasts records is)

pub returns-in-Err-NoMemory-clause-lasts : goal.returns-in-Err-NoMemory-clause-lasts
returns-in-Err-NoMemory-clause-lasts g c = λ records is. server_still g.met.D.Disk.only_now (option_map (serve_by the_profile (parts (kept_of c.args.server.now))) (message_read c.args.bytes.now)) records c.args.server.now is

pub returns-in-Err-BadMessage-clause-lasts : goal.returns-in-Err-BadMessage-clause-lasts
returns-in-Err-BadMessage-clause-lasts g c = λ records is. server_still g.met.D.Disk.only_now (option_map (serve_by the_profile (parts (kept_of c.args.server.now))) (message_read c.args.bytes.now)) records c.args.server.now is
