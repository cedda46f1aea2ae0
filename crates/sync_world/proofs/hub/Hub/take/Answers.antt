use Rattle.std.proofs.Common.{◌≡◌, List, Option, Some, None, ◌++◌, sym, ◌∙◌, ap, subst}
use Rattle.sync_disk.specs.Origin.{Origin}
use Rattle.sync_disk.specs.contracts.memory.MemoryDiskDisk.TheImpl.{ghosts}
use Rattle.sync_journal.specs.Stands.{disk_of}
use Rattle.sync_model.specs.Servers as model
use Rattle.sync_exchange.specs.Profile.{the_profile}
use Rattle.sync_exchange.specs.Seen.{message_seen, server_bytes}
use Rattle.sync_model.specs.Parts.{serve_by}
use Rattle.server_memory.specs.Kept.{parts}
use Rattle.sync_server.specs.Serving.{AskedFor, IsServerOf, IsStored, journal_of, kept_of}
use Rattle.sync_server.specs.declared.refusal.ServerRefusal.{ServerRefusal}
use Rattle.sync_world.specs.Nodes.{ServerStandReads}
use Rattle.sync_world.specs.Serves.{ServeDone}
use Rattle.sync_world.proofs.Stops.{StopsTell, cuts, goes}
use Rattle.sync_world.proofs.hub.Hub.take.Goals as goal

pub returns-in-Ok : goal.returns-in-Ok
returns-in-Ok c records s opens h reads =
    let tell : StopsTell ghosts = record { never = c.stops_tell.ensures.never; passed = c.stops_tell.ensures.passed; stopped = c.stops_tell.ensures.stopped } in
    let e = c.in-Ok.ensures in
    let survives = e.survives records h.server h.stored in
    let m = message_seen c.args.message in
    let did = model.serve the_profile (model.server_of the_profile records) m in
    let alike = c.worlds_read_back.ensures.serves records (parts (kept_of c.args.self.now.server)) m opens h.server.gives in
    let same : (serve_by the_profile (parts (kept_of c.args.self.now.server)) m).records ≡ did.records = ap (λ x. x.records) alike in
    let far = goes ghosts tell server_bytes records did.records _ (disk_of (journal_of c.args.self.now.server)) (disk_of (journal_of c.take.new.self)) h.stored.settled e.disk.told e.disk.same_origin s h.armed _ (subst (λ (rs : List model.ServerRecord). AskedFor rs (journal_of c.args.self.now.server) (journal_of c.take.new.self) None) same survives.asked) in
    let step = e.does records h.server in
    let server = subst (λ (rs : List model.ServerRecord). IsServerOf (records ++ rs) c.take.new.self) same step.server in
    let stored = subst (λ (rs : List model.ServerRecord). IsStored (records ++ rs) c.take.new.self) same survives.stored in
    let listed = ap (λ (o : Origin). o.listed) e.disk.same_origin in
    subst (λ (stand : Option (List model.ServerRecord)). ServeDone did records stand (Some c.in-Ok.reply) c.disarm.new.self) (sym far.0)
    (record { said = sym (step.reply_is ∙ ap (λ x. x.answer) alike); server = c.disarm.ensures (records ++ did.records) server stored (listed ∙ h.armed.listed) })

pub returns-in-Ok-crash : goal.returns-in-Ok-crash
returns-in-Ok-crash c records s opens h reads =
    let tell : StopsTell ghosts = record { never = c.stops_tell.ensures.never; passed = c.stops_tell.ensures.passed; stopped = c.stops_tell.ensures.stopped } in
    let e = c.in-Err-DiskFault.ensures in
    let m = message_seen c.args.message in
    let did = model.serve the_profile (model.server_of the_profile records) m in
    let alike = c.worlds_read_back.ensures.serves records (parts (kept_of c.args.self.now.server)) m opens h.server.gives in
    let same : (serve_by the_profile (parts (kept_of c.args.self.now.server)) m).records ≡ did.records = ap (λ x. x.records) alike in
    let asked = subst (λ (why : ServerRefusal). AskedFor did.records (journal_of c.args.self.now.server) (journal_of c.take.new.self) (Some why)) c.in-Err-DiskFault.field-0-is
    (subst (λ (rs : List model.ServerRecord). AskedFor rs (journal_of c.args.self.now.server) (journal_of c.take.new.self) (Some c.in-Err-DiskFault.field-0)) same (e.survives records h.server h.stored).asked) in
    let cut = cuts ghosts tell server_bytes records did.records _ (disk_of (journal_of c.args.self.now.server)) (disk_of (journal_of c.take.new.self)) h.stored.settled e.disk.told e.disk.same_origin s h.armed asked in
    let back = subst (ServerStandReads records) cut.1 reads in
    let listed = ap (λ (o : Origin). o.listed) e.disk.same_origin in
    subst (λ (stand : Option (List model.ServerRecord)). ServeDone did records stand None c.crash.new.self) (sym cut.1)
    (record { said = tt; server = c.in-Ok-crash.ensures (records ++ cut.0) cut.2 (listed ∙ h.armed.listed) back })
