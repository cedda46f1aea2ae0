use Rattle.std.proofs.Common.{◌≡◌, map, sym, ◌∙◌, ap, subst}
use Rattle.sync_disk.specs.Images.{state}
use Rattle.sync_disk.specs.Leaving.{left_by}
use Rattle.sync_disk.specs.Origin.{Origin}
use Rattle.sync_disk.specs.contracts.memory.MemoryDiskDisk.TheImpl.{ghosts}
use Rattle.sync_disk.specs.declared.memory.MemoryDisk.{MemoryDisk}
use Rattle.sync_journal.specs.Records.{records_of}
use Rattle.sync_journal.specs.Records.Reading.{Good}
use Rattle.sync_exchange.specs.Seen.{server_bytes}
use Rattle.sync_world.proofs.Arming.{opened_server}
use Rattle.sync_world.proofs.hub.Hub.crash.Goals as goal

pub returns : goal.returns
returns c records left listed back =
    let same = c.in_ok-disk.ensures in
    let disk = c.in_ok-disk.disk in
    let holds = subst (λ (d : MemoryDisk). records_of (left_by (ghosts.origin d).leaves (state (ghosts.origin d).start (ghosts.strokes d))) ≡ Good (map server_bytes records)) (sym same) left in
    let content = c.crash.ensures.content in
    let origin = c.crash.ensures.origin _ content in
    let e = c.in_ok-self.ensures in
    opened_server records c.in_ok-self.field-0 (ghosts.origin c.crash.new.self) (e.server records _ content holds back) (e.stored records _ content holds back) e.origin (ap (λ (o : Origin). o.stop) origin)
    (ap (λ (o : Origin). o.listed) origin ∙ ap (λ (d : MemoryDisk). (ghosts.origin d).listed) same ∙ listed)
