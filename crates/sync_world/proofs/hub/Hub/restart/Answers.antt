use Rattle.std.proofs.Common.{◌≡◌, Option, Some, None, sym, ◌∙◌, ap, subst}
use Rattle.std.specs.Option.{option_map}
use Rattle.sync_disk.specs.contracts.memory.MemoryDiskDisk.TheImpl.{ghosts}
use Rattle.sync_disk.specs.declared.memory.MemoryDisk.{MemoryDisk}
use Rattle.sync_model.specs.Worlds.{Stop}
use Rattle.sync_world.specs.Nodes.{HoldsServer, stop_seen}
use Rattle.sync_world.proofs.Arming.{opened_server}
use Rattle.sync_world.proofs.hub.Hub.restart.Goals as goal

pub returns-in-Some : goal.returns-in-Some
returns-in-Some c records s h back =
    let before = c.disarm.ensures records h.server h.stored h.armed.listed in
    let same = c.in_ok-disk.ensures in
    let told = ap (λ (d : MemoryDisk). ghosts.content d) same ∙ before.stored.settled.told in
    let e = c.in_ok-self.ensures in
    let open_ = opened_server records c.in_ok-self.field-0 (ghosts.origin c.in_ok-disk.disk) (e.server records _ told before.stored.settled.reads back) (e.stored records _ told before.stored.settled.reads back) e.origin
    (ap (λ (d : MemoryDisk). (ghosts.origin d).stop) same ∙ before.armed.stop) (ap (λ (d : MemoryDisk). (ghosts.origin d).listed) same ∙ before.armed.listed) in
    let is : Some (stop_seen c.in-Some.stop) ≡ s = sym (ap (λ o. option_map stop_seen o) c.in-Some.is) ∙ h.kept_is in
    subst (λ (x : Option Stop). HoldsServer records x c.arm.new.self.stop c.arm.new.self.server) is (c.arm.ensures records None open_)

pub returns-in-None : goal.returns-in-None
returns-in-None c records s h back =
    let before = c.disarm.ensures records h.server h.stored h.armed.listed in
    let same = c.in_ok-disk.ensures in
    let told = ap (λ (d : MemoryDisk). ghosts.content d) same ∙ before.stored.settled.told in
    let e = c.in_ok-self.ensures in
    let open_ = opened_server records c.in_ok-self.field-0 (ghosts.origin c.in_ok-disk.disk) (e.server records _ told before.stored.settled.reads back) (e.stored records _ told before.stored.settled.reads back) e.origin
    (ap (λ (d : MemoryDisk). (ghosts.origin d).stop) same ∙ before.armed.stop) (ap (λ (d : MemoryDisk). (ghosts.origin d).listed) same ∙ before.armed.listed) in
    let is : None ≡ s = sym (ap (λ o. option_map stop_seen o) c.in-None.is) ∙ h.kept_is in
    subst (λ (x : Option Stop). HoldsServer records x None c.in_ok-self.field-0) is open_
