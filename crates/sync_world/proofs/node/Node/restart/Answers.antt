use Rattle.std.proofs.Common.{◌≡◌, Option, Some, None, sym, ◌∙◌, ap, subst}
use Rattle.std.specs.Option.{option_map}
use Rattle.sync_disk.specs.contracts.memory.MemoryDiskDisk.TheImpl.{ghosts}
use Rattle.sync_disk.specs.declared.memory.MemoryDisk.{MemoryDisk}
use Rattle.sync_model.specs.Worlds.{Stop}
use Rattle.sync_world.specs.Nodes.{HoldsClient, stop_seen}
use Rattle.sync_world.proofs.Arming.{opened_client}
use Rattle.sync_world.proofs.node.Node.restart.Goals as goal

pub returns-in-Some-clause-client : goal.returns-in-Some-clause-client
returns-in-Some-clause-client c records s h back =
    let before = c.disarm.ensures.client records h.client h.stored h.armed.listed in
    let same = c.in_ok-disk.ensures.disk in
    let told = ap (λ (d : MemoryDisk). ghosts.content d) same ∙ before.stored.settled.told in
    let e = c.in_ok-self.ensures in
    let open_ = opened_client records c.in_ok-self.field-0 (ghosts.origin c.in_ok-disk.disk) (e.client records _ told before.stored.settled.reads back) (e.stored records _ told before.stored.settled.reads back) e.origin
    (ap (λ (d : MemoryDisk). (ghosts.origin d).stop) same ∙ before.armed.stop) (ap (λ (d : MemoryDisk). (ghosts.origin d).listed) same ∙ before.armed.listed) in
    let is : Some (stop_seen c.in-Some.stop) ≡ s = sym (ap (λ o. option_map stop_seen o) c.in-Some.is) ∙ h.kept_is in
    subst (λ (x : Option Stop). HoldsClient records x c.arm.new.self.stop c.arm.new.self.client) is (c.arm.ensures.client records None open_)

pub returns-in-None-clause-client : goal.returns-in-None-clause-client
returns-in-None-clause-client c records s h back =
    let before = c.disarm.ensures.client records h.client h.stored h.armed.listed in
    let same = c.in_ok-disk.ensures.disk in
    let told = ap (λ (d : MemoryDisk). ghosts.content d) same ∙ before.stored.settled.told in
    let e = c.in_ok-self.ensures in
    let open_ = opened_client records c.in_ok-self.field-0 (ghosts.origin c.in_ok-disk.disk) (e.client records _ told before.stored.settled.reads back) (e.stored records _ told before.stored.settled.reads back) e.origin
    (ap (λ (d : MemoryDisk). (ghosts.origin d).stop) same ∙ before.armed.stop) (ap (λ (d : MemoryDisk). (ghosts.origin d).listed) same ∙ before.armed.listed) in
    let is : None ≡ s = sym (ap (λ o. option_map stop_seen o) c.in-None.is) ∙ h.kept_is in
    subst (λ (x : Option Stop). HoldsClient records x None c.in_ok-self.field-0) is open_
