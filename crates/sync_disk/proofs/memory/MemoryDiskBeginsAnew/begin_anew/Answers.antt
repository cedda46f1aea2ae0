use Rattle.std.proofs.Common.{Some, sym, ◌∙◌, ap, subst}
use Rattle.sync_disk.specs.contracts.memory.MemoryDiskDisk.TheImpl.{ghosts}
use Rattle.sync_disk.proofs.memory.MemoryDiskBeginsAnew.begin_anew.Goals as goal

pub returns-clause-content : goal.returns-clause-content
returns-clause-content c = c.crash.ensures.content ∙ ap Some (sym c.args.self.now.in_step)

pub returns-clause-crash : goal.returns-clause-crash
returns-clause-crash c f image =
    let only = c.crash.ensures.synced _ c.crash.ensures.content f image in
    subst (ghosts.images c.args.self.now) (sym only) (c.crash.ensures.image _ c.crash.ensures.content)
