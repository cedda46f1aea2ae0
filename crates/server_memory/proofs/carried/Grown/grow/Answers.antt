use Rattle.std.proofs.Common.{Err, subst}
use Rattle.sync_data.specs.declared.entry.Entry.{Entry}
use Rattle.sync_transform.specs.Sets.{made_by}
use Rattle.server_memory.specs.Merging.{AppliesBy}
use Rattle.server_memory.specs.declared.carried.Grown.{Grown}
use Rattle.server_memory.specs.declared.refusal.ChangeRefusal.{ChangeRefusal}
use Rattle.server_memory.proofs.Entering.{grows, grows_not}
use Rattle.server_memory.proofs.carried.Grown.grow.Goals as goal

pub returns-in-Err-Refused : goal.returns-in-Err-Refused
returns-in-Err-Refused c =
    let broke = subst (λ (e : ChangeRefusal). AppliesBy (Err e) c.args.changes.instrs c.args.self.now.objects c.apply.new.objects) c.in-Err-Refused.field-0-is c.in-Err-Refused.ensures in
    grows_not c.args.self.now (made_by c.args.origin c.args.head.number c.args.changes) broke.0 broke.1

pub returns : goal.returns
returns c =
    let e : Entry = record { origin = c.args.origin; number = c.args.head.number; changes = c.args.changes } in
    let new : Grown = record { objects = c.apply.new.objects; entries = c.keep_entry.new.entries; bases = c.keep_entry.new.bases } in
    grows c.args.self.now new e c.args.head.base c.in-Ok.ensures c.in_ok-keep_entry.ensures.ok c.in_ok-keep_entry.ensures.based
