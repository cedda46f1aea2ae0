use Rattle.sync_index.proofs.Filtered.{passes_put}
use Rattle.sync_index.proofs.index.Index.include_object.Goals as goal

pub invariant_of-self : goal.invariant_of-self
invariant_of-self c =
    passes_put c.put.result (c.args.table.now, c.args.key) c.self.inside.filter c.mark.new.self c.self.inside.objects c.put.new.self c.mark.ensures c.put.ensures.ok c.put.ensures.unchanged c.self.invariant
