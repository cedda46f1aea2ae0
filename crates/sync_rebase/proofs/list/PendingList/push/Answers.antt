use Rattle.sync_rebase.proofs.Places.{listed_push}
use Rattle.sync_rebase.proofs.list.PendingList.push.Goals as goal

pub invariant_of-self : goal.invariant_of-self
invariant_of-self c = listed_push c.push.result c.self.inside.index c.self.inside.items c.push.new.self c.args.unsent c.push.ensures.ok c.push.ensures.unchanged c.self.invariant
