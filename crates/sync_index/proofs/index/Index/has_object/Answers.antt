use Rattle.std.proofs.Common.{sym, ◌∙◌, ap}
use Rattle.sync_index.specs.Touched.{has_object}
use Rattle.sync_index.proofs.Filtered.{absent}
use Rattle.sync_index.proofs.index.Index.has_object.Goals as goal

pub returns-else-may_hold : goal.returns-else-may_hold
returns-else-may_hold c =
    c.if-may_hold.false
    ∙ sym (absent c.self.inside.filter c.self.inside.objects (c.args.table.now, c.args.key.now) c.self.invariant (sym c.may_hold.ensures ∙ c.if-may_hold.false))
    ∙ ap (λ t. has_object t (c.args.table.now, c.args.key.now)) c.self.view_is
