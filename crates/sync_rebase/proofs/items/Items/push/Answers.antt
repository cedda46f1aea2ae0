use Rattle.std.proofs.Common.{◌≡◌, ◌∙◌}
use Rattle.sync_rebase.specs.Stretches.{shown_by}
use Rattle.sync_rebase.proofs.Shown.{stands_push, shown_push}
use Rattle.sync_rebase.proofs.items.Items.push.Goals as goal

pub extend_last-requires : goal.extend_last-requires
extend_last-requires c = stands_push c.self.inside.stretch c.self.inside.items.items c.push_back.new.items.items c.args.unsent c.in_ok-push_back.ensures.ok c.self.invariant

pub returns-clause-ok : goal.returns-clause-ok
returns-clause-ok c =
    let us = c.self.inside.items.items in
    let o = c.self.inside.stretch in
    let view : shown_by o us ≡ c.args.self.now = c.self.view_is in
    c.extend_last.ensures.shown ∙ shown_push o us c.push_back.new.items.items c.args.self.now c.args.unsent c.in_ok-push_back.ensures.ok c.self.invariant view
