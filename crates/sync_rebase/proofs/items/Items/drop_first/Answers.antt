use Rattle.std.proofs.Common.{◌≡◌, ◌∙◌, ap}
use Rattle.sync_rebase.specs.Stretches.{shown_by}
use Rattle.sync_rebase.proofs.Shown.{dropped_stands, dropped_shown}
use Rattle.sync_theory.specs.Grid.{tail}
use Rattle.sync_rebase.proofs.items.Items.drop_first.Goals as goal

pub invariant_of-self : goal.invariant_of-self
invariant_of-self c =
    dropped_stands c.write_head.new.stretch c.step_back.new.stretch c.write_head.new.items.items c.drop_front.new.items.items c.write_head.ensures.behind c.step_back.ensures c.drop_front.ensures c.write_head.ensures.stands

pub returns : goal.returns
returns c =
    let us = c.self.inside.items.items in
    let o = c.self.inside.stretch in
    let view : shown_by o us ≡ c.args.self.now = c.self.view_is in
    dropped_shown c.write_head.new.stretch c.step_back.new.stretch c.write_head.new.items.items c.drop_front.new.items.items c.write_head.ensures.behind c.step_back.ensures c.drop_front.ensures
    ∙ ap tail (c.write_head.ensures.shown ∙ view)
