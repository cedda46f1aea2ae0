use Rattle.std.proofs.Common.{rules, ◌≡◌, sym, ◌∙◌}
use Rattle.sync_rebase.specs.Stretches.{shown_by}
use Rattle.sync_rebase.proofs.Making.{none_shown}
use Rattle.sync_rebase.proofs.items.Items.join.Goals as goal

pub returns-then-is_none : goal.returns-then-is_none
returns-then-is_none c =
    let same : shown_by c.first_stretch.result c.self.inside.items.items ≡ c.args.self.now = c.first_stretch.ensures.shown ∙ sym (none_shown c.self.inside.stretch c.self.inside.items.items c.if-is_none.ensures) ∙ c.self.view_is in
    search (rules, same)
