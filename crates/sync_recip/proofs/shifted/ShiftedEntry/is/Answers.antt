use Rattle.std.proofs.Common.{sym, ap, ◌∙◌}
use Rattle.sync_data.specs.declared.entry.Entry.{Entry}
use Rattle.sync_data.specs.Equality.{changes_decides}
use Rattle.list_places.specs.Moves.{shown_changes}
use Rattle.sync_recip.specs.Standing.{stood}
use Rattle.sync_recip.proofs.shifted.ShiftedEntry.is.Goals as goal

pub returns-in-None : goal.returns-in-None
returns-in-None c = λ told.
    (changes_decides c.args.changes.now c.entry.result.now.changes).0 (sym c.eq.ensures ∙ told)
    ∙ ap (λ (e : Entry). e.changes) c.entry.ensures
    ∙ ap (λ o. shown_changes o c.self.inside.shared.changes) (sym c.in-None.is)
    ∙ ap (λ f. stood f c.self.inside.action c.self.inside.shared.changes) (sym c.if-self.false)
    ∙ ap (λ (e : Entry). e.changes) c.self.view_is
