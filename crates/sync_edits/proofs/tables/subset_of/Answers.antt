use Rattle.std.proofs.Common.{Some, refl, sym, ap, ◌∙◌}
use Rattle.sync_edits.proofs.Subsets.{is_left, is_taken}
use Rattle.sync_edits.proofs.tables.subset_of.Goals as goal

pub returns-in-Ok : goal.returns-in-Ok
returns-in-Ok c = is_taken c.args.names.items (c.in-Ok.ensures.good.0 refl) ∙ ap Some (sym c.in-Ok.ensures.ok)

pub returns-in-Err : goal.returns-in-Err
returns-in-Err c = (refl, is_left c.args.names.items (λ is. let no = c.in-Err.ensures.good.1 is in absurd (cc no)))
