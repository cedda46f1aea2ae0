use Rattle.std.proofs.Common.{Some, sym, ap, ◌∙◌}
use Rattle.sync_transform.proofs.in_place.are_of_one_cell.Goals as goal

pub returns-in-Some-Some : goal.returns-in-Some-Some
returns-in-Some-Some c = λ told. sym c.in-Some-Some.ensures ∙ ap Some (c.same_cell.ensures.same told) ∙ c.in-Some-Some.ensures'
