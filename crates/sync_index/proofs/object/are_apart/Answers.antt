use Rattle.std.proofs.Common.{sym, ◌∙◌}
use Rattle.sync_base.specs.Lemmas.Objects.{apart_stay}
use Rattle.sync_index.proofs.object.are_apart.Goals as goal

pub returns-clause-stay : goal.returns-clause-stay
returns-clause-stay c h later = apart_stay c.args.left.now c.args.right.now later (sym c.are_two.ensures ∙ h)
