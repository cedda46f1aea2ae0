use Rattle.std.proofs.Common.{sym, ap, ◌∙◌, subst}
use Rattle.sync_data.specs.Payload.{IsSmall}
use Rattle.list_places.specs.Moves.{moved_first}
use Rattle.list_places.proofs.Stands.{moved_small}
use Rattle.list_places.proofs.moves.moved_to.Goals as goal

pub unwrap-requires : goal.unwrap-requires
unwrap-requires c =
    c.checked.ensures.good.1 (subst IsSmall (sym (c.move_first.ensures ∙ ap (moved_first c.args.action) c.into_instrs-instrs.ensures.listed)) (moved_small c.args.action c.args.changes.instrs c.into_instrs-instrs.ensures.small))
