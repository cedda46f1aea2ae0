use Rattle.std.proofs.Common.{◌∙◌}
use Rattle.sync_base.specs.After.{default_of}
use Rattle.sync_base.specs.Lemmas.Looks.{name_total, name_exact}
use Rattle.sync_store.proofs.Filling.{filled_same, filled_with}
use Rattle.sync_store.proofs.object.Object.of_columns.Goals as goal

pub loop-name-init : goal.loop-name-init
loop-name-init c =
    let given = c.into_iter-name-iterator.ensures.into_iter_gives in
    filled_same default_of c.in_ok-object.ensures given.0 ∙ filled_with name_total name_exact default_of c.args.columns.now.entries given.5
