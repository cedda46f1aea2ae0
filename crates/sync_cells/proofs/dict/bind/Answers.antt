use Rattle.std.proofs.Common.{sym, ◌∙◌, ap}
use Rattle.sync_base.specs.After.{bound}
use Rattle.sync_base.specs.Lemmas.Looks.{name_total, name_exact}
use Rattle.sync_maps.specs.Seen.{got, inserted, removed}
use Rattle.sync_cells.specs.Lists.{bindings}
use Rattle.sync_cells.proofs.dict.bind.Goals as goal

pub returns-in_default-clause-ok : goal.returns-in_default-clause-ok
returns-in_default-clause-ok c = (
  c.remove.ensures.value ∙ sym (got name_total c.args.dict.now c.args.at),
  removed name_total name_exact c.args.dict.now c.remove.new.self c.args.at c.remove.ensures.updates.0 ∙ ap (bound (bindings c.args.dict.now) c.args.at) (sym c.in_default.is),
)

pub returns-in-Ok-clause-ok : goal.returns-in-Ok-clause-ok
returns-in-Ok-clause-ok c = (
  c.in-Ok.ensures.old ∙ sym (got name_total c.args.dict.now c.args.at),
  inserted name_total name_exact c.args.dict.now c.insert.new.self c.args.at c.in-Some.value c.in-Ok.ensures.updates.0 ∙ ap (bound (bindings c.args.dict.now) c.args.at) (sym c.in-Some.is),
)
