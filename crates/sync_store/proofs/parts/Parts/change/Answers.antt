use Rattle.std.proofs.Common.{◌∙◌}
use Rattle.std.specs.Option.{option_and_then}
use Rattle.sync_base.specs.Effects.{path_of}
use Rattle.sync_cells.specs.Undoing.{done_if, inverse}
use Rattle.sync_maps.specs.Seen.{at_key}
use Rattle.sync_store.proofs.parts.Parts.change.Goals as goal

pub returns-clause-back : goal.returns-clause-back
returns-clause-back c =
    let o = (path_of c.args.cell.now).0 in
    let name = c.args.cell.now.column in
    (λ i. record {
      tables = c.self.inside.schema;
      objects = ((λ j. at_key o (at_key name (done_if (option_and_then (λ e. inverse e c.in-Ok.former) (c.requires j)))) c.edit.new.self) ∙ c.in-Ok.ensures.former) i;
    }) ∙ c.self.view_is
