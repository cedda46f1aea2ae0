use Rattle.std.proofs.Common.{[], ◌++◌, map, ap, ◌∙◌}
use Rattle.std.specs.Prelude.{flat_map}
use Rattle.std.specs.FinMap as fin
use Rattle.sync_model.specs.Cuts.{cut}
use Rattle.sync_exchange.specs.Profile.{fits_changeset}
use Rattle.sync_maps.specs.Answers.{then_so}
use Rattle.sync_snapshot.specs.Lists.{table_instrs}
use Rattle.sync_snapshot.specs.Parts.{untimed, parts_with}
use Rattle.sync_snapshot.proofs.Lists.{all_is}
use Rattle.sync_snapshot.proofs.building.build.Goals as goal

pub returns : goal.returns
returns c =
    let s = c.args.objects.now in
    let objects = flat_map (λ e. table_instrs s e.0) (fin.entries s.tables) ++ [] in
    record {
      parts = then_so c.finish.result (λ parts is.
          is ∙ c.in_ok-put_objects.ensures [] ∙ c.in_ok-push_all.ensures objects
          ∙ (λ i. parts_with (c.new-cutter.ensures i) (c.in_ok-schema_instrs.ensures.made i ++ objects))
          ∙ ap (λ is. map untimed (cut fits_changeset is)) (all_is s c.keeps_its_limits.ensures.state)) c.finish.ensures;
    }
