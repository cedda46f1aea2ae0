use Rattle.std.proofs.Common.{◌≡◌, ◌∙◌, ap}
use Rattle.std.specs.FinMap as map
use Rattle.sync_base.specs.Checks.{break_of}
use Rattle.sync_base.specs.Effects.{NewTable}
use Rattle.sync_base.specs.States.{State}
use Rattle.sync_maps.specs.Answers.{was_ok}
use Rattle.sync_store.proofs.Taking.{table_absent, table_back}
use Rattle.sync_store.proofs.parts.Parts.put_table.Goals as goal

pub returns-clause-back : goal.returns-clause-back
returns-clause-back c =
    let t = c.args.add.now.table in
    let given : c.in_ok-copy.field-0 ≡ t = cc c.in_ok-copy.ensures.equal in
    let added = was_ok c.add_table.result c.if-is_err.ensures.value c.add_table.ensures.ok in
    let absent = table_absent (record { tables = c.self.inside.schema; objects = c.self.inside.objects }) t c.args.add.now.key (ap (λ (s : State). break_of s (NewTable t c.args.add.now.key)) c.self.view_is ∙ c.requires) in
    (λ i. record {
      tables = ((λ j. map.remove (added j) t) ∙ (λ j. map.remove (map.insert c.self.inside.schema (given j) (record { key = c.args.add.now.key; columns = map.empty })) t) ∙ table_back c.self.inside.schema t _ absent) i;
      objects = c.self.inside.objects;
    }) ∙ c.self.view_is
