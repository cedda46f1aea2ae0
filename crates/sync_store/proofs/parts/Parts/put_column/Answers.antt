use Rattle.std.proofs.Common.{◌≡◌, sym, ◌∙◌, ap, subst}
use Rattle.sync_base.specs.After.{tables_after}
use Rattle.sync_base.specs.Checks.{break_of}
use Rattle.sync_base.specs.Effects.{NewColumn}
use Rattle.sync_base.specs.Maps.{map_with}
use Rattle.sync_base.specs.States.{State, IsState}
use Rattle.sync_maps.specs.Answers.{was_ok}
use Rattle.sync_schema.specs.Steps.{tables_without_column}
use Rattle.sync_store.specs.Flat.{without_cell}
use Rattle.sync_store.proofs.Taking.{column_absent, tables_back, objects_back}
use Rattle.sync_store.proofs.parts.Parts.put_column.Goals as goal

pub returns-clause-back : goal.returns-clause-back
returns-clause-back c =
    let t = c.args.add.now.table in
    let name = c.args.add.now.column in
    let def = c.args.add.now.def in
    let s : State = record { tables = c.self.inside.schema; objects = c.self.inside.objects } in
    let ok : IsState s = subst IsState (sym c.self.view_is) c.requires.state in
    let absent = column_absent s t name def (ap (λ (s : State). break_of s (NewColumn t name def)) c.self.view_is ∙ c.requires.acts) in
    let t1 : c.in_ok-copy.field-0 ≡ t = cc c.in_ok-copy.ensures.equal in
    let c2 : c.in_ok-copy-2.field-0 ≡ name = cc c.in_ok-copy-2.ensures.equal in
    let d3 : c.in_ok-copy-3.field-0 ≡ def = cc c.in_ok-copy-3.ensures.equal in
    let added = was_ok c.add_column-2.result c.if-is_err.ensures.value c.add_column-2.ensures.ok in
    (λ i. record {
      tables = ((λ j. tables_without_column t name (added j)) ∙ (λ j. tables_without_column t name (tables_after (NewColumn (t1 j) (c2 j) (d3 j)) c.self.inside.schema)) ∙ tables_back c.self.inside.schema t name def absent.0 absent.1) i;
      objects = ((λ j. map_with (without_cell t name) (c.in_ok-add_column.ensures j)) ∙ objects_back s ok t name def absent.1) i;
    }) ∙ c.self.view_is
