use Rattle.std.proofs.Common.{◌≡◌, [], ◌∷◌, ◌++◌, ap, ◌∙◌}
use Rattle.sync_data.specs.declared.instr.Instr.TheVariants as instrs
use Rattle.sync_base.specs.Effects.{ObjectName}
use Rattle.sync_snapshot.specs.Lists.{cells_instrs}
use Rattle.sync_snapshot.proofs.Lists.{object_is}
use Rattle.sync_snapshot.proofs.objects.object_instrs.Goals as goal

pub returns : goal.returns
returns c =
    let s = c.args.objects.now in
    let o : ObjectName = (c.args.table.now, c.args.key.now) in
    let table : c.in_ok-table_name.table_name ≡ c.args.table.now = cc c.in_ok-table_name.ensures.equal in
    let key : c.in_ok-key_name.key_name ≡ c.args.key.now = cc c.in_ok-key_name.ensures.equal in
    record {
      made = c.in_ok-put_cells.ensures
          ∙ ap (λ l. l ++ cells_instrs s o) (c.in_ok-put.ensures ∙ (λ i. c.new-list.ensures.items i ++ instrs.CreateObject (record { table = table i; key = key i }) ∷ []))
          ∙ object_is s o c.requires.there;
    }
