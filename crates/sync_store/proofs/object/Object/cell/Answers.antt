use Rattle.std.proofs.Common.{sym, arith}
use Rattle.sync_base.specs.Lemmas.Looks.{name_total, name_exact}
use Rattle.sync_store.proofs.Ordered.{here, got_here, got_none}
use Rattle.sync_store.proofs.object.Object.cell.Goals as goal

pub index-requires : goal.index-requires
index-requires c =
    let h = here name_total name_exact c.self.inside.cells.items c.self.invariant c.self.view_is c.args.column.now c.in-Ok.place c.in-Ok.ensures.found in
    omega (arith, h.0, c.self.inside.cells.ok.0)

pub returns-in-Ok : goal.returns-in-Ok
returns-in-Ok c = sym (got_here name_total name_exact c.self.inside.cells.items c.self.invariant c.self.view_is c.args.column.now c.in-Ok.place c.in-Ok.ensures.found c.index.result.now c.index.ensures)

pub returns-in-Err : goal.returns-in-Err
returns-in-Err c = sym (got_none name_total name_exact c.self.inside.cells.items c.self.invariant c.self.view_is c.args.column.now c.in-Err.field-0 c.in-Err.ensures.absent)
