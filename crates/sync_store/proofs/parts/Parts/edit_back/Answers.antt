use Rattle.std.proofs.Common.{◌≡◌, None, Some, sym, ◌∙◌}
use Rattle.sync_base.specs.Effects.{path_of}
use Rattle.sync_base.specs.States.{State}
use Rattle.sync_cells.specs.Undoing.{done_if, inverse_at}
use Rattle.sync_maps.specs.Answers.{was_ok}
use Rattle.sync_store.specs.Backs.{changed_at}
use Rattle.sync_store.proofs.Taking.{cell_same}
use Rattle.sync_store.proofs.parts.Parts.edit_back.Goals as goal

pub returns-in_default : goal.returns-in_default
returns-in_default c =
    let s : State = c.args.self.now in
    let none : inverse_at c.args.instr.now c.args.former ≡ None = sym c.in_ok-edit.ensures ∙ c.in_default.is in
    (λ i. record { tables = s.tables; objects = sym (cell_same s.objects (path_of c.args.cell.now).0 c.args.cell.now.column) i })
    ∙ (λ i. changed_at c.args.cell.now (done_if (sym none i)) s)

pub returns : goal.returns
returns c =
    let found : inverse_at c.args.instr.now c.args.former ≡ Some c.in-Some.edit = sym c.in_ok-edit.ensures ∙ c.in-Some.is in
    let edited = was_ok c.edit.result c.if-is_err.ensures.value c.edit.ensures.done in
    (λ i. record { tables = c.self.inside.schema; objects = edited i })
    ∙ (λ i. changed_at c.args.cell.now (done_if (sym found i)) (c.self.view_is i))
