use Rattle.std.proofs.Common.{ap, subst}
use Rattle.sync_model.specs.Clients.{Unsent}
use Rattle.sync_data.specs.declared.instr.Instr.{Instr}
use Rattle.list_places.specs.Moves.{moved_first, IsShown}
use Rattle.sync_transform.proofs.Anywhere.{shown_stay, moved_shown}
use Rattle.sync_rebase.proofs.unsent.Unsent.stays.Goals as goal

pub returns-clause-own : goal.returns-clause-own
returns-clause-own c = λ told.
    let own = subst (IsShown c.written.result.now.instrs) (ap (λ (u : Unsent Instr). u.current) c.self.view_is) c.written.ensures in
    shown_stay c.written.result.now.instrs c.written-2.result.now.instrs c.args.self.now.current c.args.changes.now.instrs own c.written-2.ensures (c.ones_stay.ensures told)

pub returns-clause-told : goal.returns-clause-told
returns-clause-told c = λ told action kind.
    let now = c.args.self.now.current in
    let own = subst (IsShown c.written.result.now.instrs) (ap (λ (u : Unsent Instr). u.current) c.self.view_is) c.written.ensures in
    shown_stay c.written.result.now.instrs c.written-2.result.now.instrs (moved_first action now) c.args.changes.now.instrs (moved_shown c.written.result.now.instrs now own action kind) c.written-2.ensures (c.ones_stay.ensures told)
