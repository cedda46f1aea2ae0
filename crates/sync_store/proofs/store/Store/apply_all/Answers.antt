use Rattle.std.proofs.Common.{◌≤◌, List, sym, subst}
use Rattle.sync_base.specs.Lemmas.Whole.{empty_is_state}
use Rattle.sync_base.specs.States.{State, IsState}
use Rattle.sync_store.specs.Applying.{keep_state}
use Rattle.sync_data.specs.Payload.{payload_all}
use Rattle.sync_data.specs.declared.instr.Instr.{Instr}
use Rattle.sync_store.specs.Small.{IsSmallState, most_bytes}
use Rattle.sync_store.proofs.Small.{empty_small}
use Rattle.sync_store.proofs.store.Store.apply_all.Goals as goal

pub invariant_of-self : goal.invariant_of-self
invariant_of-self c =
    (keep_state c.instrs.result.now c.self.inside.parts c.put_all.new.self c.self.invariant.0 c.in-Ok.ensures.applied, c.in-Ok.ensures.small (subst (λ (l : List Instr). payload_all l ≤ most_bytes) (sym c.instrs.ensures.listed) c.instrs.ensures.small.1) c.self.invariant.1)

pub invariant_of-self-in-Err-NoMemory : goal.invariant_of-self-in-Err-NoMemory
invariant_of-self-in-Err-NoMemory c = subst (λ (s : State). IsState s × IsSmallState s) (sym c.clear.ensures) (empty_is_state, empty_small)
