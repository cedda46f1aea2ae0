use Rattle.std.proofs.Common.{sym, subst}
use Rattle.sync_base.specs.Lemmas.Whole.{keeps_state, empty_is_state}
use Rattle.sync_base.specs.States.{State, IsState}
use Rattle.sync_store.proofs.Acting.{acts_on}
use Rattle.sync_store.specs.Small.{IsSmallState}
use Rattle.sync_store.proofs.Small.{stays_small, empty_small}
use Rattle.sync_store.proofs.store.Store.apply_one.Goals as goal

pub invariant_of-self : goal.invariant_of-self
invariant_of-self c =
    let h = c.in-Ok.ensures in
    let acts = acts_on c.args.instr.now c.self.inside.parts h.placed h.unbroken h.after in (
      keeps_state c.args.instr.now c.self.inside.parts c.apply.new.self c.self.invariant.0 acts,
      stays_small c.args.instr.now c.self.inside.parts c.apply.new.self c.self.invariant.0 (c.requires.small, h.grows) c.self.invariant.1 acts,
    )

pub invariant_of-self-in-Err-NoMemory : goal.invariant_of-self-in-Err-NoMemory
invariant_of-self-in-Err-NoMemory c = subst (λ (s : State). IsState s × IsSmallState s) (sym c.clear.ensures) (empty_is_state, empty_small)
