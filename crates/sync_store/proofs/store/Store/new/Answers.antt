use Rattle.std.proofs.Common.{◌≡◌, sym, subst}
use Rattle.std.specs.FinMap as map
use Rattle.sync_base.specs.States.{State, IsState, no_state}
use Rattle.sync_base.specs.Lemmas.Whole.{empty_is_state}
use Rattle.sync_store.specs.Small.{IsSmallState}
use Rattle.sync_store.proofs.Small.{empty_small}
use Rattle.sync_store.proofs.store.Store.new.Goals as goal

pub invariant_of-result : goal.invariant_of-result
invariant_of-result c =
    let tables : c.in_ok-new.field-0 ≡ map.empty = cc c.in_ok-new.ensures.empty in
    let same : ◌≡◌ {A = State} (record { tables = c.in_ok-new.field-0; objects = c.new-2.result }) no_state = λ i. record { tables = tables i; objects = c.new-2.ensures i } in
    subst (λ (s : State). IsState s × IsSmallState s) (sym same) (empty_is_state, empty_small)
