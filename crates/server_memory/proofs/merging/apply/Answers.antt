use Rattle.std.proofs.Common.{Err, refl, subst, arith}
use Rattle.sync_base.specs.Codes.{break_code}
use Rattle.sync_store.specs.Applying.{AppliesAll}
use Rattle.sync_exchange.specs.Lemmas.Lawful.{fitting_small}
use Rattle.server_memory.proofs.Placed.{small_placed, applied, broken}
use Rattle.server_memory.proofs.merging.apply.Goals as goal

pub overflow_cast-result : goal.overflow_cast-result
overflow_cast-result c =
    let is = c.args.changes.now.instrs in
    let told = subst (λ e. AppliesAll (Err e) is c.args.objects.now c.apply_all.new.self) c.in-Err-Break.field-0-is c.in-Err-Break.ensures.applied in
    let b = broken is c.args.objects.now (c.in-Err-Break.place, c.in-Err-Break.cause) (small_placed is c.requires) told.0 in
    let few = (fitting_small is c.requires).0 in
    omega (arith, b.within, few)

pub returns-in-Ok : goal.returns-in-Ok
returns-in-Ok c = applied c.args.changes.now.instrs c.args.objects.now c.apply_all.new.self (small_placed c.args.changes.now.instrs c.requires) c.in-Ok.ensures.applied

pub returns-in-Err-Break : goal.returns-in-Err-Break
returns-in-Err-Break c =
    let is = c.args.changes.now.instrs in
    let told = subst (λ e. AppliesAll (Err e) is c.args.objects.now c.apply_all.new.self) c.in-Err-Break.field-0-is c.in-Err-Break.ensures.applied in
    let b = broken is c.args.objects.now (c.in-Err-Break.place, c.in-Err-Break.cause) (small_placed is c.requires) told.0 in
    ((c.in-Err-Break.place, break_code c.in-Err-Break.cause), b.is_err, refl, told.1)
