use Rattle.std.proofs.lemmas.Result.{err_from_is_err_and}
use Rattle.std.proofs.Common.{ap, sym, ◌∙◌, Ok, ◌≡◌, ◌+◌, length, arith}
use Rattle.sync_model.specs.Snapshots.{grown}
use Rattle.sync_exchange.specs.Profile.{the_profile}
use Rattle.server_memory.specs.Fronting.{instrs_of}
use Rattle.server_memory.proofs.Fronted.{grown_on, not_grown, one_state, parts_fail, parts_fit}
use Rattle.server_memory.proofs.kept.Kept.front_parts.Goals as goal

pub returns-in_err-parts : goal.returns-in_err-parts
returns-in_err-parts c =
    let p = err_from_is_err_and c.from_residual.result c.from_residual.ensures.1 in
    rw (p.1, p.2) (parts_fail c.args.records.now c.args.first c.args.second c.in_err-parts.field-0.0 c.in_err-parts.ensures)

pub returns-in_err-below : goal.returns-in_err-below
returns-in_err-below c =
    let p = err_from_is_err_and c.from_residual-in_err-below.result c.from_residual-in_err-below.ensures.1 in
    rw (p.1, p.2) (not_grown c.args.records.now c.args.first c.args.second c.in_ok-parts.parts.items c.in_ok-parts.ensures.0 c.in_ok-parts.ensures.1 c.in_err-below.field-0.0 c.as_slice.result.now c.as_slice.ensures.value c.in_err-below.ensures)

pub returns-in_err-objects : goal.returns-in_err-objects
returns-in_err-objects c =
    let p = err_from_is_err_and c.from_residual-in_err-objects.result c.from_residual-in_err-objects.ensures.1 in
    rw (p.1, p.2) (not_grown c.args.records.now c.args.first c.args.second c.in_ok-parts.parts.items c.in_ok-parts.ensures.0 c.in_ok-parts.ensures.1 c.in_err-objects.field-0.0 c.as_slice-2.result.now c.as_slice-2.ensures.value c.in_err-objects.ensures)

pub front_floor-requires-clause-within : goal.front_floor-requires-clause-within
front_floor-requires-clause-within c =
    let fit = parts_fit c.args.records.now c.args.first c.args.second c.in_ok-parts.parts.items c.in_ok-parts.ensures.0 c.in_ok-parts.ensures.1 c.requires.within in
    omega (arith, fit, c.len.ensures, c.in_ok-parts.parts.ok.0)

pub front_floor-requires-clause-same : goal.front_floor-requires-clause-same
front_floor-requires-clause-same c = one_state c.as_slice.result.now c.as_slice-2.result.now c.in_ok-below.below c.in_ok-objects.objects (c.as_slice.ensures.value ∙ sym c.as_slice-2.ensures.value) c.in_ok-below.ensures c.in_ok-objects.ensures

pub returns : goal.returns
returns c =
    let parts = c.in_ok-parts.parts.items in
    let state : grown the_profile (instrs_of parts) ≡ Ok c.in_ok-below.below = ap (λ l. grown the_profile (instrs_of l)) (sym c.as_slice.ensures.value) ∙ c.in_ok-below.ensures in
    let here : c.args.first + c.len.result ≡ c.args.first + length parts = omega (arith, c.len.ensures, c.in_ok-parts.parts.ok.0) in
    grown_on c.args.records.now c.args.first c.args.second parts c.in_ok-parts.ensures.0 c.in_ok-parts.ensures.1 c.in_ok-below.below (c.args.first + c.len.result) c.front_floor.result state here c.front_floor.ensures
