use Rattle.std.proofs.lemmas.Result.{err_from_is_err_and}
use Rattle.std.proofs.Common.{◌≡◌, ◌<◌, None, sym, ap, ◌∙◌, subst, arith}
use Rattle.sync_model.specs.Profile.{needs}
use Rattle.sync_exchange.specs.Profile.{the_profile}
use Rattle.sync_data.specs.declared.instr.Instr.{Instr}
use Rattle.sync_model.specs.Parts.{Given, is_newer}
use Rattle.server_memory.specs.Kept.{parts}
use Rattle.server_memory.specs.History.{len_of}
use Rattle.server_memory.specs.Merging.{change_of, numbers_broken}
use Rattle.server_memory.proofs.Keeps.{the_same}
use Rattle.server_memory.proofs.Needs.{any_needs}
use Rattle.server_memory.proofs.Steps.{ready, not_ready}
use Rattle.server_memory.proofs.kept.Kept.prepare.Goals as goal

pub carry-requires : goal.carry-requires
carry-requires c = (c.requires.fresh.given, c.requires.fresh.is_given)

pub returns-clause-second : goal.returns-clause-second
returns-clause-second c =
    c.any_needs_second-second.ensures ∙ any_needs c.instrs.result.now ∙ ap (needs the_profile) c.instrs.ensures.listed ∙ sym (ap (is_newer the_profile) c.in_ok-changes.ensures.1)

pub returns-clause-prepared : goal.returns-clause-prepared
returns-clause-prepared c = λ g is.
    let h = change_of c.args.head c.args.body.now in
    let kept = parts c.args.self.now in
    let found = c.in-Some.given.now in
    let v = c.in_ok-changes.changes in
    let carried = c.in_ok-carried.carried in
    let same : found ≡ g = the_same (c.in-Some.ensures.given ∙ is) in
    let own : c.requires.fresh.given ≡ g = the_same (sym c.requires.fresh.is_given ∙ is) in
    let above = subst (λ (d : Given Instr). d.count < h.number) own c.requires.fresh.above in
    let numbers = subst (λ m. numbers_broken kept.len m found h.number h.base ≡ None) c.floor.ensures (subst (λ n. numbers_broken n c.floor.result found h.number h.base ≡ None) c.len.ensures (sym c.in-Ok.ensures)) in
    let carries = c.in_ok-carried.ensures.carries found (sym c.in-Some.ensures.given) h.number in
    let second = c.any_needs_second-second.ensures ∙ any_needs c.instrs.result.now ∙ ap (needs the_profile) c.instrs.ensures.listed in
    ready kept c.args.ident found g h v same numbers c.in_ok-changes.ensures carried c.any_needs_second-second.result carries second (len_of c.args.self.now.history) c.in-Some.ensures.others above (omega (arith, c.len.ensures, c.len.type_inv))

pub returns-in_err-carried-clause-prepared : goal.returns-in_err-carried-clause-prepared
returns-in_err-carried-clause-prepared c = λ g is.
    let h = change_of c.args.head c.args.body.now in
    let kept = parts c.args.self.now in
    let found = c.in-Some.given.now in
    let v = c.in_ok-changes.changes in
    let same : found ≡ g = the_same (c.in-Some.ensures.given ∙ is) in
    let numbers = subst (λ m. numbers_broken kept.len m found h.number h.base ≡ None) c.floor.ensures (subst (λ n. numbers_broken n c.floor.result found h.number h.base ≡ None) c.len.ensures (sym c.in-Ok.ensures)) in
    let p = err_from_is_err_and c.from_residual-in_err-carried.result c.from_residual-in_err-carried.ensures.1 in
    rw (p.1, p.2) (not_ready kept c.args.ident found g h v same numbers c.in_ok-changes.ensures c.in_err-carried.field-0.0 (c.in_err-carried.ensures.carries found (sym c.in-Some.ensures.given) h.number))
