use Rattle.std.proofs.Common.{◌≡◌, ◌<◌, ◌≤◌, length, refl, ap, sym, subst, ◌∙◌, arith}
use Rattle.sync_data.specs.declared.instr.Instr.{Instr}
use Rattle.sync_model.specs.Clients.{Original}
use Rattle.sync_rebase.proofs.Places.{element}
use Rattle.sync_client.proofs.Behinds.{behind_next, behind_not}
use Rattle.sync_client.proofs.replica.Replica.is_behind.Goals as goal

pub returns-then-base-version : goal.returns-then-base-version
returns-then-base-version c =
    let all = c.args.self.now.unsent in
    let place = c.loop-place.place in
    let there : place < length all = (let t = c.loop-place-test.true in let e = c.len-place-end.ensures in omega (arith, t, e)) in
    let u = element all place there in
    let made : c.in-Some.unsent.now ≡ u.0.original = c.in-Some.ensures.value u.0 u.1 in
    let above : c.args.version < u.0.original.base = subst (λ (o : Original Instr). c.args.version < o.base) made (let n = c.base.ensures in let t = c.if-base-version.true in omega (arith, n, t)) in
    sym (behind_not c.args.version all place u.0 c.loop-place.invariant there u.1 above)

pub loop-place-preserved : goal.loop-place-preserved
loop-place-preserved c =
    let all = c.args.self.now.unsent in
    let place = c.loop-place.place in
    let there : place < length all = (let t = c.loop-place-test.true in let e = c.len-place-end.ensures in omega (arith, t, e)) in
    let u = element all place there in
    let made : c.in-Some.unsent.now ≡ u.0.original = c.in-Some.ensures.value u.0 u.1 in
    let low : u.0.original.base ≤ c.args.version = subst (λ (o : Original Instr). o.base ≤ c.args.version) made (let n = c.base.ensures in let t = c.if-base-version.false in omega (arith, n, t)) in
    behind_next c.args.version all place u.0 c.loop-place.invariant there u.1 low
