use Rattle.std.proofs.Common.{◌≡◌, ◌<◌, ◌≤◌, ◌-◌, length, ap, sym, subst, ◌∙◌, arith}
use Rattle.sync_codec.specs.Spelling.{spelling}
use Rattle.sync_data.specs.declared.instr.Instr.{Instr}
use Rattle.sync_model.specs.Clients.{Original}
use Rattle.sync_rebase.proofs.Places.{element}
use Rattle.sync_client.proofs.Uploads.{UploadSoFar, change_is, upload_end, upload_first, upload_full, upload_large, upload_next, upload_skips}
use Rattle.sync_client.proofs.sending.changes_of.Goals as goal

pub loop-place-init : goal.loop-place-init
loop-place-init c = subst (λ is. UploadSoFar c.args.after c.args.unsent.now 0 16777216 is) (sym c.new-changes.ensures.items) (upload_first c.args.after c.args.unsent.now)

pub returns-then-len-eq-MOST_CHANGES-clause-few : goal.returns-then-len-eq-MOST_CHANGES-clause-few
returns-then-len-eq-MOST_CHANGES-clause-few c = let few = c.loop-place.invariant.few in omega (arith, few)

pub returns-then-len-eq-MOST_CHANGES-clause-small : goal.returns-then-len-eq-MOST_CHANGES-clause-small
returns-then-len-eq-MOST_CHANGES-clause-small c = let all = c.loop-place.invariant.room_is in omega (arith, all)

pub returns-then-len-eq-MOST_CHANGES-clause-listed : goal.returns-then-len-eq-MOST_CHANGES-clause-listed
returns-then-len-eq-MOST_CHANGES-clause-listed c = upload_full c.args.after c.args.unsent.now c.loop-place.place c.loop-place.room c.loop-place.changes.items c.loop-place.invariant (let e = c.len.ensures in let ok = c.loop-place.changes.ok.0 in let t = c.if-len-eq-MOST_CHANGES.true in omega (arith, e, ok, t))

pub returns-then-size-room-clause-few : goal.returns-then-size-room-clause-few
returns-then-size-room-clause-few c = let few = c.loop-place.invariant.few in omega (arith, few)

pub returns-then-size-room-clause-small : goal.returns-then-size-room-clause-small
returns-then-size-room-clause-small c = let all = c.loop-place.invariant.room_is in omega (arith, all)

pub returns-then-size-room-clause-listed : goal.returns-then-size-room-clause-listed
returns-then-size-room-clause-listed c =
    let all = c.args.unsent.now in
    let place = c.loop-place.place in
    let there : place < length all = (let t = c.loop-place-test.true in let e = c.len-place-end.ensures in omega (arith, t, e)) in
    let u = element all place there in
    let made : c.in-Some.item.now ≡ u.0.original = c.in-Some.ensures.value u.0 u.1 in
    let above : c.args.after < u.0.original.number = subst (λ (o : Original Instr). c.args.after < o.number) made (let n = c.number-number.ensures.value in let t = c.if-number-after.false in omega (arith, n, t)) in
    let len : c.len-size.result ≡ length c.in-Ok.body.items = (let e = c.len-size.ensures in let ok = c.in-Ok.body.ok.0 in omega (arith, e, ok)) in
    let spelled = ap length (c.in-Ok.ensures.spelled ∙ ap (λ v. spelling v.instrs) c.changes.ensures.changes ∙ ap (λ (o : Original Instr). spelling o.instrs) made) in
    let large = c.if-size-room.true in
    upload_large c.args.after all place c.loop-place.room c.loop-place.changes.items u.0 c.loop-place.invariant there u.1 above (omega (arith, large, len, spelled))

pub change_of-requires : goal.change_of-requires
change_of-requires c =
    let len : c.len-size.result ≡ length c.in-Ok.body.items = (let e = c.len-size.ensures in let ok = c.in-Ok.body.ok.0 in omega (arith, e, ok)) in
    let all = c.loop-place.invariant.room_is in
    let fits = c.if-size-room.false in
    let same = ap length c.as_slice.ensures.value in
    omega (arith, len, all, fits, same)

pub loop-place-preserved-then-number-after : goal.loop-place-preserved-then-number-after
loop-place-preserved-then-number-after c =
    let all = c.args.unsent.now in
    let place = c.loop-place.place in
    let there : place < length all = (let t = c.loop-place-test.true in let e = c.len-place-end.ensures in omega (arith, t, e)) in
    let u = element all place there in
    let made : c.in-Some.item.now ≡ u.0.original = c.in-Some.ensures.value u.0 u.1 in
    let below : u.0.original.number ≤ c.args.after = subst (λ (o : Original Instr). o.number ≤ c.args.after) made (let n = c.number-number.ensures.value in let t = c.if-number-after.true in omega (arith, n, t)) in
    upload_skips c.args.after all place c.loop-place.room c.loop-place.changes.items u.0 c.loop-place.invariant there u.1 below

pub loop-place-preserved : goal.loop-place-preserved
loop-place-preserved c =
    let all = c.args.unsent.now in
    let place = c.loop-place.place in
    let there : place < length all = (let t = c.loop-place-test.true in let e = c.len-place-end.ensures in omega (arith, t, e)) in
    let u = element all place there in
    let made : c.in-Some.item.now ≡ u.0.original = c.in-Some.ensures.value u.0 u.1 in
    let above : c.args.after < u.0.original.number = subst (λ (o : Original Instr). c.args.after < o.number) made (let n = c.number-number.ensures.value in let t = c.if-number-after.false in omega (arith, n, t)) in
    let len : c.len-size.result ≡ length c.in-Ok.body.items = (let e = c.len-size.ensures in let ok = c.in-Ok.body.ok.0 in omega (arith, e, ok)) in
    let spelled = c.in-Ok.ensures.spelled ∙ ap (λ v. spelling v.instrs) c.changes.ensures.changes ∙ ap (λ (o : Original Instr). spelling o.instrs) made in
    let long = ap length spelled in
    let fits = c.if-size-room.false in
    upload_next c.args.after all place c.loop-place.room c.loop-place.changes.items c.push.new.items.items u.0 c.in_ok-change.change (c.loop-place.room - c.len-size.result) c.loop-place.invariant there u.1 above (λ full. c.if-len-eq-MOST_CHANGES.false (let e = c.len.ensures in let ok = c.loop-place.changes.ok.0 in omega (arith, e, ok, full))) (omega (arith, fits, len, long))
    (change_is c.in-Some.item.now u.0 c.in_ok-change.change c.as_slice.result.now made c.in_ok-change.ensures (c.as_slice.ensures.value ∙ spelled)) c.in_ok-push.ensures (ap (λ n. c.loop-place.room - n) (len ∙ long))

pub returns-clause-few : goal.returns-clause-few
returns-clause-few c = let few = c.loop-place.invariant.few in omega (arith, few)

pub returns-clause-small : goal.returns-clause-small
returns-clause-small c = let all = c.loop-place.invariant.room_is in omega (arith, all)

pub returns-clause-listed : goal.returns-clause-listed
returns-clause-listed c = upload_end c.args.after c.args.unsent.now c.loop-place.place c.loop-place.room c.loop-place.changes.items c.loop-place.invariant (let t = c.loop-place-test.false in let e = c.len-place-end.ensures in omega (arith, t, e))
