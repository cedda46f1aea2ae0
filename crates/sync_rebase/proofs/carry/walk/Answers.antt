use Rattle.std.proofs.Common.{◌≡◌, ◌<◌, ◌≤◌, ◌+◌, List, [], ◌∷◌, ◌++◌, Some, Ok, refl, sym, ap, ◌∙◌, subst, length, arith}
use Rattle.sync_data.specs.Payload.{Changes}
use Rattle.sync_theory.specs.Changesets.{cross_sets}
use Rattle.sync_law.specs.Instrs.{meet}
use Rattle.sync_model.specs.Clients.{changeset_of}
use Rattle.sync_transform.specs.Sets.{made_by}
use Rattle.list_places.specs.Moves.{moved_changes}
use Rattle.sync_transform.proofs.Shown.{shown_covered}
use Rattle.sync_rebase.specs.declared.carried.Crossed.{Crossed}
use Rattle.sync_rebase.specs.declared.carried.Crossed.TheVariants.{One, Stretch}
use Rattle.sync_rebase.specs.declared.carried.Became.TheVariants.{Moved, Changed}
use Rattle.sync_rebase.specs.Acrossing.{CrossesStretch}
use Rattle.sync_rebase.specs.Taking.{Crosses}
use Rattle.sync_rebase.specs.Passing.{StopsAt}
use Rattle.sync_rebase.specs.Settling.{Carried, settled, currents}
use Rattle.sync_rebase.specs.Stretches.{IsAt}
use Rattle.sync_rebase.proofs.Places.{element}
use Rattle.sync_rebase.proofs.Rebasing.{walk_across}
use Rattle.sync_rebase.proofs.Walk.{Walked, walk_start, walk_stays, walk_moves, walk_crosses, walk_on, walk_stops, walk_ends}
use Rattle.sync_rebase.proofs.carry.walk.Goals as goal

pub loop-from-init : goal.loop-from-init
loop-from-init c = record {
  walked = subst (λ l. Walked c.args.index.now c.args.rivals.now c.args.codes.now c.args.own c.args.items.now c.args.entry 0 l c.new-changes.result) (sym c.new-crossed.ensures.items)
      (walk_start c.args.index.now c.args.rivals.now c.args.codes.now c.args.own c.args.items.now c.args.entry c.new-changes.result c.new-changes.ensures c.requires.indexed c.requires.served);
  within = omega arith;
  same = refl;
}

pub returns-then-place-end-clause-crosses : goal.returns-then-place-end-clause-crosses
returns-then-place-end-clause-crosses c =
    let all = c.args.items.now in
    let end : c.next-place.result ≤ length all = omega (arith, c.next-place.ensures.order.1, c.len-end.ensures) in
    let pass = c.next-place.ensures.pass c.loop-from.changes.instrs (currents all) c.loop-from.invariant.walked.served c.is_empty.ensures.0 c.requires.listed in
    let there = walk_on c.args.index.now c.args.rivals.now c.args.codes.now c.args.own c.args.items.now c.args.entry c.loop-from.crossed.items c.loop-from.changes c.loop-from.from c.next-place.result c.next-place.ensures.order.0 end pass c.loop-from.invariant.walked in
    let past : length all ≤ c.next-place.result = omega (arith, c.if-place-end.true, c.len-end.ensures) in
    subst (λ (x : Carried). Crosses c.args.own all c.args.entry (settled x.crossed all) x.changes) (sym c.new.ensures)
    (subst (Crosses c.args.own all c.args.entry (settled c.loop-from.crossed.items all)) (sym c.into_changes.ensures)
    (walk_ends c.args.index.now c.args.rivals.now c.args.codes.now c.args.own c.args.items.now c.args.entry c.next-place.result c.loop-from.crossed.items c.loop-from.changes there past))

pub loop-from-preserved-in-Some : goal.loop-from-preserved-in-Some
loop-from-preserved-in-Some c =
    let all = c.args.items.now in
    let end : c.next-place.result ≤ length all = omega (arith, c.next-place.ensures.order.1, c.len-end.ensures) in
    let pass = c.next-place.ensures.pass c.loop-from.changes.instrs (currents all) c.loop-from.invariant.walked.served c.is_empty.ensures.0 c.requires.listed in
    let passing = c.in-Some.passing in
    let crosses : CrossesStretch c.loop-from.from c.next-place.result c.args.own all c.args.entry.origin c.loop-from.changes passing =
    subst (λ l. CrossesStretch c.loop-from.from c.next-place.result c.args.own l c.args.entry.origin c.loop-from.changes passing) c.loop-from.invariant.same c.in-Some.ensures
    in
    let W : List Crossed → Changes → Type 0 = Walked c.args.index.now c.args.rivals.now c.args.codes.now c.args.own c.args.items.now c.args.entry (passing.across.start + passing.across.count) in
    record {
      walked = subst (λ l. W l c.passed_on-changes.result) (sym c.in_ok-push.ensures.ok) (subst (W (c.loop-from.crossed.items ++ Stretch passing.across ∷ [])) (sym c.passed_on-changes.ensures)
          (walk_across c.args.index.now c.args.rivals.now c.args.codes.now c.args.own c.args.items.now c.args.entry c.loop-from.crossed.items c.loop-from.changes c.loop-from.from c.next-place.result passing pass crosses c.loop-from.invariant.walked));
      within = crosses.within;
      same = c.loop-from.invariant.same;
    }

pub moves-requires : goal.moves-requires
moves-requires c = let same = ap length c.loop-from.invariant.same in omega (arith, c.if-place-end.false, c.len-end.ensures, same)

pub stays-requires : goal.stays-requires
stays-requires c =
    let same = ap length (c.moves.ensures.same ∙ c.loop-from.invariant.same) in
    omega (arith, c.if-place-end.false, c.len-end.ensures, same)

pub pass-requires-clause-within : goal.pass-requires-clause-within
pass-requires-clause-within c =
    let same = ap length (c.moves.ensures.same ∙ c.loop-from.invariant.same) in
    omega (arith, c.if-place-end.false, c.len-end.ensures, same)

pub shift_to-requires : goal.shift_to-requires
shift_to-requires c =
    let all = c.args.items.now in
    let within : c.next-place.result < length all = omega (arith, c.if-place-end.false, c.len-end.ensures) in
    let u = element all c.next-place.result within in
    (c.in-Some-moves.ensures.moves u.0 (subst (λ l. IsAt c.next-place.result l u.0) (sym c.loop-from.invariant.same) u.1)).right

pub loop-from-preserved-in-Some-moves : goal.loop-from-preserved-in-Some-moves
loop-from-preserved-in-Some-moves c =
    let all = c.args.items.now in
    let end : c.next-place.result ≤ length all = omega (arith, c.next-place.ensures.order.1, c.len-end.ensures) in
    let pass = c.next-place.ensures.pass c.loop-from.changes.instrs (currents all) c.loop-from.invariant.walked.served c.is_empty.ensures.0 c.requires.listed in
    let there = walk_on c.args.index.now c.args.rivals.now c.args.codes.now c.args.own c.args.items.now c.args.entry c.loop-from.crossed.items c.loop-from.changes c.loop-from.from c.next-place.result c.next-place.ensures.order.0 end pass c.loop-from.invariant.walked in
    let within : c.next-place.result < length all = omega (arith, c.if-place-end.false, c.len-end.ensures) in
    let u = element all c.next-place.result within in
    let same = c.loop-from.invariant.same in
    let left : c.moves.new.self ≡ all = c.moves.ensures.same ∙ same in
    let W : List Crossed → Changes → Type 0 = Walked c.args.index.now c.args.rivals.now c.args.codes.now c.args.own c.args.items.now c.args.entry (c.next-place.result + 1) in
    let moves = c.in-Some-moves.moves in
    let both = c.in-Some-moves.ensures.moves u.0 (subst (λ l. IsAt c.next-place.result l u.0) (sym same) u.1) in
    record {
      walked = subst (λ l. W l c.shift_to.new.self) (sym c.in_ok-push-2.ensures.ok) (subst (W (c.loop-from.crossed.items ++ One c.next-place.result (Moved moves.left) ∷ [])) (sym c.shift_to.ensures)
          (walk_moves c.args.index.now c.args.rivals.now c.args.codes.now c.args.own c.args.items.now c.args.entry c.next-place.result c.loop-from.crossed.items c.loop-from.changes there u.0 within u.1 moves.left (moved_changes moves.right c.loop-from.changes) both.left (both.crosses c.args.entry.number) (shown_covered c.args.index.now (Some moves.right) c.loop-from.changes.instrs c.loop-from.invariant.walked.indexed)));
      within = omega (arith, within);
      same = left;
    }

pub loop-from-preserved-then-stays : goal.loop-from-preserved-then-stays
loop-from-preserved-then-stays c =
    let all = c.args.items.now in
    let end : c.next-place.result ≤ length all = omega (arith, c.next-place.ensures.order.1, c.len-end.ensures) in
    let pass = c.next-place.ensures.pass c.loop-from.changes.instrs (currents all) c.loop-from.invariant.walked.served c.is_empty.ensures.0 c.requires.listed in
    let there = walk_on c.args.index.now c.args.rivals.now c.args.codes.now c.args.own c.args.items.now c.args.entry c.loop-from.crossed.items c.loop-from.changes c.loop-from.from c.next-place.result c.next-place.ensures.order.0 end pass c.loop-from.invariant.walked in
    let within : c.next-place.result < length all = omega (arith, c.if-place-end.false, c.len-end.ensures) in
    let u = element all c.next-place.result within in
    let same = c.loop-from.invariant.same in
    let left : c.moves.new.self ≡ all = c.moves.ensures.same ∙ same in
    record {
      walked = walk_stays c.args.index.now c.args.rivals.now c.args.codes.now c.args.own c.args.items.now c.args.entry c.next-place.result c.loop-from.crossed.items c.loop-from.changes there u.0 within u.1
          (c.if-stays.ensures refl u.0 (subst (λ l. IsAt c.next-place.result l u.0) (sym left) u.1) c.loop-from.invariant.walked.indexed);
      within = omega (arith, within);
      same = left;
    }

pub returns-in-Err-clause-refused : goal.returns-in-Err-clause-refused
returns-in-Err-clause-refused c =
    let all = c.args.items.now in
    let end : c.next-place.result ≤ length all = omega (arith, c.next-place.ensures.order.1, c.len-end.ensures) in
    let pass = c.next-place.ensures.pass c.loop-from.changes.instrs (currents all) c.loop-from.invariant.walked.served c.is_empty.ensures.0 c.requires.listed in
    let there = walk_on c.args.index.now c.args.rivals.now c.args.codes.now c.args.own c.args.items.now c.args.entry c.loop-from.crossed.items c.loop-from.changes c.loop-from.from c.next-place.result c.next-place.ensures.order.0 end pass c.loop-from.invariant.walked in
    let within : c.next-place.result < length all = omega (arith, c.if-place-end.false, c.len-end.ensures) in
    let u = element all c.next-place.result within in
    let same = c.loop-from.invariant.same in
    let left : c.moves.new.self ≡ all = c.moves.ensures.same ∙ same in
    walk_stops c.args.index.now c.args.rivals.now c.args.codes.now c.args.own c.args.items.now c.args.entry c.next-place.result c.loop-from.crossed.items c.loop-from.changes there u.0 within u.1 c.in-Err.refusal
    (subst (λ y. StopsAt c.args.own u.0 c.args.entry.origin y c.in-Err.refusal) c.into_changes-in-loop-from.ensures (c.in-Err.ensures.stuck u.0 (subst (λ l. IsAt c.next-place.result l u.0) (sym left) u.1)))

pub loop-from-preserved : goal.loop-from-preserved
loop-from-preserved c =
    let all = c.args.items.now in
    let end : c.next-place.result ≤ length all = omega (arith, c.next-place.ensures.order.1, c.len-end.ensures) in
    let pass = c.next-place.ensures.pass c.loop-from.changes.instrs (currents all) c.loop-from.invariant.walked.served c.is_empty.ensures.0 c.requires.listed in
    let there = walk_on c.args.index.now c.args.rivals.now c.args.codes.now c.args.own c.args.items.now c.args.entry c.loop-from.crossed.items c.loop-from.changes c.loop-from.from c.next-place.result c.next-place.ensures.order.0 end pass c.loop-from.invariant.walked in
    let within : c.next-place.result < length all = omega (arith, c.if-place-end.false, c.len-end.ensures) in
    let u = element all c.next-place.result within in
    let same = c.loop-from.invariant.same in
    let left : c.moves.new.self ≡ all = c.moves.ensures.same ∙ same in
    let W : List Crossed → Changes → Type 0 = Walked c.args.index.now c.args.rivals.now c.args.codes.now c.args.own c.args.items.now c.args.entry (c.next-place.result + 1) in
    let crosses = subst (λ y. cross_sets meet (changeset_of c.args.own u.0) (made_by c.args.entry.origin c.args.entry.number y) ≡ Ok (made_by c.args.own u.0.original.number c.in-Ok.current, made_by c.args.entry.origin c.args.entry.number c.in-Ok.carried)) c.into_changes-in-loop-from.ensures (c.in-Ok.ensures.ok u.0 (subst (λ l. IsAt c.next-place.result l u.0) (sym left) u.1) c.args.entry.number) in
    record {
      walked = subst (λ l. W l c.new-changes-in-Ok.result) (sym c.in_ok-push-in-Ok.ensures.ok) (subst (W (c.loop-from.crossed.items ++ One c.next-place.result (Changed c.in-Ok.current) ∷ [])) (sym c.new-changes-in-Ok.ensures)
          (walk_crosses c.args.index.now c.args.rivals.now c.args.codes.now c.args.own c.args.items.now c.args.entry c.next-place.result c.loop-from.crossed.items c.loop-from.changes there u.0 within u.1 c.in-Ok.current c.in-Ok.carried crosses c.in-Ok.ensures.indexed));
      within = omega (arith, within);
      same = left;
    }

pub returns-clause-crosses : goal.returns-clause-crosses
returns-clause-crosses c =
    let all = c.args.items.now in
    let past : length all ≤ c.loop-from.from = omega (arith, c.loop-from-test.false, c.len-end.ensures) in
    subst (λ (x : Carried). Crosses c.args.own all c.args.entry (settled x.crossed all) x.changes) (sym c.new-2.ensures)
    (subst (Crosses c.args.own all c.args.entry (settled c.loop-from.crossed.items all)) (sym c.into_changes-2.ensures)
    (walk_ends c.args.index.now c.args.rivals.now c.args.codes.now c.args.own c.args.items.now c.args.entry c.loop-from.from c.loop-from.crossed.items c.loop-from.changes c.loop-from.invariant.walked past))
