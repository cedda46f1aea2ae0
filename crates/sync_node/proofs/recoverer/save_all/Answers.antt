use Rattle.std.proofs.Common.{◌+◌, ◌∷◌, ◌++◌, map, drop, refl, sym, ap, subst, ◌∙◌, arith, true, false}
use Rattle.sync_model.specs.Clients.{client_of}
use Rattle.sync_model.specs.Resets.{HeirStep, heir}
use Rattle.sync_exchange.specs.Profile.{the_profile}
use Rattle.sync_exchange.specs.Seen.{change_seen}
use Rattle.sync_node.specs.Heirs.{HandledSo}
use Rattle.sync_node.proofs.Recoverers.{SoFar, ends_refused, ends_whole, left_at, none_left, none_yet, one_more}
use Rattle.sync_node.proofs.recoverer.save_all.Goals as goal

pub changes-init : goal.changes-init
changes-init g c = record {
  so_far = λ records stands by. none_yet c.args.number c.args.retired.now.number (map change_seen c.args.changes.now) records c.new-out.result.items c.args.client.now c.new-out.ensures.items stands;
  same = refl;
  later = omega arith;
}

pub returns-then-not-branch-clause-done : goal.returns-then-not-branch-clause-done
returns-then-not-branch-clause-done g c = λ records stands by.
    let changes = c.args.changes.now in
    let i = c.changes.change-index in
    let h = c.change-item.result in
    let count = c.args.retired.now.number in
    let number = c.args.number in
    let all = map change_seen changes in
    let left = map change_seen (drop (i + 1) changes) in
    let out = c.changes.out.items in
    let so_far : SoFar number count all (change_seen h ∷ left) records out c.changes.client = subst (λ l. SoFar number count all l records out c.changes.client) (left_at changes i h c.changes-test.true c.change-item.is) (c.changes.invariant.so_far records stands by) in
    let now = records ++ so_far.more in
    let same = ap (λ b. heir the_profile (client_of the_profile now) b count (change_seen h)) (by ∙ sym so_far.ident) in
    ends_refused number count all records (change_seen h) left out c.save_one.new.out.items c.changes.client c.save_one.new.client so_far (subst (λ (s : HeirStep). HandledSo false number h.number s now out c.save_one.new.out.items c.save_one.new.client) same
    (subst (λ b. HandledSo b number h.number (heir the_profile (client_of the_profile now) c.args.retired.now.by count (change_seen h)) now out c.save_one.new.out.items c.save_one.new.client) c.if-not-branch.true (c.in_ok-save_one.ensures.done now so_far.client)))

pub changes-preserved : goal.changes-preserved
changes-preserved g c = record {
  so_far = λ records stands by.
      let changes = c.args.changes.now in
      let i = c.changes.change-index in
      let h = c.change-item.result in
      let count = c.args.retired.now.number in
      let number = c.args.number in
      let all = map change_seen changes in
      let left = map change_seen (drop (i + 1) changes) in
      let out = c.changes.out.items in
      let so_far : SoFar number count all (change_seen h ∷ left) records out c.changes.client = subst (λ l. SoFar number count all l records out c.changes.client) (left_at changes i h c.changes-test.true c.change-item.is) (c.changes.invariant.so_far records stands by) in
      let now = records ++ so_far.more in
      let same = ap (λ b. heir the_profile (client_of the_profile now) b count (change_seen h)) (by ∙ sym so_far.ident) in
      one_more number count all records (change_seen h) left out c.save_one.new.out.items c.changes.client c.save_one.new.client so_far (subst (λ (s : HeirStep). HandledSo true number h.number s now out c.save_one.new.out.items c.save_one.new.client) same
      (subst (λ b. HandledSo b number h.number (heir the_profile (client_of the_profile now) c.args.retired.now.by count (change_seen h)) now out c.save_one.new.out.items c.save_one.new.client) c.if-not-branch.false (c.in_ok-save_one.ensures.done now so_far.client)));
  same = c.in_ok-save_one.ensures.same ∙ c.changes.invariant.same;
  later = omega arith;
}

pub returns-clause-done : goal.returns-clause-done
returns-clause-done g c = λ records stands by.
    ends_whole c.args.number c.args.retired.now.number (map change_seen c.args.changes.now) records c.changes.out.items c.changes.client (map change_seen (drop c.changes.change-index c.args.changes.now))
    (none_left c.args.changes.now c.changes.change-index (omega (arith, c.changes-test.false))) (c.changes.invariant.so_far records stands by)
