use Rattle.std.proofs.Common.{◌≡◌, ◌∙◌, Option, sym, ap, subst, drop, arith}
use Rattle.list_places.specs.declared.moves.ListAction.{ListAction}
use Rattle.sync_rebase.specs.Settling.{CanPass, passed}
use Rattle.sync_rebase.specs.Stretches.{from_place}
use Rattle.sync_rebase.proofs.Each.{passed_none, passed_zero, can_within, can_first, can_step, passed_step}
use Rattle.sync_rebase.proofs.stretch.cross_each.Goals as goal

pub returns-in_default : goal.returns-in_default
returns-in_default c =
    let us = c.loop-count.items.items in
    sym (passed_none c.args.across.own c.args.across.stamp c.loop-count.place c.loop-count.count us)
    ∙ ap (λ (o : Option ListAction). from_place c.loop-count.place (passed c.args.across.own c.args.across.stamp c.loop-count.count o) us) (sym c.in_default.is)
    ∙ c.loop-count.invariant.all

pub returns : goal.returns
returns c =
    let zero : c.loop-count.count ≡ 0 = omega (arith, c.loop-count-test.false) in
    sym (passed_zero c.args.across.own c.args.across.stamp c.loop-count.place c.loop-count.left c.loop-count.items.items)
    ∙ ap (λ n. from_place c.loop-count.place (passed c.args.across.own c.args.across.stamp n c.loop-count.left) c.loop-count.items.items) (sym zero)
    ∙ c.loop-count.invariant.all

pub meet-left-requires : goal.meet-left-requires
meet-left-requires c =
    let can = subst (λ (o : Option ListAction). CanPass c.args.across.own c.args.across.stamp c.loop-count.count o (drop c.loop-count.place c.loop-count.items.items)) c.in-Some.is c.loop-count.invariant.can in
    can_first c.args.across.own c.args.across.stamp c.loop-count.place c.loop-count.count c.in-Some.action c.loop-count.items.items c.index_mut-unsent.result.now c.loop-count-test.true can c.index_mut-unsent.ensures.value

pub loop-count-preserved : goal.loop-count-preserved
loop-count-preserved c =
    let own = c.args.across.own in
    let s = c.args.across.stamp in
    let i = c.loop-count.place in
    let k = c.loop-count.count in
    let us = c.loop-count.items.items in
    let b = c.in-Some.action in
    let u = c.index_mut-unsent.result.now in
    let more = c.loop-count-test.true in
    let here = c.index_mut-unsent.ensures.value in
    let can = subst (λ (o : Option ListAction). CanPass own s k o (drop i us)) c.in-Some.is c.loop-count.invariant.can in
    let there = can_within own s i k b us more can in
    record {
      all = passed_step own s i k b us u c.meet-left.new.self c.meet-left.result more there here c.meet-left.ensures.own c.meet-left.ensures.other
          ∙ ap (λ (o : Option ListAction). from_place i (passed own s k o) us) (sym c.in-Some.is)
          ∙ c.loop-count.invariant.all;
      can = can_step own s i k b us u c.meet-left.new.self c.meet-left.result more can here c.meet-left.ensures.other;
    }
