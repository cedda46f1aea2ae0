use Rattle.std.proofs.Common.{◌≡◌, ◌+◌, ◌-◌, ◌∙◌, List, Option, refl, sym, ap, subst, drop, map, set, arith}
use Rattle.sync_data.specs.declared.instr.Instr.{Instr}
use Rattle.sync_theory.specs.Changesets.{Changeset}
use Rattle.list_places.specs.declared.moves.ListAction.{ListAction}
use Rattle.sync_recip.specs.Lists.{entry_of, kept_entry}
use Rattle.sync_recip.specs.Passing.{CanPass, passed}
use Rattle.sync_recip.specs.Stretches.{from_place}
use Rattle.sync_recip.specs.declared.kept.Kept.{Kept}
use Rattle.sync_recip.proofs.Each.{passed_none, passed_zero, can_within, can_first, can_step, passed_step, map_get, map_set, map_set_same}
use Rattle.sync_recip.proofs.stretch.cross_each.Goals as goal

pub returns-in_default-clause-entries : goal.returns-in_default-clause-entries
returns-in_default-clause-entries c =
    let es = map kept_entry c.loop-count.kept.items in
    sym (passed_none c.args.across.stamp c.loop-count.place c.loop-count.count es)
    ∙ ap (λ (o : Option ListAction). from_place c.loop-count.place (passed c.args.across.stamp c.loop-count.count o) es) (sym c.in_default.is)
    ∙ c.loop-count.invariant.all

pub returns-clause-entries : goal.returns-clause-entries
returns-clause-entries c =
    let es = map kept_entry c.loop-count.kept.items in
    let zero : c.loop-count.count ≡ 0 = omega (arith, c.loop-count-test.false) in
    sym (passed_zero c.args.across.stamp c.loop-count.place c.loop-count.left es)
    ∙ ap (λ n. from_place c.loop-count.place (passed c.args.across.stamp n c.loop-count.left) es) (sym zero)
    ∙ c.loop-count.invariant.all

pub meet-left-requires : goal.meet-left-requires
meet-left-requires c =
    let es = map kept_entry c.loop-count.kept.items in
    let u : Kept = c.index_mut-one.result.now in
    let can = subst (λ (o : Option ListAction). CanPass c.args.across.stamp c.loop-count.count o (drop c.loop-count.place es)) c.in-Some.is c.loop-count.invariant.can in
    can_first c.args.across.stamp c.loop-count.place c.loop-count.count c.in-Some.action es (kept_entry u) c.loop-count-test.true can (map_get kept_entry c.loop-count.kept.items c.loop-count.place u c.index_mut-one.ensures.value)

pub loop-count-preserved : goal.loop-count-preserved
loop-count-preserved c =
    let s = c.args.across.stamp in
    let i = c.loop-count.place in
    let k = c.loop-count.count in
    let us = c.loop-count.kept.items in
    let es : List (Changeset Instr) = map kept_entry us in
    let b = c.in-Some.action in
    let u : Kept = c.index_mut-one.result.now in
    let v : Kept = record { version = u.version; item = c.meet-left.new.self } in
    let more = c.loop-count-test.true in
    let here = map_get kept_entry us i u c.index_mut-one.ensures.value in
    let can = subst (λ (o : Option ListAction). CanPass s k o (drop i es)) c.in-Some.is c.loop-count.invariant.can in
    let there = can_within s i k b es more can in
    let became = ap entry_of c.meet-left.ensures.own in
    let written : map kept_entry (set us i v) ≡ set es i (kept_entry v) = map_set kept_entry us i v in
    record {
      versions = map_set_same (λ (k : Kept). k.version) us i u v c.index_mut-one.ensures.value refl ∙ c.loop-count.invariant.versions;
      all = ap (from_place (i + 1) (passed s (k - 1) c.meet-left.result)) written
          ∙ passed_step s i k b es (kept_entry u) (kept_entry v) c.meet-left.result more there here became c.meet-left.ensures.other
          ∙ ap (λ (o : Option ListAction). from_place i (passed s k o) es) (sym c.in-Some.is)
          ∙ c.loop-count.invariant.all;
      can = subst (λ l. CanPass s (k - 1) c.meet-left.result (drop (i + 1) l)) (sym written) (can_step s i k b es (kept_entry u) (kept_entry v) c.meet-left.result more can here c.meet-left.ensures.other);
    }
