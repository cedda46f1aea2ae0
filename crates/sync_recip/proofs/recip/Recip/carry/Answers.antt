use Rattle.std.proofs.Common.{◌≡◌, ◌≢◌, All, drop, length, map, sym, ◌∙◌, ap, subst, arith}
use Rattle.sync_theory.specs.Reciprocals.{from_base}
use Rattle.sync_rivals.specs.Lists.{Lists, Serves}
use Rattle.sync_recip.specs.Lists.{kept_entry, lists_in, pair_of, versions, IsRising}
use Rattle.sync_recip.proofs.Based.{carried_fits, carried_over, carried_stuck}
use Rattle.sync_recip.proofs.Versions.{all_from_base, from_base_is}
use Rattle.sync_recip.proofs.recip.Recip.carry.Goals as goal

pub carry_over-requires-clause-others : goal.carry_over-requires-clause-others
carry_over-requires-clause-others c =
    let ks = c.self.inside.items in
    let n = c.count_below-first.result in
    let split = c.count_below-first.ensures in
    let from : from_base c.args.base c.args.self.now ≡ map kept_entry (drop n c.leave_before.new.self) =
    ap (from_base c.args.base) (sym c.self.view_is) ∙ from_base_is c.args.base ks n split.below split.above ∙ ap (λ l. map kept_entry (drop n l)) (sym c.leave_before.ensures)
    in
    subst (All (λ e. e.origin ≢ c.args.own)) from (all_from_base (λ e. e.origin ≢ c.args.own) c.args.base c.args.self.now c.requires)

pub carry_over-requires-clause-within : goal.carry_over-requires-clause-within
carry_over-requires-clause-within c =
    let same = ap length c.leave_before.ensures in
    let bound = c.count_below-first.ensures.bound in
    omega (arith, same, bound)

pub carry_over-requires-clause-listed : goal.carry_over-requires-clause-listed
carry_over-requires-clause-listed c = subst (λ l. Lists c.self.inside.rivals (lists_in (map kept_entry l))) (sym c.leave_before.ensures) c.self.invariant.1

pub carry_over-requires-clause-served : goal.carry_over-requires-clause-served
carry_over-requires-clause-served c =
    subst (λ l. Serves c.self.inside.rivals l c.args.changes.instrs) (sym c.as_slice.ensures.value) (subst (Serves c.self.inside.rivals c.in-Ok-rivals_of.codes.items) c.instrs-2.ensures.listed c.in-Ok-rivals_of.ensures)

pub invariant_of-self : goal.invariant_of-self
invariant_of-self c =
    let same = c.carry_over.ensures.same ∙ c.leave_before.ensures in (
      subst (λ l. IsRising (versions l)) (sym same) c.self.invariant.0,
      subst (λ l. Lists c.self.inside.rivals (lists_in (map kept_entry l))) (sym same) c.self.invariant.1,
    )

pub returns-clause-same : goal.returns-clause-same
returns-clause-same c = ap (map pair_of) (c.carry_over.ensures.same ∙ c.leave_before.ensures) ∙ c.self.view_is

pub returns-clause-ok : goal.returns-clause-ok
returns-clause-ok c =
    let ks = c.self.inside.items in
    let n = c.count_below-first.result in
    let split = c.count_below-first.ensures in
    let after = c.leave_before.new.self in
    let from : from_base c.args.base c.args.self.now ≡ map kept_entry (drop n after) =
    ap (from_base c.args.base) (sym c.self.view_is) ∙ from_base_is c.args.base ks n split.below split.above ∙ ap (λ l. map kept_entry (drop n l)) (sym c.leave_before.ensures)
    in
    carried_over c.args.own c.args.base c.args.changes c.args.self.now (map kept_entry (drop n after)) from c.carry_over.result c.carry_over.ensures.base c.carry_over.ensures.ok

pub returns-clause-fits : goal.returns-clause-fits
returns-clause-fits c =
    let ks = c.self.inside.items in
    let n = c.count_below-first.result in
    let split = c.count_below-first.ensures in
    let after = c.leave_before.new.self in
    let from : from_base c.args.base c.args.self.now ≡ map kept_entry (drop n after) =
    ap (from_base c.args.base) (sym c.self.view_is) ∙ from_base_is c.args.base ks n split.below split.above ∙ ap (λ l. map kept_entry (drop n l)) (sym c.leave_before.ensures)
    in
    carried_fits c.args.own c.args.base c.args.changes c.args.self.now (map kept_entry (drop n after)) from c.carry_over.result c.carry_over.ensures.base c.carry_over.ensures.fits

pub returns-clause-stuck : goal.returns-clause-stuck
returns-clause-stuck c =
    let ks = c.self.inside.items in
    let n = c.count_below-first.result in
    let split = c.count_below-first.ensures in
    let after = c.leave_before.new.self in
    let from : from_base c.args.base c.args.self.now ≡ map kept_entry (drop n after) =
    ap (from_base c.args.base) (sym c.self.view_is) ∙ from_base_is c.args.base ks n split.below split.above ∙ ap (λ l. map kept_entry (drop n l)) (sym c.leave_before.ensures)
    in
    carried_stuck c.args.own c.args.base c.args.changes c.args.self.now (map kept_entry (drop n after)) from c.carry_over.result c.carry_over.ensures.stuck
