use Rattle.std.proofs.Common.{◌≡◌, ◌<◌, ◌≤◌, ◌+◌, ◌-◌, ◌++◌, ◌∷◌, [], Ok, refl, length, map, drop, sym, ap, ◌∙◌, subst, arith}
use Rattle.sync_theory.specs.Changesets.{cross_sets}
use Rattle.sync_theory.specs.Grid.{carry}
use Rattle.sync_law.specs.Instrs.{meet}
use Rattle.sync_transform.specs.Sets.{made_by}
use Rattle.sync_recip.specs.declared.across.Across.{Across}
use Rattle.sync_recip.specs.declared.items.Passing.{Passing}
use Rattle.sync_recip.specs.declared.carried.Crossed.TheVariants.{Stretch}
use Rattle.sync_recip.specs.Lists.{kept_entry, lists_in}
use Rattle.sync_recip.specs.Acrossing.{CrossesStretch}
use Rattle.sync_recip.specs.Carrying.{Carrying, crossed_entry, crossed_entries, IsStuckBy}
use Rattle.sync_recip.specs.Stretches.{IsAt}
use Rattle.sync_recip.proofs.Turns.{element}
use Rattle.sync_recip.proofs.Walk.{WalkedTo, both_go, goes_across, goes_on, goes_over, goes_past, goes_through, other_there, stops, walk_begins}
use Rattle.sync_recip.proofs.carry.carry_over.Goals as goal

pub entries-init : goal.entries-init
entries-init c =
    let all = c.args.items.now in
    let start = walk_begins c.args.index.now c.args.rivals.now c.args.codes.now c.args.own all c.args.first c.args.changes c.requires.indexed c.requires.served in
    record {
      walked = subst (λ l. WalkedTo c.args.index.now c.args.rivals.now c.args.codes.now c.args.own all c.args.first c.args.changes c.args.first l c.new-left.result) (sym c.new-crossed.ensures.items)
          (subst (WalkedTo c.args.index.now c.args.rivals.now c.args.codes.now c.args.own all c.args.first c.args.changes c.args.first []) (sym c.new-left.ensures) start);
      after = omega arith;
      within = c.requires.within;
      same = refl;
    }

pub returns-then-next-end-clause-ok : goal.returns-then-next-end-clause-ok
returns-then-next-end-clause-ok c =
    let all = c.args.items.now in
    let end : c.next-next.result ≤ length all = omega (arith, c.next-next.ensures.order.1, c.len-end.ensures) in
    let pass = c.next-next.ensures.pass c.entries.left.instrs (lists_in (map kept_entry all)) c.entries.invariant.walked.served c.is_empty.ensures.0 c.requires.listed in
    let there = goes_on c.args.index.now c.args.rivals.now c.args.codes.now c.args.own all c.args.first c.args.changes c.entries.crossed.items c.entries.left c.entries.from c.next-next.result c.entries.invariant.after c.next-next.ensures.order.0 end pass c.entries.invariant.walked in
    let past : length all ≤ c.next-next.result = omega (arith, c.if-next-end.true, c.len-end.ensures) in
    λ number. subst (λ (d : Carrying). carry (cross_sets meet) (made_by c.args.own number c.args.changes) (map kept_entry (drop c.args.first all)) ≡ Ok (made_by c.args.own number d.changes, crossed_entries d.crossed (map kept_entry (drop c.args.first all)))) (sym c.new.ensures)
    (goes_through c.args.index.now c.args.rivals.now c.args.codes.now c.args.own all c.args.first c.args.changes c.entries.crossed.items c.entries.left c.next-next.result number past there)

pub counted_from-requires : goal.counted_from-requires
counted_from-requires c =
    let crosses = c.in-Some.ensures in
    let reached = crosses.reached in
    omega (arith, reached, c.entries.invariant.after)

pub entries-preserved-in-Some : goal.entries-preserved-in-Some
entries-preserved-in-Some c =
    let all = c.args.items.now in
    let pass = c.next-next.ensures.pass c.entries.left.instrs (lists_in (map kept_entry all)) c.entries.invariant.walked.served c.is_empty.ensures.0 c.requires.listed in
    let p : Passing = c.in-Some.field-0 in
    let crosses : CrossesStretch c.entries.from c.next-next.result c.args.own all c.entries.left p =
    subst (λ l. CrossesStretch c.entries.from c.next-next.result c.args.own l c.entries.left p) c.entries.invariant.same c.in-Some.ensures
    in
    let reached = crosses.reached in
    let noted : c.keep.new.list.items ≡ c.entries.crossed.items ++ Stretch (record p.across { start = p.across.start - c.args.first }) ∷ [] =
    c.in-Ok.ensures.ok ∙ ap (λ (a : Across). c.entries.crossed.items ++ Stretch a ∷ []) c.counted_from.ensures
    in
    record {
      walked = subst (WalkedTo c.args.index.now c.args.rivals.now c.args.codes.now c.args.own all c.args.first c.args.changes (p.across.start + p.across.count) c.keep.new.list.items) (sym c.passed_on-left.ensures)
          (goes_across c.args.index.now c.args.rivals.now c.args.codes.now c.args.own all c.args.first c.args.changes c.entries.crossed.items c.entries.left c.entries.from c.next-next.result p c.keep.new.list.items c.entries.invariant.after pass crosses noted c.entries.invariant.walked);
      after = omega (arith, reached, c.entries.invariant.after);
      within = crosses.within;
      same = c.entries.invariant.same;
    }

pub moves-requires : goal.moves-requires
moves-requires c =
    let same = ap length c.entries.invariant.same in
    omega (arith, c.if-next-end.false, c.len-end.ensures, same)

pub stays-requires : goal.stays-requires
stays-requires c =
    let same = ap length (c.moves.ensures.same ∙ c.entries.invariant.same) in
    omega (arith, c.if-next-end.false, c.len-end.ensures, same)

pub shift_to-requires : goal.shift_to-requires
shift_to-requires c =
    let all = c.args.items.now in
    let within : c.next-next.result < length all = omega (arith, c.if-next-end.false, c.len-end.ensures) in
    let k = element all c.next-next.result within in
    (c.in-Some-moves.ensures.moves k.0 (subst (λ l. IsAt c.next-next.result l k.0) (sym c.entries.invariant.same) k.1)).left

pub entries-preserved-in-Some-moves : goal.entries-preserved-in-Some-moves
entries-preserved-in-Some-moves c =
    let all = c.args.items.now in
    let end : c.next-next.result ≤ length all = omega (arith, c.next-next.ensures.order.1, c.len-end.ensures) in
    let pass = c.next-next.ensures.pass c.entries.left.instrs (lists_in (map kept_entry all)) c.entries.invariant.walked.served c.is_empty.ensures.0 c.requires.listed in
    let there = goes_on c.args.index.now c.args.rivals.now c.args.codes.now c.args.own all c.args.first c.args.changes c.entries.crossed.items c.entries.left c.entries.from c.next-next.result c.entries.invariant.after c.next-next.ensures.order.0 end pass c.entries.invariant.walked in
    let within : c.next-next.result < length all = omega (arith, c.if-next-end.false, c.len-end.ensures) in
    let after : c.args.first ≤ c.next-next.result = omega (arith, c.entries.invariant.after, c.next-next.ensures.order.0) in
    let k = element all c.next-next.result within in
    let same = c.entries.invariant.same in
    let left : c.moves.new.self ≡ all = c.moves.ensures.same ∙ same in
    let m = c.in-Some-moves.moves in
    let both = c.in-Some-moves.ensures.moves k.0 (subst (λ l. IsAt c.next-next.result l k.0) (sym same) k.1) in
    record {
      walked = subst (WalkedTo c.args.index.now c.args.rivals.now c.args.codes.now c.args.own all c.args.first c.args.changes (c.next-next.result + 1) c.note.new.crossed.items) (sym c.shift_to.ensures)
          (both_go c.args.index.now c.args.rivals.now c.args.codes.now c.args.own all c.args.first c.args.changes c.entries.crossed.items c.entries.left c.next-next.result after there k.0 within k.1 c.note.new.crossed.items m c.in-Ok-note.ensures both);
      after = omega (arith, after);
      within = omega (arith, within);
      same = left;
    }

pub entries-preserved-then-stays : goal.entries-preserved-then-stays
entries-preserved-then-stays c =
    let all = c.args.items.now in
    let end : c.next-next.result ≤ length all = omega (arith, c.next-next.ensures.order.1, c.len-end.ensures) in
    let pass = c.next-next.ensures.pass c.entries.left.instrs (lists_in (map kept_entry all)) c.entries.invariant.walked.served c.is_empty.ensures.0 c.requires.listed in
    let there = goes_on c.args.index.now c.args.rivals.now c.args.codes.now c.args.own all c.args.first c.args.changes c.entries.crossed.items c.entries.left c.entries.from c.next-next.result c.entries.invariant.after c.next-next.ensures.order.0 end pass c.entries.invariant.walked in
    let within : c.next-next.result < length all = omega (arith, c.if-next-end.false, c.len-end.ensures) in
    let after : c.args.first ≤ c.next-next.result = omega (arith, c.entries.invariant.after, c.next-next.ensures.order.0) in
    let k = element all c.next-next.result within in
    let same = c.entries.invariant.same in
    let left : c.moves.new.self ≡ all = c.moves.ensures.same ∙ same in
    record {
      walked = goes_past c.args.index.now c.args.rivals.now c.args.codes.now c.args.own all c.args.first c.args.changes c.entries.crossed.items c.entries.left c.next-next.result after there k.0 within k.1
          (c.if-stays.ensures refl k.0 (subst (λ l. IsAt c.next-next.result l k.0) (sym left) k.1) c.entries.invariant.walked.indexed);
      after = omega (arith, after);
      within = omega (arith, within);
      same = left;
    }

pub cross_one-requires-clause-within : goal.cross_one-requires-clause-within
cross_one-requires-clause-within c =
    let same = ap length (c.moves.ensures.same ∙ c.entries.invariant.same) in
    omega (arith, c.if-next-end.false, c.len-end.ensures, same)

pub cross_one-requires-clause-other : goal.cross_one-requires-clause-other
cross_one-requires-clause-other c =
    let all = c.args.items.now in
    let within : c.next-next.result < length all = omega (arith, c.if-next-end.false, c.len-end.ensures) in
    let after : c.args.first ≤ c.next-next.result = omega (arith, c.entries.invariant.after, c.next-next.ensures.order.0) in
    let k = element all c.next-next.result within in
    let same = c.entries.invariant.same in
    let left : c.moves.new.self ≡ all = c.moves.ensures.same ∙ same in
    λ l at. other_there c.args.own all c.args.first c.next-next.result l after within (subst (λ ks. IsAt c.next-next.result ks l) left at) c.requires.others

pub returns-in-Err-clause-stuck : goal.returns-in-Err-clause-stuck
returns-in-Err-clause-stuck c =
    let all = c.args.items.now in
    let end : c.next-next.result ≤ length all = omega (arith, c.next-next.ensures.order.1, c.len-end.ensures) in
    let pass = c.next-next.ensures.pass c.entries.left.instrs (lists_in (map kept_entry all)) c.entries.invariant.walked.served c.is_empty.ensures.0 c.requires.listed in
    let there = goes_on c.args.index.now c.args.rivals.now c.args.codes.now c.args.own all c.args.first c.args.changes c.entries.crossed.items c.entries.left c.entries.from c.next-next.result c.entries.invariant.after c.next-next.ensures.order.0 end pass c.entries.invariant.walked in
    let within : c.next-next.result < length all = omega (arith, c.if-next-end.false, c.len-end.ensures) in
    let after : c.args.first ≤ c.next-next.result = omega (arith, c.entries.invariant.after, c.next-next.ensures.order.0) in
    let k = element all c.next-next.result within in
    let same = c.entries.invariant.same in
    let left : c.moves.new.self ≡ all = c.moves.ensures.same ∙ same in
    λ number. stops c.args.index.now c.args.rivals.now c.args.codes.now c.args.own all c.args.first c.args.changes c.entries.crossed.items c.entries.left c.next-next.result after there k.0 within k.1 number c.in-Err.refusal
    (subst (λ x. IsStuckBy c.in-Err.refusal (cross_sets meet (made_by c.args.own number x) (kept_entry k.0))) c.into_changes.ensures
    (c.in-Err.ensures.stuck k.0 (subst (λ l. IsAt c.next-next.result l k.0) (sym left) k.1) number))

pub entries-preserved : goal.entries-preserved
entries-preserved c =
    let all = c.args.items.now in
    let end : c.next-next.result ≤ length all = omega (arith, c.next-next.ensures.order.1, c.len-end.ensures) in
    let pass = c.next-next.ensures.pass c.entries.left.instrs (lists_in (map kept_entry all)) c.entries.invariant.walked.served c.is_empty.ensures.0 c.requires.listed in
    let there = goes_on c.args.index.now c.args.rivals.now c.args.codes.now c.args.own all c.args.first c.args.changes c.entries.crossed.items c.entries.left c.entries.from c.next-next.result c.entries.invariant.after c.next-next.ensures.order.0 end pass c.entries.invariant.walked in
    let within : c.next-next.result < length all = omega (arith, c.if-next-end.false, c.len-end.ensures) in
    let after : c.args.first ≤ c.next-next.result = omega (arith, c.entries.invariant.after, c.next-next.ensures.order.0) in
    let k = element all c.next-next.result within in
    let same = c.entries.invariant.same in
    let left : c.moves.new.self ≡ all = c.moves.ensures.same ∙ same in
    let at = subst (λ l. IsAt c.next-next.result l k.0) (sym left) k.1 in
    let next = c.in-Ok-cross_one.rest in
    let o = c.in-Ok-cross_one.became in
    record {
      walked = subst (WalkedTo c.args.index.now c.args.rivals.now c.args.codes.now c.args.own all c.args.first c.args.changes (c.next-next.result + 1) c.note-in-Ok-cross_one.new.crossed.items) (sym c.new-left-in-Ok-cross_one.ensures)
          (goes_over c.args.index.now c.args.rivals.now c.args.codes.now c.args.own all c.args.first c.args.changes c.entries.crossed.items c.entries.left c.next-next.result after there k.0 within k.1 c.note-in-Ok-cross_one.new.crossed.items o next c.in-Ok-note-2.ensures (c.in-Ok-cross_one.ensures.suits k.0 at)
          (λ number. subst (λ x. cross_sets meet (made_by c.args.own number x) (kept_entry k.0) ≡ Ok (made_by c.args.own number next, crossed_entry o (kept_entry k.0))) c.into_changes.ensures (c.in-Ok-cross_one.ensures.ok k.0 at number)));
      after = omega (arith, after);
      within = omega (arith, within);
      same = left;
    }
