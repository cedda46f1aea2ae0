use Rattle.std.proofs.Common.{Some, None, refl, sym, ◌∙◌, subst}
use Rattle.list_places.proofs.Stands.{one_cell}
use Rattle.list_lane.specs.declared.op.Op.{Op}
use Rattle.long_sets.specs.Lists.{ToldSlot}
use Rattle.long_sets.proofs.Telling.{nothing_told, other_told, member_told}
use Rattle.long_sets.proofs.lane.op_in.Goals as goal

pub returns-in_default-clause-told : goal.returns-in_default-clause-told
returns-in_default-clause-told c = subst (λ x. ToldSlot c.args.cell.now c.args.length x None) (sym c.in_default.is) (nothing_told c.args.cell.now c.args.length)

pub returns-then-not-is_of-clause-told : goal.returns-then-not-is_of-clause-told
returns-then-not-is_of-clause-told c =
    subst (λ x. ToldSlot c.args.cell.now c.args.length x None) (sym c.in-Some.is) (other_told c.args.cell.now c.args.length c.in-Some.instr (sym c.is_of.ensures ∙ c.if-not-is_of.true))

pub returns-clause-told : goal.returns-clause-told
returns-clause-told c =
    let cell = c.args.cell.now in
    let op : Op = record { does = c.in_ok-own.does; place = c.in_ok-own.place; stamp = c.args.stamp } in
    subst (λ x. ToldSlot cell c.args.length x (Some op)) (sym c.in-Some.is)
    (member_told cell c.in_ok-own.own.now c.args.length c.in_ok-own.prior c.in-Some.instr c.in_ok-own.ensures.is.0 op (sym c.is_of.ensures ∙ c.if-not-is_of.false) c.in_ok-own.ensures.is.1
    (one_cell c.in_ok-own.own.now cell (c.if-not-same_cell.ensures.same refl)) c.if-prior-length.false)
