use Rattle.std.proofs.Common.{◌≡◌, not, sym, ap, ◌∙◌, subst, arith}
use Rattle.list_places.specs.Places.{Within}
use Rattle.list_places.specs.Moves.{instr_at}
use Rattle.list_places.proofs.Stands.{within_some, both_stand}
use Rattle.list_places.proofs.moves.both_move.Goals as goal

pub action_of-requires : goal.action_of-requires
action_of-requires c =
    let x = c.parts-does.result in
    let y = c.parts-other_does.result in
    let same : y.2 ≡ x.2 = omega (arith, c.if-length-other_length.false) in
    subst (Within x.0 c.in_ok-own.own) (sym c.length_after.ensures)
    (within_some c.args.left_later x.0 y.0 x.1 y.1 x.2 c.in_ok-own.own c.parts-does.ensures.within (subst (Within y.0 y.1) same c.parts-other_does.ensures.within) (sym c.in_ok-own.ensures))

pub action_of-requires-2 : goal.action_of-requires-2
action_of-requires-2 c =
    let x = c.parts-does.result in
    let y = c.parts-other_does.result in
    let same : y.2 ≡ x.2 = omega (arith, c.if-length-other_length.false) in
    subst (Within y.0 c.in_ok-other.other) (sym c.length_after-2.ensures)
    (within_some (not c.args.left_later) y.0 x.0 y.1 x.1 x.2 c.in_ok-other.other (subst (Within y.0 y.1) same c.parts-other_does.ensures.within) c.parts-does.ensures.within (sym c.in_ok-other.ensures))

pub returns : goal.returns
returns c =
    let x = c.parts-does.result in
    let y = c.parts-other_does.result in
    let same : y.2 ≡ x.2 = omega (arith, c.if-length-other_length.false) in
    record {
      met = both_stand c.args.left_later c.args.left c.args.right _ x.0 y.0 x.1 y.1 x.2 c.in_ok-own.own c.in_ok-other.other
          c.parts-does.ensures.is (λ k v. c.parts-other_does.ensures.is k v ∙ ap (instr_at k v y.0 y.1) same) (omega (arith, c.if-length-ge4294967295.false))
          (sym c.in_ok-own.ensures) (sym c.in_ok-other.ensures)
          (λ k v. c.action_of.ensures.is k v ∙ ap (instr_at k v x.0 c.in_ok-own.own) c.length_after.ensures)
          (λ k v. c.action_of-2.ensures.is k v ∙ ap (instr_at k v y.0 c.in_ok-other.other) c.length_after-2.ensures);
      left = c.action_of.ensures.kind ∙ sym c.parts-does.ensures.kind;
      right = c.action_of-2.ensures.kind ∙ sym c.parts-other_does.ensures.kind;
    }
