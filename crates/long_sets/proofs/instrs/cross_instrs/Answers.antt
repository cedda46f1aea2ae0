use Rattle.std.proofs.Common.{List, Option, IfSome, sym, subst}
use Rattle.sync_data.specs.declared.instr.Instr.{Instr}
use Rattle.long_sets.specs.Rows.{somes, IsPart}
use Rattle.long_sets.specs.Parts.{CrossAll}
use Rattle.long_sets.proofs.Homes.{whole_part}
use Rattle.long_sets.proofs.instrs.cross_instrs.Goals as goal

pub cross_by_lists-requires-clause-left : goal.cross_by_lists-requires-clause-left
cross_by_lists-requires-clause-left c = subst (λ xs. IsPart xs c.args.lefts.now) (sym c.in_ok-left.ensures) (whole_part c.args.lefts.now)

pub cross_by_lists-requires-clause-right : goal.cross_by_lists-requires-clause-right
cross_by_lists-requires-clause-right c = subst (λ xs. IsPart xs c.args.rights.now) (sym c.in_ok-right.ensures) (whole_part c.args.rights.now)

pub returns : goal.returns
returns c =
    let s = c.args.stamps in
    subst (λ (ys : List (Option Instr)). IfSome c.cross_by_lists.result (λ p. CrossAll s.left s.right ys (somes c.args.rights.now) p.0.items p.1.items)) c.in_ok-left.ensures
    (subst (λ (xs : List (Option Instr)). IfSome c.cross_by_lists.result (λ p. CrossAll s.left s.right c.in_ok-left.left.items xs p.0.items p.1.items)) c.in_ok-right.ensures c.cross_by_lists.ensures)
