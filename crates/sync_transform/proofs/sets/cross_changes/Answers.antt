use Rattle.std.proofs.Common.{◌∙◌, Ok, sym, ap}
use Rattle.sync_theory.specs.Lists.{cross}
use Rattle.sync_theory.specs.Changesets.{with_lists, later_stamp}
use Rattle.sync_law.specs.Instrs.{meet}
use Rattle.sync_transform.specs.Sets.{made_by}
use Rattle.sync_transform.proofs.Sizes.{crossed_small, ok_is}
use Rattle.sync_transform.proofs.sets.cross_changes.Goals as goal

pub unwrap-left-requires : goal.unwrap-left-requires
unwrap-left-requires c =
    c.checked.ensures.good.1 (crossed_small c.is_later-left_later.result c.instrs_of-lefts.result.items c.instrs_of-rights.result.items c.in-Ok.lefts.items c.in-Ok.rights.items c.in-Ok.ensures.ok c.instrs_of-lefts.ensures.small c.instrs_of-rights.ensures.small).0

pub unwrap-right-requires : goal.unwrap-right-requires
unwrap-right-requires c =
    c.checked-in-Ok.ensures.good.1 (crossed_small c.is_later-left_later.result c.instrs_of-lefts.result.items c.instrs_of-rights.result.items c.in-Ok.lefts.items c.in-Ok.rights.items c.in-Ok.ensures.ok c.instrs_of-lefts.ensures.small c.instrs_of-rights.ensures.small).1

pub returns-in-Err-clause-stuck : goal.returns-in-Err-clause-stuck
returns-in-Err-clause-stuck c = λ m n.
    let later = c.is_later-left_later.ensures ∙ (λ i. later_stamp (c.ms-left_ms.ensures i) c.args.left_ident (c.ms-right_ms.ensures i) c.args.right_ident) in
    ap (with_lists (made_by c.args.left_ident m c.args.left) (made_by c.args.right_ident n c.args.right)) ((λ i. cross (λ a b. meet a b (sym later i)) (sym c.instrs_of-lefts.ensures.items i) (sym c.instrs_of-rights.ensures.items i)) ∙ c.in-Err.ensures.stuck)

pub returns-in-Ok-clause-ok : goal.returns-in-Ok-clause-ok
returns-in-Ok-clause-ok c = λ m n.
    let later = c.is_later-left_later.ensures ∙ (λ i. later_stamp (c.ms-left_ms.ensures i) c.args.left_ident (c.ms-right_ms.ensures i) c.args.right_ident) in
    let left = ok_is c.checked.result c.unwrap-left.result _ c.unwrap-left.ensures c.checked.ensures.ok ∙ (λ i. record { ms = c.ms-left_ms.ensures i; instrs = c.in-Ok.lefts.items }) in
    let right = ok_is c.checked-in-Ok.result c.unwrap-right.result _ c.unwrap-right.ensures c.checked-in-Ok.ensures.ok ∙ (λ i. record { ms = c.ms-right_ms.ensures i; instrs = c.in-Ok.rights.items }) in
    ap (with_lists (made_by c.args.left_ident m c.args.left) (made_by c.args.right_ident n c.args.right)) ((λ i. cross (λ a b. meet a b (sym later i)) (sym c.instrs_of-lefts.ensures.items i) (sym c.instrs_of-rights.ensures.items i)) ∙ c.in-Ok.ensures.ok)
    ∙ (λ i. Ok (made_by c.args.left_ident m (sym left i), made_by c.args.right_ident n (sym right i)))
