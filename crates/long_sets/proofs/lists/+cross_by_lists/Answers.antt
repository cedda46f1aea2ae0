use Rattle.std.proofs.Common.{sym, ◌∙◌, subst, arith}
use Rattle.sync_base.specs.Effects.{path_of}
use Rattle.long_sets.specs.Parts.{others_of, together, CrossAll}
use Rattle.long_sets.specs.Rows.{IsPart}
use Rattle.long_sets.specs.Lists.{CrossesList}
use Rattle.long_sets.proofs.Parts.{parts_cross, others_part}
use Rattle.long_sets.proofs.lists.+cross_by_lists.Goals as goal

pub cross_by_lists-requires-in-Some : goal.cross_by_lists-requires-in-Some
cross_by_lists-requires-in-Some t c =
    let p = path_of c.in-Some.of_list.cell in (
      omega (arith, c.decreases, c.if-tries-eq0.false),
      (
        subst (λ xs. IsPart xs c.args.lefts.now) (sym c.in_ok-left-in-Some.ensures) (others_part p c.args.left.items c.args.lefts.now c.requires.left),
        subst (λ xs. IsPart xs c.args.rights.now) (sym c.in_ok-right-in-Some.ensures) (others_part p c.args.right.items c.args.rights.now c.requires.right),
      ),
    )

pub returns-in_ok-right-in-Some-2 : goal.returns-in_ok-right-in-Some-2
returns-in_ok-right-in-Some-2 t c =
    let o = c.in-Some.of_list in
    let p = path_of o.cell in
    let own = c.args.stamps.left in
    let other = c.args.stamps.right in
    let ys = c.args.left.items in
    let xs = c.args.right.items in
    let zo = c.in_ok-left-in-Some-2.left.items in
    let uo = c.in_ok-left-in-Some-2.right.items in
    let of_list = subst (λ l. CrossesList c.args.stamps l xs o) c.deref-2.ensures.value (subst (λ l. CrossesList c.args.stamps c.deref-2.result.now l o) c.deref-3.ensures.value c.in-Some.ensures) in
    let inner = subst (λ l. CrossAll own other l (others_of p xs) zo uo) c.in_ok-left-in-Some.ensures (subst (λ l. CrossAll own other c.in_ok-left-in-Some.left.items l zo uo) c.in_ok-right-in-Some.ensures c.in_ok-left-in-Some-2.ensures) in
    let all = parts_cross own other p ys xs o.left.items o.right.items zo uo of_list.left of_list.right of_list.lists inner in
    let left_is = c.in_ok-left-in-Some-3.ensures ∙ (λ i. together (c.deref-in-Some.ensures.value i) (c.deref-in-Some-2.ensures.value i)) in
    let right_is = c.in_ok-right-in-Some-2.ensures ∙ (λ i. together (c.deref-in-Some-3.ensures.value i) (c.deref-in-Some-4.ensures.value i)) in
    subst (λ l. CrossAll own other ys xs l c.in_ok-right-in-Some-2.right.items) (sym left_is) (subst (λ l. CrossAll own other ys xs (together o.left.items zo) l) (sym right_is) all)
