use Rattle.std.proofs.Common.{◌≡◌, suc, ◌+◌, set, sym, ap, ◌∙◌, arith}
use Rattle.std.specs.Prelude.{slice_get, insert}
use Rattle.list_regions.specs.Kept.{with_gap}
use Rattle.list_regions.proofs.Sets.{inserted_next, insert_set, ok_of}
use Rattle.list_regions.proofs.push.insert_fresh.Goals as goal

pub set_gap_at-requires-clause-room : goal.set_gap_at-requires-clause-room
set_gap_at-requires-clause-room c = λ q g.
    let qs = c.args.items.now in
    let i = c.args.place in
    let new = ok_of c.insert.result (sym c.is_err.ensures.value ∙ c.if-is_err.false) c.insert.ensures.ok in
    let k : i + 1 ≡ suc i = omega arith in
    let there = sym (inserted_next qs i c.fresh.result c.requires.there) ∙ (λ j. slice_get (sym new j) (sym k j)) ∙ g in
    c.requires.room q there

pub returns-clause-ok : goal.returns-clause-ok
returns-clause-ok c = λ q g.
    let qs = c.args.items.now in
    let i = c.args.place in
    let y = with_gap c.args.rest q in
    let new = ok_of c.insert.result (sym c.is_err.ensures.value ∙ c.if-is_err.false) c.insert.ensures.ok in
    let k : i + 1 ≡ suc i = omega arith in
    let there = (λ j. slice_get (new j) (k j)) ∙ inserted_next qs i c.fresh.result c.requires.there ∙ g in
    c.set_gap_at.ensures q there
    ∙ (λ j. set (new j) (k j) y)
    ∙ insert_set qs i c.fresh.result y c.requires.there
    ∙ ap (insert (set qs i y) i) c.fresh.ensures
