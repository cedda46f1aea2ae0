use Rattle.std.proofs.lemmas.Result.{err_from_is_err_and}
use Rattle.std.proofs.Common.{◌≡◌, ◌+◌, ◌≤◌, length, map, sym, ◌∙◌, subst, arith}
use Rattle.std.proofs.lemmas.List.{length-map}
use Rattle.sync_recip.specs.Lists.{entry_of}
use Rattle.sync_model.specs.Fronts.{with_pairs}
use Rattle.server_memory.specs.Crossing.{ArePassed, passed_seen}
use Rattle.server_memory.specs.History.{IsHistory, kept_as}
use Rattle.server_memory.proofs.Entries.{crossed_fail}
use Rattle.server_memory.proofs.Passing.{is_kept}
use Rattle.server_memory.proofs.kept.Kept.front_passed.Goals as goal

pub returns-in_err-passed : goal.returns-in_err-passed
returns-in_err-passed c =
    let p = err_from_is_err_and c.from_residual.result c.from_residual.ensures.1 in
    rw (p.1, p.2) (crossed_fail c.args.records.now c.args.place c.args.second c.args.below c.args.floor (c.args.floor + length c.args.grown.entries.items) c.args.retired.items c.args.idents.items c.args.grown c.in_err-passed.field-0.0 c.as_slice.result.now c.as_slice-2.result.now c.as_slice.ensures.value c.as_slice-2.ensures.value c.in_err-passed.ensures.read)

pub kept-requires : goal.kept-requires
kept-requires c =
    let floor = c.args.floor in
    let es = c.args.grown.entries.items in
    let xs = map entry_of es in
    let gs = c.args.idents.items in
    let ps = c.in_ok-passed.passed.items in
    let each = subst (λ l. ArePassed floor (map entry_of l) ps) c.as_slice-2.ensures.value c.in_ok-passed.ensures.each in
    let made : c.in-Ok.idents.items ≡ with_pairs 1 floor xs (map passed_seen ps) gs =
    c.in-Ok.ensures ∙ (λ i. with_pairs 1 floor (map entry_of (c.as_slice-4.ensures.value i)) (map passed_seen (c.as_slice-5.ensures.value i)) (c.as_slice-3.ensures.value i))
    in
    let short : floor + length xs ≤ 4294967295 = omega (arith, c.requires.short, length-map es entry_of) in
    subst (λ hs. IsHistory (kept_as floor xs c.args.grown.bases.items c.args.second hs c.args.retired.items)) (sym made)
    (is_kept floor xs c.args.grown.bases.items c.args.second gs c.args.retired.items ps short c.requires.few c.requires.grown.each c.requires.grown.based each)
