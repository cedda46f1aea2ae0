use Rattle.std.proofs.Common.{Some, set, ap, ◌∙◌}
use Rattle.std.proofs.lemmas.Result.{on_ok_weaker, on_err_weaker}
use Rattle.list_regions.specs.Regions.{RegionOf}
use Rattle.list_regions.specs.Kept.{pushed_region}
use Rattle.list_regions.proofs.Sets.{set_twice, set_same, same_item}
use Rattle.list_regions.proofs.push.append_at.Goals as goal

pub returns-clause-ok : goal.returns-clause-ok
returns-clause-ok c =
    let qs = c.args.items.now in
    let i = c.args.touch.place in
    let s = Some c.args.touch.inner in
    let n = c.args.number in
    on_ok_weaker c.push-pushed.result (λ new q g.
    let e = same_item qs i c.replace-region.result q c.replace-region.ensures.value g in
    c.replace.ensures.list
    ∙ (λ j. set (c.replace-region.ensures.list j) i (new j))
    ∙ set_twice qs i c.empty.result (pushed_region n s c.replace-region.result)
    ∙ ap (λ (r : RegionOf). set qs i (pushed_region n s r)) e) c.push-pushed.ensures.ok

pub returns-clause-err : goal.returns-clause-err
returns-clause-err c =
    let qs = c.args.items.now in
    let i = c.args.touch.place in
    on_err_weaker c.push-pushed.result (λ same.
    c.replace.ensures.list
    ∙ (λ j. set (c.replace-region.ensures.list j) i (same j))
    ∙ set_twice qs i c.empty.result c.replace-region.result
    ∙ set_same qs i c.replace-region.result c.replace-region.ensures.value) c.push-pushed.ensures.err
