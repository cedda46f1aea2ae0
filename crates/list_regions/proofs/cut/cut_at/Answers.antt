use Rattle.std.proofs.Common.{◌≡◌, suc, ◌+◌, List, set, sym, ap, ◌∙◌, arith}
use Rattle.std.specs.Option.{option_copied}
use Rattle.list_regions.specs.Regions.{RegionOf}
use Rattle.list_regions.proofs.Sets.{ok_of}
use Rattle.list_regions.proofs.Cutting.{cut_alike}
use Rattle.list_regions.proofs.cut.cut_at.Goals as goal

pub returns : goal.returns
returns c =
    let qs = c.args.items.now in
    let i = c.args.place in
    let q = c.in-Some-cut.halves.front in
    let r = c.in-Some-cut.halves.back in
    let k : i + 1 ≡ suc i = omega arith in
    let new = ok_of c.insert.result (sym c.is_err.ensures.value ∙ c.if-is_err.false) c.insert.ensures.ok in
    cut_alike c.in-Some.region.now q r c.in-Some-cut.ensures qs c.replace.new.self i (i + 1) (sym c.get.ensures ∙ ap option_copied c.in-Some.is) k
    (c.replace.ensures.list ∙ ap (λ (o : List RegionOf). set o i q) new)
