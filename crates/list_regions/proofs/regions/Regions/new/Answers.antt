use Rattle.std.proofs.Common.{[], sym, subst, refl, arith}
use Rattle.list_regions.specs.Kept.{IsRegions}
use Rattle.list_regions.specs.Regions.{woven, none}
use Rattle.list_regions.proofs.regions.Regions.new.Goals as goal

pub invariant_of-result : goal.invariant_of-result
invariant_of-result c =
    let n = c.args.first in
    let room = c.requires in
    subst (λ qs. IsRegions 0 0 n n qs (woven 0 0 0 [] qs)) (sym c.new.ensures) (record {
      whole = none tt;
      lane = record { chains = tt; last_is = refl; count_is = refl; room = omega (arith, room) };
      fits = omega arith;
      numbers = omega arith;
    })
