use Rattle.std.proofs.Common.{◌<◌, All, sym, subst}
use Rattle.sync_recip.specs.declared.kept.Kept.{Kept}
use Rattle.sync_recip.proofs.Indexed.{listed_pushed}
use Rattle.sync_recip.proofs.Versions.{rising_pushed}
use Rattle.sync_recip.proofs.recip.Recip.add.Goals as goal

pub invariant_of-self : goal.invariant_of-self
invariant_of-self c =
    let one : Kept = record { version = c.args.version; item = c.new-item.result } in (
      rising_pushed c.push.result c.self.inside.items c.push.new.self one c.push.ensures.ok c.push.ensures.unchanged c.self.invariant.0 (subst (λ qs. All (λ q. q.0 < c.args.version) qs) (sym c.self.view_is) c.requires),
      listed_pushed c.push.result c.self.inside.rivals c.self.inside.items c.push.new.self one c.push.ensures.ok c.push.ensures.unchanged c.self.invariant.1,
    )
