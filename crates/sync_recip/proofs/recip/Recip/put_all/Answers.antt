use Rattle.std.proofs.Common.{sym, ◌∙◌, ap, subst}
use Rattle.std.proofs.lemmas.List.{drop-map}
use Rattle.sync_theory.specs.Reciprocals.{from_base, settle}
use Rattle.sync_recip.specs.Lists.{kept_entry, IsRising}
use Rattle.sync_recip.specs.Carrying.{AllFit, crossed_entries}
use Rattle.sync_recip.proofs.Versions.{from_base_is, settled}
use Rattle.sync_recip.proofs.recip.Recip.put_all.Goals as goal

pub put_crossed-requires-clause-fits : goal.put_crossed-requires-clause-fits
put_crossed-requires-clause-fits c =
    let ks = c.self.inside.items in
    let n = c.count_below-first.result in
    let split = c.count_below-first.ensures in
    subst (AllFit c.args.crossed.items) (ap (from_base c.args.base) (sym c.self.view_is) ∙ from_base_is c.args.base ks n split.below split.above ∙ sym (drop-map kept_entry n ks)) c.requires

pub invariant_of-self : goal.invariant_of-self
invariant_of-self c = (subst IsRising (sym c.put_crossed.ensures.versions) c.self.invariant.0, c.put_crossed.ensures.listed)

pub returns : goal.returns
returns c =
    let ks = c.self.inside.items in
    let n = c.count_below-first.result in
    let split = c.count_below-first.ensures in
    settled c.args.base ks n split.below split.above c.put_crossed.new.items c.args.crossed.items split.bound c.put_crossed.ensures.versions c.put_crossed.ensures.entries
    ∙ ap (λ l. settle c.args.base l (crossed_entries c.args.crossed.items (from_base c.args.base l))) c.self.view_is
