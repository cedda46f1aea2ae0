use Rattle.std.proofs.Common.{sym, ◌∙◌, ap, subst}
use Rattle.std.specs.FinSet as set
use Rattle.sync_maps.specs.Seen.{excluded}
use Rattle.sync_rivals.specs.Marks.{mark, mark_cmp_total, mark_cmp_exact, KeepsOthers, AddsNone}
use Rattle.sync_rivals.proofs.Kept.{removed_others, removed_none, removed_gone}
use Rattle.sync_rivals.proofs.listing.Listing.remove.Goals as goal

pub returns-clause-others : goal.returns-clause-others
returns-clause-others c =
    let k = mark c.args.code c.args.number in
    let is = excluded mark_cmp_total mark_cmp_exact c.self.inside.marks c.remove.new.self k c.remove.ensures.updates.0 ∙ ap (λ s. set.remove s k) c.self.view_is in
    subst (KeepsOthers c.args.number c.args.self.now) (sym is) (removed_others c.args.self.now c.args.code c.args.number)

pub returns-clause-none : goal.returns-clause-none
returns-clause-none c =
    let k = mark c.args.code c.args.number in
    let is = excluded mark_cmp_total mark_cmp_exact c.self.inside.marks c.remove.new.self k c.remove.ensures.updates.0 ∙ ap (λ s. set.remove s k) c.self.view_is in
    subst (AddsNone c.args.self.now) (sym is) (removed_none c.args.self.now k)

pub returns-clause-gone : goal.returns-clause-gone
returns-clause-gone c =
    let k = mark c.args.code c.args.number in
    let is = excluded mark_cmp_total mark_cmp_exact c.self.inside.marks c.remove.new.self k c.remove.ensures.updates.0 ∙ ap (λ s. set.remove s k) c.self.view_is in
    ap (λ s. set.contains s k) is ∙ removed_gone c.args.self.now k
