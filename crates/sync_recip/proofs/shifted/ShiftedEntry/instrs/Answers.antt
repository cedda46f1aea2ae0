use Rattle.std.proofs.Common.{sym, ap, ◌∙◌, subst}
use Rattle.sync_data.specs.declared.entry.Entry.{Entry}
use Rattle.sync_rivals.specs.Lists.{StaysListed}
use Rattle.sync_recip.proofs.Standing.{stood_listed}
use Rattle.sync_recip.proofs.shifted.ShiftedEntry.instrs.Goals as goal

pub returns : goal.returns
returns c =
    let shared = c.self.inside.shared in
    let is = c.instrs.ensures.listed ∙ ap (λ (e : Entry). e.changes.instrs) c.entry.ensures in
    subst (λ l. StaysListed l c.args.self.now.changes.instrs) (sym is) (subst (λ (e : Entry). StaysListed shared.changes.instrs e.changes.instrs) c.self.view_is (stood_listed c.self.inside.fell c.self.inside.action shared.changes))
