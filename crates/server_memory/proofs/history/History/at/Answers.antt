use Rattle.std.proofs.Common.{map, sym, ap, subst}
use Rattle.sync_recip.specs.Lists.{entry_of}
use Rattle.server_memory.specs.History.{HistoryParts, AreGiven, len_of}
use Rattle.server_memory.proofs.Keeps.{others_at}
use Rattle.server_memory.proofs.history.History.at.Goals as goal

pub returns-clause-others : goal.returns-clause-others
returns-clause-others c =
    let gs = c.as_slice.result.now in
    let h : HistoryParts = record { floor = c.self.inside.floor; entries = map entry_of c.self.inside.entries.items; bases = c.self.inside.bases.items; second = c.self.inside.second; idents = c.self.inside.idents.items; retired = c.self.inside.retired.items } in
    let kept = subst (λ l. AreGiven (len_of h) 1 l) (sym c.as_slice.ensures.value) c.self.invariant.idents in
    others_at (λ x. x.now) c.get.result gs (len_of c.args.self.now) c.args.ident c.get.ensures.lookup.0 c.get.ensures.lookup.1 c.if-ident-eq0.false (subst (λ n. AreGiven n 1 gs) (ap len_of c.self.view_is) kept)
