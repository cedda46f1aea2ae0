use Rattle.std.proofs.Common.{map, sym, ap, ◌∙◌, refl}
use Rattle.sync_data.specs.declared.instr.Instr.{Instr}
use Rattle.sync_recip.specs.Lists.{entry_of}
use Rattle.sync_model.specs.Parts.{Given, at_ident, marked}
use Rattle.server_memory.specs.History.{HistoryParts}
use Rattle.server_memory.proofs.Changed.{marked_is, marked_keeps}
use Rattle.server_memory.proofs.Idents.{is_at}
use Rattle.server_memory.proofs.history.History.settle_at.Goals as goal

pub invariant_of-self : goal.invariant_of-self
invariant_of-self c =
    let gs = c.self.inside.idents.items in
    let ident = c.args.ident in
    let given = c.requires in
    let here = is_at ident gs given.0 (ap (λ (h : HistoryParts). at_ident ident h.idents) c.self.view_is ∙ given.1) in
    let was = c.index_mut.ensures.value ∙ sym (here.here c.index_mut.result.now) in
    let h : HistoryParts = record { floor = c.self.inside.floor; entries = map entry_of c.self.inside.entries.items; bases = c.self.inside.bases.items; second = c.self.inside.second; idents = c.self.inside.idents.items; retired = c.self.inside.retired.items } in
    let new = c.settle_at.ensures ∙ ap (λ (d : Given Instr). record d { mark = c.args.settled }) was in
    marked_keeps ident gs given.0 here h refl c.self.invariant c.args.settled c.settle_at.new.self new

pub returns : goal.returns
returns c =
    let gs = c.self.inside.idents.items in
    let ident = c.args.ident in
    let given = c.requires in
    let here = is_at ident gs given.0 (ap (λ (h : HistoryParts). at_ident ident h.idents) c.self.view_is ∙ given.1) in
    let was = c.index_mut.ensures.value ∙ sym (here.here c.index_mut.result.now) in
    let new = c.settle_at.ensures ∙ ap (λ (d : Given Instr). record d { mark = c.args.settled }) was in
    let all = marked_is ident gs given.0 here c.args.settled c.settle_at.new.self new ∙ ap (λ (h : HistoryParts). marked ident c.args.settled 1 h.idents) c.self.view_is in
    λ i. record (c.self.view_is i) { idents = all i }
