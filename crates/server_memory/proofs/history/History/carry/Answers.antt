use Rattle.std.proofs.Common.{◌≢◌, All, map, refl, sym, ap, ◌∙◌, subst}
use Rattle.sync_data.specs.declared.instr.Instr.{Instr}
use Rattle.sync_recip.specs.Lists.{entry_of}
use Rattle.sync_model.specs.Parts.{Given, at_ident}
use Rattle.server_memory.specs.History.{HistoryParts, IsHistory}
use Rattle.server_memory.specs.Merging.{Carries}
use Rattle.server_memory.proofs.Changed.{other_there, same_is}
use Rattle.server_memory.proofs.Idents.{is_at}
use Rattle.server_memory.proofs.Keeps.{the_same}
use Rattle.server_memory.proofs.history.History.carry.Goals as goal

pub carry-requires : goal.carry-requires
carry-requires c =
    let gs = c.self.inside.idents.items in
    let ident = c.args.ident in
    let given = c.requires in
    let here = is_at ident gs given.0 (ap (λ (h : HistoryParts). at_ident ident h.idents) c.self.view_is ∙ given.1) in
    let was = c.index_mut.ensures.value ∙ sym (here.here c.index_mut.result.now) in
    let h : HistoryParts = record { floor = c.self.inside.floor; entries = map entry_of c.self.inside.entries.items; bases = c.self.inside.bases.items; second = c.self.inside.second; idents = c.self.inside.idents.items; retired = c.self.inside.retired.items } in
    subst (λ (d : Given Instr). All (λ pair. pair.1.origin ≢ ident) d.reciprocal) (sym was) (other_there ident gs given.0 here h refl c.self.invariant)

pub invariant_of-self : goal.invariant_of-self
invariant_of-self c =
    let gs = c.self.inside.idents.items in
    let ident = c.args.ident in
    let given = c.requires in
    let here = is_at ident gs given.0 (ap (λ (h : HistoryParts). at_ident ident h.idents) c.self.view_is ∙ given.1) in
    let was = c.index_mut.ensures.value ∙ sym (here.here c.index_mut.result.now) in
    let h : HistoryParts = record { floor = c.self.inside.floor; entries = map entry_of c.self.inside.entries.items; bases = c.self.inside.bases.items; second = c.self.inside.second; idents = c.self.inside.idents.items; retired = c.self.inside.retired.items } in
    subst (λ l. IsHistory (record h { idents = l })) (sym (same_is ident gs given.0 here c.carry.new.self (c.carry.ensures.same ∙ was))) c.self.invariant

pub returns-clause-same : goal.returns-clause-same
returns-clause-same c =
    let gs = c.self.inside.idents.items in
    let ident = c.args.ident in
    let given = c.requires in
    let here = is_at ident gs given.0 (ap (λ (h : HistoryParts). at_ident ident h.idents) c.self.view_is ∙ given.1) in
    let was = c.index_mut.ensures.value ∙ sym (here.here c.index_mut.result.now) in
    let all = same_is ident gs given.0 here c.carry.new.self (c.carry.ensures.same ∙ was) ∙ ap (λ (h : HistoryParts). h.idents) c.self.view_is in
    λ i. record (c.self.view_is i) { idents = all i }

pub returns-clause-carries : goal.returns-clause-carries
returns-clause-carries c = λ g is number.
    let gs = c.self.inside.idents.items in
    let ident = c.args.ident in
    let given = c.requires in
    let here = is_at ident gs given.0 (ap (λ (h : HistoryParts). at_ident ident h.idents) c.self.view_is ∙ given.1) in
    let was = c.index_mut.ensures.value ∙ sym (here.here c.index_mut.result.now) in
    let same = the_same (sym given.1 ∙ is) in
    subst (λ (d : Given Instr). Carries c.carry.result ident number c.args.changes c.args.base d.reciprocal) (was ∙ same) (c.carry.ensures.carries number)
