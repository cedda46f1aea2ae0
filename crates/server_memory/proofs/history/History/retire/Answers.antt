use Rattle.std.proofs.Common.{◌++◌, ◌∷◌, [], map, sym, ap, ◌∙◌, refl}
use Rattle.sync_recip.specs.Lists.{entry_of}
use Rattle.sync_model.specs.Parts.{at_ident, given_up, idents_retired}
use Rattle.server_memory.specs.History.{HistoryParts}
use Rattle.server_memory.proofs.Changed.{retired_is, retired_keeps}
use Rattle.server_memory.proofs.Idents.{is_at}
use Rattle.server_memory.proofs.Keeps.{retired_history}
use Rattle.server_memory.proofs.history.History.retire.Goals as goal

pub invariant_of-self-2 : goal.invariant_of-self-2
invariant_of-self-2 c =
    let gs = c.self.inside.idents.items in
    let ident = c.args.ident in
    let given = c.requires in
    let here = is_at ident gs given.0 (ap (λ (h : HistoryParts). at_ident ident h.idents) c.self.view_is ∙ given.1) in
    let was = c.index_mut.ensures.value ∙ sym (here.here c.index_mut.result.now) in
    let h : HistoryParts = record { floor = c.self.inside.floor; entries = map entry_of c.self.inside.entries.items; bases = c.self.inside.bases.items; second = c.self.inside.second; idents = c.self.inside.idents.items; retired = c.self.inside.retired.items } in
    let qs = c.keep.new.items.items in
    let new = c.retire.ensures ∙ ap (given_up c.args.by) was in
    retired_keeps ident gs given.0 here (record h { retired = qs }) refl (retired_history h qs c.self.invariant) c.args.by c.retire.new.self new

pub returns : goal.returns
returns c =
    let gs = c.self.inside.idents.items in
    let ident = c.args.ident in
    let given = c.requires in
    let here = is_at ident gs given.0 (ap (λ (h : HistoryParts). at_ident ident h.idents) c.self.view_is ∙ given.1) in
    let was = c.index_mut.ensures.value ∙ sym (here.here c.index_mut.result.now) in
    let new = c.retire.ensures ∙ ap (given_up c.args.by) was in
    let all = retired_is ident gs given.0 here c.args.by c.retire.new.self new ∙ ap (λ (h : HistoryParts). idents_retired ident c.args.by 1 h.idents) c.self.view_is in
    let listed = c.in_ok-keep.ensures.ok ∙ ap (λ (h : HistoryParts). h.retired ++ (ident, c.args.by) ∷ []) c.self.view_is in
    λ i. record (c.self.view_is i) { idents = all i; retired = listed i }
