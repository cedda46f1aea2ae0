use Rattle.std.proofs.Common.{◌<◌, length, map, sym, ap, ◌∙◌, subst}
use Rattle.sync_recip.specs.Lists.{entry_of}
use Rattle.sync_model.specs.Parts.{with_versions}
use Rattle.server_memory.specs.History.{HistoryParts}
use Rattle.server_memory.proofs.Keeps.{bound_history, same_history, whatever}
use Rattle.server_memory.proofs.history.History.bind.Goals as goal

pub invariant_of-self : goal.invariant_of-self
invariant_of-self c =
    let h : HistoryParts = record { floor = c.self.inside.floor; entries = map entry_of c.self.inside.entries.items; bases = c.self.inside.bases.items; second = c.self.inside.second; idents = c.self.inside.idents.items; retired = c.self.inside.retired.items } in
    let room = subst (λ n. n < 4294967295) (sym (ap (λ (h : HistoryParts). length h.idents) c.self.view_is)) c.requires in
    whatever c.keep.result _ _ _ c.keep.ensures.ok c.keep.ensures.unchanged
    (λ ok. bound_history h c.keep.new.items.items c.new.result ok c.self.invariant room (ap (λ g. g.reciprocal) c.new.ensures ∙ c.in_ok-reciprocal.ensures ∙ ap (λ l. with_versions c.self.inside.floor (map entry_of l)) c.as_slice.ensures.value))
    (λ same. same_history h c.keep.new.items.items same c.self.invariant)

pub invariant_of-self-2 : goal.invariant_of-self-2
invariant_of-self-2 c =
    let h : HistoryParts = record { floor = c.self.inside.floor; entries = map entry_of c.self.inside.entries.items; bases = c.self.inside.bases.items; second = c.self.inside.second; idents = c.self.inside.idents.items; retired = c.self.inside.retired.items } in
    let room = subst (λ n. n < 4294967295) (sym (ap (λ (h : HistoryParts). length h.idents) c.self.view_is)) c.requires in
    whatever c.keep.result _ _ _ c.keep.ensures.ok c.keep.ensures.unchanged
    (λ ok. bound_history h c.keep.new.items.items c.new.result ok c.self.invariant room (ap (λ g. g.reciprocal) c.new.ensures ∙ c.in_ok-reciprocal.ensures ∙ ap (λ l. with_versions c.self.inside.floor (map entry_of l)) c.as_slice.ensures.value))
    (λ same. same_history h c.keep.new.items.items same c.self.invariant)
