use Rattle.std.proofs.Common.{◌-◌, length, map, drop, All, sym, ap, ◌∙◌, subst, arith, length-drop}
use Rattle.std.proofs.lemmas.List.{length-map, take_rest}
use Rattle.sync_recip.specs.Lists.{entry_of}
use Rattle.server_memory.specs.History.{HistoryParts, IsEntry, len_of}
use Rattle.server_memory.proofs.Keeps.{map_drop, all_dropped}
use Rattle.server_memory.proofs.history.History.from.Goals as goal

pub returns-clause-entries : goal.returns-clause-entries
returns-clause-entries c =
    let es = c.deref.result.now in
    let n = c.args.version - c.self.inside.floor in
    ap (map entry_of) (take_rest es n)
    ∙ map_drop es n
    ∙ ap (λ l. drop n (map entry_of l)) c.deref.ensures.value
    ∙ ap (λ (h : HistoryParts). drop (c.args.version - h.floor) h.entries) c.self.view_is

pub returns-clause-each : goal.returns-clause-each
returns-clause-each c =
    let es = c.deref.result.now in
    let n = length c.args.self.now.idents in
    let place = c.args.version - c.self.inside.floor in
    let all = subst (λ m. All (IsEntry m) (map entry_of c.self.inside.entries.items)) (ap (λ (h : HistoryParts). length h.idents) c.self.view_is) c.self.invariant.entries in
    subst (All (λ e. IsEntry n (entry_of e))) (sym (take_rest es place)) (all_dropped n es place (subst (λ l. All (IsEntry n) (map entry_of l)) (sym c.deref.ensures.value) all))

pub returns-clause-short : goal.returns-clause-short
returns-clause-short c =
    let es = c.deref.result.now in
    let n = c.args.version - c.self.inside.floor in
    let rest = ap length (take_rest es n) in
    let left = length-drop n es in
    let size = ap length c.deref.ensures.value in
    let mapped = length-map c.self.inside.entries.items entry_of in
    let floor = ap (λ (h : HistoryParts). h.floor) c.self.view_is in
    let whole = ap len_of c.self.view_is in
    omega (arith, rest, left, size, mapped, floor, whole, c.self.invariant.short, c.requires.kept, c.requires.within)
