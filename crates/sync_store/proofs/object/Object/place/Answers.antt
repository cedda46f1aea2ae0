use Rattle.std.proofs.Common.{rules}
use Rattle.std.proofs.lemmas.Fn.{always_returns_same}
use Rattle.sync_data.specs.Orders.{name_cmp}
use Rattle.sync_base.specs.Lemmas.Looks.{name_total, name_exact}
use Rattle.sync_store.proofs.Ordered.{search_seen}
use Rattle.sync_store.proofs.object.Object.place.Goals as goal

pub returns-clause-found : goal.returns-clause-found
returns-clause-found c =
    let facts = c.binary_search_by.ensures in
    let by_name = facts.position (λ cell. name_cmp cell.0 c.args.column.now) (always_returns_same _ _ _ (λ a r f called. search rules)) in
    (search_seen name_total name_exact c.self.inside.cells.items c.self.invariant c.self.view_is c.args.column.now c.deref.result.now c.deref.ensures.value c.binary_search_by.result facts.bound by_name).0

pub returns-clause-absent : goal.returns-clause-absent
returns-clause-absent c =
    let facts = c.binary_search_by.ensures in
    let by_name = facts.position (λ cell. name_cmp cell.0 c.args.column.now) (always_returns_same _ _ _ (λ a r f called. search rules)) in
    (search_seen name_total name_exact c.self.inside.cells.items c.self.invariant c.self.view_is c.args.column.now c.deref.result.now c.deref.ensures.value c.binary_search_by.result facts.bound by_name).1
