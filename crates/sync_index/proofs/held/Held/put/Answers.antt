use Rattle.std.proofs.Common.{◌≡◌, sym, ◌∙◌, ap, subst}
use Rattle.std.specs.Prelude.{not}
use Rattle.sync_maps.specs.Answers.{then_ok}
use Rattle.sync_index.specs.Touched.{HoldsMore, with_name, with_first}
use Rattle.sync_index.proofs.Indexed.{new_first, first_again, first_stays}
use Rattle.sync_index.proofs.held.Held.put.Goals as goal

pub returns-then-is_none-clause-ok : goal.returns-then-is_none-clause-ok
returns-then-is_none-clause-ok c =
    let name : c.in_ok-copy.field-0 ≡ c.args.table.now = cc c.in_ok-copy.ensures.equal in
    subst (λ before. HoldsMore (c.args.table.now, c.args.key) before (with_name (c.in_ok-copy.field-0, c.args.key) c.self.inside.others)) c.self.view_is
    (new_first c.self.inside.first (c.in_ok-copy.field-0, c.args.key) (c.args.table.now, c.args.key) c.self.inside.others (c.is_none.ensures ∙ ap not c.if-is_none.true) (ap (λ n. (n, c.args.key)) name))

pub returns-then-is_first-clause-ok : goal.returns-then-is_first-clause-ok
returns-then-is_first-clause-ok c = subst (λ now. HoldsMore (c.args.table.now, c.args.key) now now) c.self.view_is
    (first_again c.self.inside.first (c.args.table.now, c.args.key) c.self.inside.others (sym c.is_first.ensures ∙ c.if-is_first.true))

pub returns-clause-ok : goal.returns-clause-ok
returns-clause-ok c = then_ok c.put.result (λ done.
    subst (λ before. HoldsMore (c.args.table.now, c.args.key) before (with_first c.self.inside.first c.put.new.self)) c.self.view_is
    (subst (λ more. HoldsMore (c.args.table.now, c.args.key) (with_first c.self.inside.first c.self.inside.others) (with_first c.self.inside.first more)) (sym done) (first_stays c.self.inside.first (c.args.table.now, c.args.key) c.self.inside.others))) c.put.ensures.ok
