use Rattle.std.proofs.Common.{sym, ◌∙◌, ap, refl}
use Rattle.std.specs.FinMap as map
use Rattle.sync_base.specs.Lemmas.Looks.{name_total, name_exact}
use Rattle.sync_cells.specs.Undoing.{done, undone}
use Rattle.sync_maps.specs.Answers.{then_ok, then_so}
use Rattle.sync_maps.specs.Seen.{at_key, seen_at, written}
use Rattle.sync_store.specs.Flat.{flat, flat_edit, flat_back, rows_found}
use Rattle.sync_store.proofs.objects.Objects.edit.Goals as goal

pub returns-clause-done : goal.returns-clause-done
returns-clause-done c = then_ok c.edit.result (λ h.
    let m = map.from_entries c.self.inside.tables.entries in
    let t = c.args.cell.now.table in
    let f = at_key c.args.cell.now.column (done c.args.edit) in
    ap flat (written name_total name_exact c.self.inside.tables t c.in-Some.ensures.value (c.get_mut.follows.lender c.edit.new.self) _ (c.get_mut.follows.holds c.edit.new.self))
    ∙ ap (λ r. flat (map.insert m t r)) (h ∙ ap (at_key c.args.cell.now.key f) (sym (rows_found m t (seen_at name_total c.self.inside.tables t refl c.in-Some.ensures.value))))
    ∙ flat_edit m t c.args.cell.now.key f ∙ ap (at_key (t, c.args.cell.now.key) f) c.self.view_is) c.edit.ensures.done

pub returns-clause-former : goal.returns-clause-former
returns-clause-former c = then_so c.edit.result (λ former h.
    let m = map.from_entries c.self.inside.tables.entries in
    let t = c.args.cell.now.table in
    let g = at_key c.args.cell.now.column (undone c.args.edit former) in
    ap (λ s. at_key (t, c.args.cell.now.key) g (flat s)) (written name_total name_exact c.self.inside.tables t c.in-Some.ensures.value (c.get_mut.follows.lender c.edit.new.self) _ (c.get_mut.follows.holds c.edit.new.self))
    ∙ flat_back m t c.args.cell.now.key g _ (seen_at name_total c.self.inside.tables t refl c.in-Some.ensures.value) h ∙ c.self.view_is) c.edit.ensures.former
