use Rattle.std.proofs.Common.{sym, ◌∙◌, ap, refl}
use Rattle.std.specs.FinMap as map
use Rattle.std.specs.Option.{option_copied_mut}
use Rattle.sync_base.specs.Lemmas.Looks.{name_total, name_exact}
use Rattle.sync_maps.specs.Answers.{was_ok, then_ok}
use Rattle.sync_maps.specs.Seen.{seen_at, inserted, written}
use Rattle.sync_store.specs.Flat.{flat, flat_insert, rows_found, rows_none}
use Rattle.sync_store.proofs.objects.Objects.insert.Goals as goal

pub returns-in-Some : goal.returns-in-Some
returns-in-Some c = then_ok c.insert.result (λ h.
    let m = map.from_entries c.self.inside.tables.entries in
    ap flat (written name_total name_exact c.self.inside.tables c.args.table c.in-Some.ensures.value (c.get_mut.follows.lender c.insert.new.self) _ (c.get_mut.follows.holds c.insert.new.self))
    ∙ ap (λ r. flat (map.insert m c.args.table r)) (h ∙ ap (λ r. map.insert r c.args.key c.args.object) (sym (rows_found m c.args.table (seen_at name_total c.self.inside.tables c.args.table refl c.in-Some.ensures.value))))
    ∙ flat_insert m c.args.table c.args.key c.args.object ∙ ap (λ s. map.insert s (c.args.table, c.args.key) c.args.object) c.self.view_is) c.insert.ensures

pub returns : goal.returns
returns c =
    let put = was_ok c.insert-3.result c.if-is_err.ensures.value c.insert-3.ensures.updates in
    let m = map.from_entries c.self.inside.tables.entries in
    let t = c.args.table in
    ap flat (inserted name_total name_exact c.get_mut.follows.lender-at-none c.insert-3.new.self t _ put.0)
    ∙ ap (λ tree. flat (map.insert (map.from_entries tree.entries) t c.insert-2.new.self)) c.get_mut.follows.holds-at-none
    ∙ ap (λ r. flat (map.insert m t r)) (c.in_ok-insert.ensures ∙ ap (λ r. map.insert r c.args.key c.args.object) (c.new-rows.ensures ∙ sym (rows_none m t (seen_at name_total c.self.inside.tables t refl (ap option_copied_mut (sym c.in_default.is) ∙ c.get_mut.ensures.value)))))
    ∙ flat_insert m t c.args.key c.args.object ∙ ap (λ s. map.insert s (t, c.args.key) c.args.object) c.self.view_is
