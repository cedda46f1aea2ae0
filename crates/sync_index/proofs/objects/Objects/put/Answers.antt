use Rattle.std.proofs.Common.{◌≡◌, sym, ◌∙◌, ap}
use Rattle.std.specs.FinMap as map
use Rattle.std.specs.FinSet as set
use Rattle.std.specs.Option.{unwrap_or, option_copied_mut}
use Rattle.sync_base.specs.Lemmas.Looks.{name_total, name_exact}
use Rattle.sync_maps.specs.Answers.{then_ok, then_err, was_ok}
use Rattle.sync_maps.specs.Seen.{seen_at, inserted, insert_same, written}
use Rattle.sync_index.proofs.objects.Objects.put.Goals as goal

pub returns-in-Some-clause-ok : goal.returns-in-Some-clause-ok
returns-in-Some-clause-ok c = then_ok c.put.result (λ done.
    let there = seen_at name_total c.self.inside.tables c.args.table.now c.self.view_is c.in-Some.ensures.value in
    written name_total name_exact c.self.inside.tables c.args.table.now c.in-Some.ensures.value (c.get_mut.follows.lender c.put.new.self) _ (c.get_mut.follows.holds c.put.new.self)
    ∙ ap (λ m. map.insert m c.args.table.now c.put.new.self) c.self.view_is
    ∙ ap (map.insert c.args.self.now c.args.table.now) (done ∙ ap (λ k. set.insert (unwrap_or k set.empty) c.args.key) (sym there))) c.put.ensures.ok

pub returns-in-Some-clause-unchanged : goal.returns-in-Some-clause-unchanged
returns-in-Some-clause-unchanged c = then_err c.put.result (λ same.
    let there = seen_at name_total c.self.inside.tables c.args.table.now c.self.view_is c.in-Some.ensures.value in
    written name_total name_exact c.self.inside.tables c.args.table.now c.in-Some.ensures.value (c.get_mut.follows.lender c.put.new.self) _ (c.get_mut.follows.holds c.put.new.self)
    ∙ ap (λ m. map.insert m c.args.table.now c.put.new.self) c.self.view_is
    ∙ ap (map.insert c.args.self.now c.args.table.now) same
    ∙ insert_same name_total name_exact c.args.self.now c.args.table.now _ there) c.put.ensures.unchanged

pub returns-clause-ok : goal.returns-clause-ok
returns-clause-ok c =
    let gone = ap option_copied_mut (sym c.in_default.is) ∙ c.get_mut.ensures.value in
    let absent = seen_at name_total c.self.inside.tables c.args.table.now c.self.view_is gone in
    let put = was_ok c.insert.result c.if-is_err.ensures.value c.insert.ensures.updates in
    let name : c.in_ok-copy.field-0 ≡ c.args.table.now = cc c.in_ok-copy.ensures.equal in
    let keys : c.put-2.new.self ≡ set.insert (unwrap_or (map.get c.args.self.now c.args.table.now) set.empty) c.args.key =
    c.in_ok-put.ensures.ok ∙ ap (λ s. set.insert s c.args.key) (c.new-keys.ensures ∙ ap (λ k. unwrap_or k set.empty) (sym absent)) in
    let before = ap (λ m. map.from_entries m.entries) c.get_mut.follows.holds-at-none ∙ c.self.view_is in
    let now = inserted name_total name_exact c.get_mut.follows.lender-at-none c.insert.new.self c.in_ok-copy.field-0 c.put-2.new.self put.0 in
    now ∙ (λ j. map.insert (before j) (name j) (keys j))
