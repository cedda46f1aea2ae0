use Rattle.std.proofs.Common.{◌≡◌, sym, ◌∙◌, ap}
use Rattle.std.specs.FinMap as map
use Rattle.std.specs.Option.{option_copied}
use Rattle.sync_store.proofs.Taking.{none_of, created_back}
use Rattle.sync_store.proofs.parts.Parts.put_object.Goals as goal

pub returns-clause-back : goal.returns-clause-back
returns-clause-back c =
    let t = c.args.create.now.table in
    let k = c.args.create.now.key in
    let absent = sym c.object.ensures ∙ ap option_copied (none_of c.object.result (sym c.is_some.ensures ∙ c.if-is_some.false)) in
    let t1 : c.in_ok-copy.field-0 ≡ t = cc c.in_ok-copy.ensures.equal in
    let k2 : c.in_ok-copy-2.field-0 ≡ k = cc c.in_ok-copy-2.ensures.equal in
    (λ i. record {
      tables = c.self.inside.schema;
      objects = ((λ j. map.remove (c.in_ok-insert.ensures j) (t, k)) ∙ (λ j. map.remove (map.insert c.self.inside.objects (t1 j, k2 j) c.in_ok-object.object) (t, k)) ∙ created_back c.self.inside.objects (t, k) _ absent) i;
    }) ∙ c.self.view_is
