use Rattle.std.proofs.Common.{sym, ◌∙◌}
use Rattle.std.specs.FinMap as map
use Rattle.sync_base.specs.Lemmas.Looks.{object_total, object_exact}
use Rattle.sync_maps.specs.Seen.{remove_absent}
use Rattle.sync_store.proofs.Taking.{erased_back}
use Rattle.sync_store.proofs.parts.Parts.cut_object.Goals as goal

pub returns-in_default-clause-back : goal.returns-in_default-clause-back
returns-in_default-clause-back c =
    (λ i. record {
      tables = c.self.inside.schema;
      objects = (c.remove.ensures.others ∙ remove_absent object_total object_exact c.self.inside.objects (c.args.erase.now.table, c.args.erase.now.key) (sym c.remove.ensures.object ∙ c.in_default.is)) i;
    }) ∙ c.self.view_is

pub returns-clause-back : goal.returns-clause-back
returns-clause-back c =
    let t = c.args.erase.now.table in
    let k = c.args.erase.now.key in
    (λ i. record {
      tables = c.self.inside.schema;
      objects = ((λ j. map.insert (c.remove.ensures.others j) (t, k) c.in-Some.object) ∙ erased_back c.self.inside.objects (t, k) c.in-Some.object (sym c.remove.ensures.object ∙ c.in-Some.is)) i;
    }) ∙ c.self.view_is
