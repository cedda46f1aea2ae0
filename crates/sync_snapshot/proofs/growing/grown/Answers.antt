use Rattle.std.proofs.Common.{sym, ap, ◌∙◌, subst}
use Rattle.sync_model.specs.Snapshots.{grown_as, grown_to, part_differs}
use Rattle.sync_exchange.specs.Profile.{the_profile}
use Rattle.sync_snapshot.specs.Grown.{lists_of, Names}
use Rattle.sync_snapshot.proofs.Applied.{lists_untimed}
use Rattle.sync_snapshot.proofs.growing.grown.Goals as goal

pub returns-in-Ok-None : goal.returns-in-Ok-None
returns-in-Ok-None c =
    let parts = lists_of c.args.parts.now in
    let built = ap lists_of (c.as_slice.ensures.value ∙ c.in-Ok.ensures.parts) ∙ lists_untimed _ in
    record {
      grown = ap (grown_to the_profile parts) c.in_ok-objects.ensures
          ∙ ap (grown_as c.in_ok-objects.objects) (ap (part_differs the_profile 0 parts) (sym built) ∙ sym c.in-Ok-None.ensures ∙ c.in-Ok-None.field-0-is);
    }

pub returns-in-Ok-Some : goal.returns-in-Ok-Some
returns-in-Ok-Some c =
    let parts = lists_of c.args.parts.now in
    let built = ap lists_of (c.as_slice.ensures.value ∙ c.in-Ok.ensures.parts) ∙ lists_untimed _ in
    record {
      grown = subst (Names c.bad_part.result)
          (sym (ap (grown_to the_profile parts) c.in_ok-objects.ensures
          ∙ ap (grown_as c.in_ok-objects.objects) (ap (part_differs the_profile 0 parts) (sym built) ∙ sym c.in-Ok-Some.ensures ∙ c.in-Ok-Some.field-0-is)))
          c.bad_part.ensures;
    }
