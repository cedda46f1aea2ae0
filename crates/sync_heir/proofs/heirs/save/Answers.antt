use Rattle.std.proofs.Common.{◌≡◌, ◌++◌, None, ap, sym, subst, rules, ◌∙◌}
use Rattle.sync_model.specs.Clients.{client_of, commit}
use Rattle.sync_model.specs.Resets.{saved}
use Rattle.sync_exchange.specs.Profile.{the_profile}
use Rattle.sync_client.specs.Clients.{AskedFor, IsStored, Leaves}
use Rattle.sync_reset.specs.Saved.{drops}
use Rattle.sync_heir.proofs.Saving.{did_save, save_is}
use Rattle.sync_heir.proofs.heirs.save.Goals as goal

pub returns-in-Ok-commit-clause-does : goal.returns-in-Ok-commit-clause-does
returns-in-Ok-commit-clause-does g c = λ records is.
    let h = c.args.change.now in
    let instrs = c.in-Ok.changes.instrs in
    let objects = c.objects.ensures records is in
    let kept : c.into_vec.result.items ≡ (saved the_profile (client_of the_profile records).objects instrs).kept = search rules in
    let dropped : drops c.in-Ok-saved.field-0.dropped ≡ (saved the_profile (client_of the_profile records).objects instrs).dropped = c.in-Ok-saved.ensures.dropped ∙ ap (λ s. (saved the_profile s instrs).dropped) objects in
    did_save records h (saved the_profile (client_of the_profile records).objects instrs).dropped (commit the_profile (client_of the_profile records) c.ms.result c.into_vec.result.items) (drops c.in-Ok-saved.field-0.dropped) c.in-Ok-commit.number c.commit.new.self
    (save_is records h instrs c.into_vec.result.items c.ms.result c.in-Ok.ensures.read kept c.ms.ensures) dropped (c.in-Ok-commit.ensures.does records is)

pub returns-in-Ok-commit-clause-survives : goal.returns-in-Ok-commit-clause-survives
returns-in-Ok-commit-clause-survives g c = λ records is stored.
    let instrs = c.in-Ok.changes.instrs in
    let objects = c.objects.ensures records is in
    let kept : c.into_vec.result.items ≡ (saved the_profile (client_of the_profile records).objects instrs).kept = search rules in
    let same = sym (ap (λ s. s.records) (save_is records c.args.change.now instrs c.into_vec.result.items c.ms.result c.in-Ok.ensures.read kept c.ms.ensures)) in
    let made = c.in-Ok-commit.ensures.survives records is stored in
    record {
      stored = subst (λ rs. IsStored (records ++ rs) c.commit.new.self) same made.stored;
      any_moment = subst (λ rs. Leaves records rs c.args.client.now.journal c.commit.new.self.journal) same made.any_moment;
      asked = subst (λ rs. AskedFor rs c.args.client.now.journal c.commit.new.self.journal None) same made.asked;
    }
