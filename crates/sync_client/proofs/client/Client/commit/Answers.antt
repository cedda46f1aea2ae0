use Rattle.std.proofs.Common.{◌≡◌, ℕ, [], not, ap, sym, subst, ◌∙◌}
use Rattle.sync_model.specs.Clients.{ClientRecord, client_of, commit}
use Rattle.sync_exchange.specs.Profile.{the_profile}
use Rattle.sync_client.specs.Refusals.{refusal_seen, IfSeen, IsPlain}
use Rattle.sync_client.proofs.Calls.{commit_is, commit_says, plain_closes, plain_disk, uncommitted}
use Rattle.sync_client.proofs.Surviving.{survives_one, survives_refused}
use Rattle.sync_client.proofs.client.Client.commit.Goals as goal

pub returns-in-Err-clause-closes : goal.returns-in-Err-clause-closes
returns-in-Err-clause-closes g c = plain_closes ℕ c.args.self.now c.refused.new.self c.refused.result c.in-Err.refusal c.refused.ensures.same c.in-Err.ensures.plain (sym c.is_closed.ensures ∙ c.if-is_closed.false) c.refused.ensures.closes

pub returns-in-Err-clause-disk : goal.returns-in-Err-clause-disk
returns-in-Err-clause-disk g c = plain_disk ℕ c.args.self.now c.refused.new.self c.refused.result c.in-Err.refusal c.refused.ensures.same c.in-Err.ensures.plain c.refused.ensures.disk

pub returns-in-Err-clause-survives : goal.returns-in-Err-clause-survives
returns-in-Err-clause-survives g c = λ records before stored.
    let did = commit the_profile (client_of the_profile records) c.args.ms c.args.edits.items in
    let none = uncommitted records c.args.self.now.replica c.make.new.self c.args.ms c.args.edits.items c.in-Err.refusal before.kept (c.is_none.ensures ∙ ap not c.if-is_none.false) (c.in-Err.ensures.step before.kept.past before.kept.count) in
    survives_refused did c.refused.result records c.args.self.now c.refused.new.self g.met.D.Disk.only_now (subst IsPlain (sym c.refused.ensures.same) c.in-Err.ensures.plain)
    (subst (λ w. IfSeen (refusal_seen w) (λ _. did.records ≡ [])) (sym c.refused.ensures.same) none) c.refused.ensures.disk c.refused.ensures.journal stored

pub returns-clause-does : goal.returns-clause-does
returns-clause-does g c = λ records before.
    commit_says records c.args.self.now.replica c.make.new.self c.append_made.new.self c.args.ms c.args.edits.items c.in-Ok.made c.append_made.result before.kept (c.is_none.ensures ∙ ap not c.if-is_none.false)
    (c.in-Ok.ensures.step before.kept.past before.kept.count) c.in-Ok.ensures.number c.append_made.ensures.number c.append_made.ensures.replica c.append_made.ensures.stays_open c.append_made.ensures.refused

pub returns-clause-survives : goal.returns-clause-survives
returns-clause-survives g c = λ records before stored.
    survives_one (commit the_profile (client_of the_profile records) c.args.ms c.args.edits.items) (ClientRecord.Made c.in-Ok.made.number c.args.ms c.in-Ok.made.body.items) c.in-Ok.made.number records c.args.self.now c.append_made.new.self c.append_made.result
    (commit_is records c.args.self.now.replica c.make.new.self c.args.ms c.args.edits.items c.in-Ok.made before.kept (c.is_none.ensures ∙ ap not c.if-is_none.false) (c.in-Ok.ensures.step before.kept.past before.kept.count))
    c.append_made.ensures.appends c.append_made.ensures.refused stored
