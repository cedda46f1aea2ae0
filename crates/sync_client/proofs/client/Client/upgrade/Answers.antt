use Rattle.std.proofs.Common.{◌++◌, ◌∷◌, [], true, not, ap, sym, subst, ◌∙◌}
use Rattle.std.proofs.lemmas.Result.{err_from_is_err_and}
use Rattle.sync_model.specs.Clients.{ClientRecord, client_of, upgrade}
use Rattle.sync_exchange.specs.Profile.{the_profile}
use Rattle.sync_client.specs.declared.replica.Replica.{Replica}
use Rattle.sync_client.specs.Keeping.{Keeps}
use Rattle.sync_client.proofs.Calls.{did_append, upgrade_is, upgrade_keeps}
use Rattle.sync_client.proofs.Surviving.{survives_one}
use Rattle.sync_client.proofs.client.Client.upgrade.Goals as goal

pub returns-clause-does : goal.returns-clause-does
returns-clause-does g c = λ records before.
    did_append (upgrade (client_of the_profile records)) ClientRecord.Form true records _
    (upgrade_is records c.args.self.now.replica before.kept (c.is_none.ensures ∙ ap not c.if-is_none.false) c.if-self.false)
    (subst (λ (r : Replica). Keeps (records ++ ClientRecord.Form ∷ []) (record r { second = true })) (sym c.in_ok-append.ensures.replica) (upgrade_keeps records c.args.self.now.replica before.kept (c.is_none.ensures ∙ ap not c.if-is_none.false) c.if-self.false))
    c.in_ok-append.ensures.stays_open

pub returns-in_err-append-clause-survives : goal.returns-in_err-append-clause-survives
returns-in_err-append-clause-survives g c = λ records before stored.
    let p = err_from_is_err_and c.from_residual.result c.from_residual.ensures.1 in
    rw (p.1, p.2) (survives_one (upgrade (client_of the_profile records)) ClientRecord.Form true records c.args.self.now c.append.new.self _
    (upgrade_is records c.args.self.now.replica before.kept (c.is_none.ensures ∙ ap not c.if-is_none.false) c.if-self.false) c.in_err-append.ensures.appends c.in_err-append.ensures.refused stored)

pub returns-clause-survives : goal.returns-clause-survives
returns-clause-survives g c = λ records before stored.
    survives_one (upgrade (client_of the_profile records)) ClientRecord.Form true records c.args.self.now _ _
    (upgrade_is records c.args.self.now.replica before.kept (c.is_none.ensures ∙ ap not c.if-is_none.false) c.if-self.false) c.in_ok-append.ensures.appends tt stored
