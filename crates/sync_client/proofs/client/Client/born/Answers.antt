use Rattle.std.proofs.Common.{◌++◌, ◌∷◌, [], Some, sym, subst, ◌∙◌}
use Rattle.std.proofs.lemmas.Result.{err_from_is_err_and}
use Rattle.sync_model.specs.Clients.{Born, born, client_of}
use Rattle.sync_exchange.specs.Profile.{the_profile}
use Rattle.sync_client.specs.declared.replica.Replica.{Replica}
use Rattle.sync_client.specs.Keeping.{Keeps}
use Rattle.sync_client.proofs.Calls.{born_is, born_keeps, did_append}
use Rattle.sync_client.proofs.Surviving.{survives_one}
use Rattle.sync_client.proofs.client.Client.born.Goals as goal

pub returns-clause-does : goal.returns-clause-does
returns-clause-does g c = λ records before.
    did_append (born (client_of the_profile records) c.args.id) (Born c.args.id) _ records _
    (born_is records c.args.self.now.replica c.args.id before.kept (sym c.is_some.ensures ∙ c.if-is_some.false))
    (subst (λ (r : Replica). Keeps (records ++ Born c.args.id ∷ []) (record r { id = Some c.args.id })) (sym c.in_ok-append.ensures.replica) (born_keeps records c.args.self.now.replica c.args.id before.kept (sym c.is_some.ensures ∙ c.if-is_some.false)))
    c.in_ok-append.ensures.stays_open

pub returns-in_err-append-clause-survives : goal.returns-in_err-append-clause-survives
returns-in_err-append-clause-survives g c = λ records before stored.
    let p = err_from_is_err_and c.from_residual.result c.from_residual.ensures.1 in
    rw (p.1, p.2) (survives_one (born (client_of the_profile records) c.args.id) (Born c.args.id) _ records c.args.self.now c.append.new.self _
    (born_is records c.args.self.now.replica c.args.id before.kept (sym c.is_some.ensures ∙ c.if-is_some.false)) c.in_err-append.ensures.appends c.in_err-append.ensures.refused stored)

pub returns-clause-survives : goal.returns-clause-survives
returns-clause-survives g c = λ records before stored.
    survives_one (born (client_of the_profile records) c.args.id) (Born c.args.id) _ records c.args.self.now _ _
    (born_is records c.args.self.now.replica c.args.id before.kept (sym c.is_some.ensures ∙ c.if-is_some.false)) c.in_ok-append.ensures.appends tt stored
