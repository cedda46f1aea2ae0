use Rattle.std.proofs.Common.{◌++◌, ◌∷◌, [], Some, None, refl, not, ap, sym, subst, ◌∙◌}
use Rattle.std.proofs.lemmas.Result.{err_from_is_err_and}
use Rattle.sync_model.specs.Clients.{ClientRecord, client_of, subscribe}
use Rattle.sync_exchange.specs.Profile.{the_profile}
use Rattle.sync_client.specs.declared.replica.Replica.{Replica}
use Rattle.sync_client.specs.Keeping.{Keeps}
use Rattle.sync_client.specs.declared.refusal.ClientRefusal.TheVariants as codes
use Rattle.sync_client.specs.Clients.{JournalAppends}
use Rattle.sync_client.proofs.Calls.{did_append, late_is, plain_disk, subscribe_is, subscribe_keeps}
use Rattle.sync_client.proofs.Surviving.{survives_one, survives_refused}
use Rattle.sync_client.proofs.client.Client.subscribe.Goals as goal

pub returns-clause-does : goal.returns-clause-does
returns-clause-does g c = λ records before.
    did_append (subscribe (client_of the_profile records) c.args.tables) (ClientRecord.Subset c.args.tables) _ records _
    (subscribe_is records c.args.self.now.replica c.args.tables before.kept (c.is_none.ensures ∙ ap not c.if-is_none.false) (sym c.is_some.ensures ∙ c.if-is_some.false) (sym (c.is_late.ensures before.kept.past before.kept.count) ∙ c.if-is_late.false))
    (subst (λ (r : Replica). Keeps (records ++ ClientRecord.Subset c.args.tables ∷ []) (record r { subset = Some c.args.tables })) (sym c.in_ok-append.ensures.replica) (subscribe_keeps records c.args.self.now.replica c.args.tables before.kept (c.is_none.ensures ∙ ap not c.if-is_none.false) (sym c.is_some.ensures ∙ c.if-is_some.false) (sym (c.is_late.ensures before.kept.past before.kept.count) ∙ c.if-is_late.false)))
    c.in_ok-append.ensures.stays_open

pub returns-then-is_late-clause-survives : goal.returns-then-is_late-clause-survives
returns-then-is_late-clause-survives g c = λ records before stored.
    let late = late_is records c.args.self.now.replica c.args.tables before.kept (c.is_none.ensures ∙ ap not c.if-is_none.false) (sym c.is_some.ensures ∙ c.if-is_some.false) (sym (c.is_late.ensures before.kept.past before.kept.count) ∙ c.if-is_late.true) in
    survives_refused (subscribe (client_of the_profile records) c.args.tables) codes.TooLate records c.args.self.now _ g.met.D.Disk.only_now tt (ap (λ d. d.records) late) refl refl stored

pub returns-in_err-append-clause-survives : goal.returns-in_err-append-clause-survives
returns-in_err-append-clause-survives g c = λ records before stored.
    let p = err_from_is_err_and c.from_residual.result c.from_residual.ensures.1 in
    rw (p.1, p.2) (survives_one (subscribe (client_of the_profile records) c.args.tables) (ClientRecord.Subset c.args.tables) _ records c.args.self.now c.append.new.self _
    (subscribe_is records c.args.self.now.replica c.args.tables before.kept (c.is_none.ensures ∙ ap not c.if-is_none.false) (sym c.is_some.ensures ∙ c.if-is_some.false) (sym (c.is_late.ensures before.kept.past before.kept.count) ∙ c.if-is_late.false))
    (subst (λ t. JournalAppends (ClientRecord.Subset t ∷ []) c.args.self.now.journal c.append.new.self.journal (Some c.in_err-append.field-0.0)) c.in-Ok.ensures.equal c.in_err-append.ensures.appends) c.in_err-append.ensures.refused stored)

pub returns-clause-survives : goal.returns-clause-survives
returns-clause-survives g c = λ records before stored.
    survives_one (subscribe (client_of the_profile records) c.args.tables) (ClientRecord.Subset c.args.tables) _ records c.args.self.now _ _
    (subscribe_is records c.args.self.now.replica c.args.tables before.kept (c.is_none.ensures ∙ ap not c.if-is_none.false) (sym c.is_some.ensures ∙ c.if-is_some.false) (sym (c.is_late.ensures before.kept.past before.kept.count) ∙ c.if-is_late.false))
    (subst (λ t. JournalAppends (ClientRecord.Subset t ∷ []) c.args.self.now.journal c.append.new.self.journal None) c.in-Ok.ensures.equal c.in_ok-append.ensures.appends) tt stored

pub returns-in_default-clause-disk : goal.returns-in_default-clause-disk
returns-in_default-clause-disk g c = plain_disk (Unit {0}) c.args.self.now (record c.args.self.now { journal = c.close.new.self }) codes.NoMemory codes.NoMemory refl tt c.close.ensures.disk
