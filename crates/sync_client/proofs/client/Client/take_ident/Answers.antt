use Rattle.std.proofs.Common.{◌++◌, ◌∷◌, [], Some, None, refl, sym, subst, arith}
use Rattle.std.proofs.lemmas.Result.{err_from_is_err_and}
use Rattle.sync_model.specs.Clients.{Named, client_of, take_ident}
use Rattle.sync_exchange.specs.Profile.{the_profile}
use Rattle.sync_client.specs.declared.replica.Replica.{Replica}
use Rattle.sync_client.specs.Clients.{JournalAppends}
use Rattle.sync_client.specs.Keeping.{Keeps}
use Rattle.sync_client.proofs.Calls.{did_append}
use Rattle.sync_client.proofs.Surviving.{survives_one}
use Rattle.sync_client.proofs.Taken.{named_keeps, given_ident}
use Rattle.sync_client.proofs.client.Client.take_ident.Goals as goal

pub returns-clause-does : goal.returns-clause-does
returns-clause-does g c = λ records before born.
    did_append (take_ident (client_of the_profile records) c.args.ident) (Named c.args.ident) _ records _
    (given_ident records c.args.self.now.replica c.append.new.self.replica c.args.ident before.kept c.if-self-ne0.false c.in_ok-append.ensures.replica)
    (subst (λ (r : Replica). Keeps (records ++ Named c.args.ident ∷ []) (record r { ident = c.args.ident })) (sym c.in_ok-append.ensures.replica) (named_keeps records c.args.self.now.replica c.args.ident before.kept born c.if-self-ne0.false c.requires.named (omega (arith, c.ranges.ident.fits))))
    c.in_ok-append.ensures.stays_open

pub returns-in_err-append-clause-survives : goal.returns-in_err-append-clause-survives
returns-in_err-append-clause-survives g c = λ records before stored.
    let p = err_from_is_err_and c.from_residual.result c.from_residual.ensures.1 in
    rw (p.1, p.2) (survives_one (take_ident (client_of the_profile records) c.args.ident) (Named c.args.ident) _ records c.args.self.now c.append.new.self _
    (given_ident records c.args.self.now.replica c.args.self.now.replica c.args.ident before.kept c.if-self-ne0.false refl)
    (subst (λ n. JournalAppends (Named n ∷ []) c.args.self.now.journal c.append.new.self.journal (Some c.in_err-append.field-0.0)) c.new.ensures c.in_err-append.ensures.appends) c.in_err-append.ensures.refused stored)

pub returns-clause-survives : goal.returns-clause-survives
returns-clause-survives g c = λ records before stored.
    survives_one (take_ident (client_of the_profile records) c.args.ident) (Named c.args.ident) _ records c.args.self.now _ _
    (given_ident records c.args.self.now.replica c.args.self.now.replica c.args.ident before.kept c.if-self-ne0.false refl)
    (subst (λ n. JournalAppends (Named n ∷ []) c.args.self.now.journal c.append.new.self.journal None) c.new.ensures c.in_ok-append.ensures.appends) tt stored
