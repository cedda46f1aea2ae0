use Rattle.std.proofs.Common.{◌∷◌, [], Some, None, ◌∙◌, subst}
use Rattle.std.proofs.lemmas.Result.{err_from_is_err_and}
use Rattle.sync_model.specs.Clients.{ClientRecord}
use Rattle.sync_client.specs.Clients.{JournalAppends}
use Rattle.sync_client.proofs.client.Client.append_made.Goals as goal

pub returns-clause-appends : goal.returns-clause-appends
returns-clause-appends g c =
    subst (λ b. JournalAppends (ClientRecord.Made c.args.made.number c.args.ms b ∷ []) c.args.self.now.journal c.append.new.self.journal None) (c.in-Ok.ensures.equal ∙ c.as_slice.ensures.value) c.in_ok-append.ensures.appends

pub returns-in_err-append-clause-appends : goal.returns-in_err-append-clause-appends
returns-in_err-append-clause-appends g c =
    let p = err_from_is_err_and c.from_residual.result c.from_residual.ensures.1 in
    rw (p.1, p.2) (subst (λ b. JournalAppends (ClientRecord.Made c.args.made.number c.args.ms b ∷ []) c.args.self.now.journal c.append.new.self.journal (Some c.in_err-append.field-0.0)) (c.in-Ok.ensures.equal ∙ c.as_slice.ensures.value) c.in_err-append.ensures.appends)
