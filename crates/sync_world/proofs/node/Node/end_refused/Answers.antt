use Rattle.std.proofs.Common.{List, Option, Err, ◌++◌, sym, ◌∙◌, subst}
use Rattle.sync_model.specs.Clients.{ClientRecord, ClientRefusal}
use Rattle.sync_client.specs.Clients.{Did, IsStored}
use Rattle.sync_client.specs.Refusals.{IfSeen}
use Rattle.sync_world.specs.Calls.{CallEnds}
use Rattle.sync_world.specs.declared.node.Called.TheVariants as called
use Rattle.sync_world.proofs.Calls.{seen_else}
use Rattle.sync_world.proofs.node.Node.end_refused.Goals as goal

pub returns-clause-ends : goal.returns-clause-ends
returns-clause-ends g c did records stand after reads =
    let seen = seen_else c.args.refusal (sym c.is_lost.ensures ∙ c.if-is_lost.false) (sym c.is_cut.ensures ∙ c.if-is_cut.false) in
    let whole = after.whole seen in
    let did_so = subst (λ (o : Option ClientRefusal). IfSeen o (λ w. Did did (Err w) records c.args.self.now.client)) seen.1 after.says in
    let stored = subst (λ (o : Option ClientRefusal). IfSeen o (λ w. IsStored (records ++ did.records) c.args.self.now.client)) seen.1 after.stores in
    subst (λ (s : Option (List ClientRecord)). CallEnds did records s (called.Declined c.args.refusal) c.disarm.new.self) (sym whole.0)
    (record { said = (seen.0, seen.1, did_so.answer_is); client = c.disarm.ensures.client (records ++ did.records) did_so.client stored after.listed })
