use Rattle.std.proofs.Common.{ℕ, sym, subst}
use Rattle.sync_model.specs.Clients.{ClientStep}
use Rattle.sync_client.specs.Clients.{Says, Survives}
use Rattle.sync_client.proofs.Downloads.{download_is}
use Rattle.sync_client.proofs.client.Client.take_download.Goals as goal

pub returns-clause-does : goal.returns-clause-does
returns-clause-does g c = λ records before id.
    let is = download_is records c.args.self.now.replica c.ident.result c.from.result c.args.download.now.from c.from-2.result c.args.download.now.entries c.entries.result.now c.behind.result.now id before.kept c.if-ident-self.false c.if-self-from.false c.from.ensures.value c.from-2.ensures.value c.entries.ensures.value c.behind.ensures c.args.download.now.ident c.ident.ensures.value in
    subst (λ (did : ClientStep ℕ). Says did records c.take_all.new.self c.take_all.result) (sym is) (c.take_all.ensures.does records before)

pub returns-clause-survives : goal.returns-clause-survives
returns-clause-survives g c = λ records before stored id.
    let is = download_is records c.args.self.now.replica c.ident.result c.from.result c.args.download.now.from c.from-2.result c.args.download.now.entries c.entries.result.now c.behind.result.now id before.kept c.if-ident-self.false c.if-self-from.false c.from.ensures.value c.from-2.ensures.value c.entries.ensures.value c.behind.ensures c.args.download.now.ident c.ident.ensures.value in
    subst (λ (did : ClientStep ℕ). Survives did records c.args.self.now c.take_all.new.self c.take_all.result) (sym is) (c.take_all.ensures.survives records before stored)
