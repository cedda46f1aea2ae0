use Rattle.std.proofs.Common.{Some, None, map, sym, ◌∙◌, subst}
use Rattle.std.proofs.lemmas.Result.{err_from_is_err_and}
use Rattle.sync_exchange.specs.Profile.{the_profile}
use Rattle.sync_model.specs.Servers.{place_of}
use Rattle.server_memory.specs.Kept.{parts}
use Rattle.sync_server.specs.Serving.{JournalAppends}
use Rattle.server_memory.proofs.Idents.{bind_records}
use Rattle.sync_server.proofs.server.Server.take_bind.Goals as goal

pub returns-clause-appends : goal.returns-clause-appends
returns-clause-appends g c =
    let kept = c.args.self.now.kept in
    let place = place_of c.args.uuid (map (λ d. d.uuid) kept.history.idents) in
    let one = bind_records the_profile (parts kept) c.args.uuid place (sym c.ident_of.ensures ∙ c.in_default.is) (λ e. c.if-given.false (c.given-given.ensures ∙ e)) in
    subst (λ l. JournalAppends l c.args.self.now.journal c.append.new.self.journal None) (sym one) c.in_ok-append.ensures.appends

pub returns-in_err-append-clause-appends : goal.returns-in_err-append-clause-appends
returns-in_err-append-clause-appends g c =
    let p = err_from_is_err_and c.from_residual.result c.from_residual.ensures.1 in
    let kept = c.args.self.now.kept in
    let place = place_of c.args.uuid (map (λ d. d.uuid) kept.history.idents) in
    let one = bind_records the_profile (parts kept) c.args.uuid place (sym c.ident_of.ensures ∙ c.in_default.is) (λ e. c.if-given.false (c.given-given.ensures ∙ e)) in
    rw (p.1, p.2) (subst (λ l. JournalAppends l c.args.self.now.journal c.append.new.self.journal (Some c.in_err-append.field-0.0)) (sym one) c.in_err-append.ensures.appends)
