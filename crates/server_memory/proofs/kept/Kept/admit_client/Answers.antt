use Rattle.std.proofs.Common.{ap, sym, ◌∙◌}
use Rattle.std.specs.Option.{is_some}
use Rattle.server_memory.specs.Kept.{parts}
use Rattle.server_memory.specs.declared.history.History.{History}
use Rattle.server_memory.proofs.Admitting.{client_admitted, client_full, client_known}
use Rattle.server_memory.proofs.kept.Kept.admit_client.Goals as goal

pub returns-then-is_some : goal.returns-then-is_some
returns-then-is_some c = client_known c.args.self.now c.args.id (sym (ap is_some c.ident_of.ensures) ∙ sym c.is_some.ensures ∙ c.if-is_some.true)

pub returns-then-given : goal.returns-then-given
returns-then-given c = client_full c.args.self.now c.args.id (sym c.given.ensures ∙ c.if-given.true)

pub returns : goal.returns
returns c =
    client_admitted c.args.self.now (record c.args.self.now { history = c.bind.new.self }) c.args.id (sym (ap is_some c.ident_of.ensures) ∙ sym c.is_some.ensures ∙ c.if-is_some.false) (λ e. c.if-given.false (c.given.ensures ∙ e))
    (ap (λ (h : History). parts (record c.args.self.now { history = h })) c.in_ok-bind.ensures.bound)
