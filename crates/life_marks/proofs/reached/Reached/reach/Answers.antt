use Rattle.std.proofs.Common.{sym, ◌∙◌}
use mathlib.Core.Path.{fun_ext}
use Rattle.life_marks.specs.Reached.{number_of}
use Rattle.life_marks.proofs.Raising.{is_there, is_put_as}
use Rattle.life_marks.proofs.reached.Reached.reach.Goals as goal

pub returns-then-has-clause-ok : goal.returns-then-has-clause-ok
returns-then-has-clause-ok c = fun_ext (λ life. is_there c.args.token (number_of c.args.self.now) life (sym c.has.ensures ∙ c.if-has.true))

pub returns-in-Ok-clause-ok : goal.returns-in-Ok-clause-ok
returns-in-Ok-clause-ok c = fun_ext (λ life. is_put_as c.args.self.now.numbers c.insert.new.self c.args.token c.bytes.result c.number.result life (c.bytes.ensures.value ∙ c.life.ensures) c.number.ensures.value (sym c.has.ensures ∙ c.if-has.false) (c.in-Ok.ensures.updates.0 life))
