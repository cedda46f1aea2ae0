use Rattle.std.proofs.Common.{◌≡◌, sym, subst}
use Rattle.std.specs.Prelude.{OnOk}
use Rattle.life_marks.specs.ClientMarks.{seen, after_record}
use Rattle.life_marks.proofs.client_marks.ClientMarks.take_record.Goals as goal

pub returns-in-Made : goal.returns-in-Made
returns-in-Made c = subst (λ r. OnOk c.take_made.result (seen c.take_made.new.self ≡ after_record (seen c.args.self.now) r)) (sym c.in-Made.is) c.take_made.ensures
