use Rattle.std.proofs.Common.{◌≡◌, subst}
use Rattle.std.specs.Prelude.{IfOk}
use Rattle.life_marks.specs.ClientMarks.{Marks, after_made}
use Rattle.marked_client.specs.Marked.{marks_of}
use Rattle.marked_client.proofs.Noting.{faulted, still_client}
use Rattle.marked_client.proofs.client.MarkedClient.make_in.Goals as goal

pub returns-in-Err-clause-does : goal.returns-in-Err-clause-does
returns-in-Err-clause-does g c = λ records k. faulted _ records c.begin.new.self c.in-Err.why c.in-Err.ensures.fault

pub returns-in-Ok-clause-does : goal.returns-in-Ok-clause-does
returns-in-Ok-clause-does g c = λ records k. c.make.ensures.does records (still_client records c.args.self.now c.begin.new.self c.begin.ensures.same c.in-Ok.ensures.open_ k)

pub returns-in-Ok-clause-marks : goal.returns-in-Ok-clause-marks
returns-in-Ok-clause-marks g c = subst (λ (m : Marks). IfOk c.make.result (λ number. marks_of c.make.new.self ≡ after_made m number)) c.in-Ok.ensures.notes.marks c.make.ensures.marks
