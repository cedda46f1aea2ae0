use Rattle.std.proofs.Common.{◌≡◌, List, subst, sym, ◌∙◌}
use Rattle.std.specs.Prelude.{IfOk}
use Rattle.life_bytes.specs.declared.note.Note.{Note}
use Rattle.life_marks.specs.ClientMarks.{after_made}
use Rattle.marked_client.specs.Marked.{after_notes, life_of, marks_of}
use Rattle.marked_client.proofs.Noting.{no_notes}
use Rattle.marked_client.proofs.client.MarkedClient.commit.Goals as goal

pub returns-clause-marks : goal.returns-clause-marks
returns-clause-marks g c =
    subst (λ (ns : List Note). IfOk c.make.result (λ number. marks_of c.make.new.self ≡ after_made (after_notes (marks_of c.args.self.now) ns) number))
    (sym (no_notes (marks_of c.args.self.now) (life_of c.args.self.now) (sym c.has_lives.ensures ∙ c.if-has_lives.false))) c.make.ensures.marks
