use Rattle.std.proofs.Common.{[], ◌∷◌}
use Rattle.life_bytes.specs.declared.note.Note.TheVariants as notes
use Rattle.marked_client.specs.Marked.{marks_of, begin_notes}
use Rattle.marked_client.proofs.Noting.{notes_both, on_ok}
use Rattle.marked_client.proofs.client.MarkedClient.note_saves.Goals as goal

pub returns-in-Ok-clause-notes : goal.returns-in-Ok-clause-notes
returns-in-Ok-clause-notes g c =
    on_ok c.note.result (notes_both (begin_notes (marks_of c.args.self.now) c.args.life) (notes.Saves c.args.saves ∷ []) c.args.self.now c.begin.new.self c.note.new.self c.in-Ok.ensures.notes) c.note.ensures.notes
