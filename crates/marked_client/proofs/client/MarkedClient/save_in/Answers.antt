use Rattle.marked_client.proofs.Noting.{still_client, still_refused}
use Rattle.marked_client.proofs.client.MarkedClient.save_in.Goals as goal

pub returns-in-Ok-forget_saves-clause-does : goal.returns-in-Ok-forget_saves-clause-does
returns-in-Ok-forget_saves-clause-does g c = λ records k.
    still_refused _ records c.make.new.self c.forget_saves.new.self c.in-Err-make.why c.forget_saves.ensures.same c.in-Ok-forget_saves.ensures.open_
    (c.in-Err-make.ensures.does records (still_client records c.args.self.now c.note_saves.new.self c.note_saves.ensures.same c.in-Ok.ensures.open_ k))
