use Rattle.marked_client.proofs.Entries.{entry_faulted}
use Rattle.marked_client.proofs.Noting.{still_client}
use Rattle.marked_client.proofs.client.MarkedClient.take_entry.Goals as goal

pub returns-in-Err : goal.returns-in-Err
returns-in-Err g c = record { does = λ records k next. entry_faulted records c.note_entry.new.self _ c.in-Err.why c.in-Err.ensures.fault }

pub returns-in-Ok : goal.returns-in-Ok
returns-in-Ok g c = record { does = λ records k next. c.take_one.ensures.does records (still_client records c.args.self.now c.note_entry.new.self c.note_entry.ensures.same c.in-Ok.ensures.open_ k) next }
