use Rattle.marked_client.proofs.Noting.{faulted}
use Rattle.marked_client.proofs.client.MarkedClient.take_ident.Goals as goal

pub returns-in-Err : goal.returns-in-Err
returns-in-Err g c = record { does = λ records k. faulted _ records c.note.new.self c.in-Err.why c.in-Err.ensures.fault }
