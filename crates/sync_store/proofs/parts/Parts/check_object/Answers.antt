use Rattle.std.proofs.Common.{[], sym, ap}
use Rattle.sync_store.specs.Asking.{verdict}
use Rattle.sync_store.proofs.parts.Parts.check_object.Goals as goal

pub returns-in-Ok : goal.returns-in-Ok
returns-in-Ok c = sym (ap verdict (c.in-Ok.ensures.passed []))

pub returns-in-Err : goal.returns-in-Err
returns-in-Err c = sym (ap verdict (c.in-Err.ensures.cause []))
