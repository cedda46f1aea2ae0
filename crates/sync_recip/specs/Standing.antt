-- What an entry's changes are now.
use Rattle.std.specs.Prelude.{Bool, true, false, [], Option}
use Rattle.sync_data.specs.Payload.{Changes}
use Rattle.list_places.specs.Moves.{shown_changes}
use Rattle.list_places.specs.declared.moves.ListAction.{ListAction}

-- none where they fell; else they are shown by an action, or as they are
abbrev pub stood : Bool → Option ListAction → Changes → Changes
stood true a c = record { ms = c.ms; instrs = [] }
stood false a c = shown_changes a c
