use Rattle.std.proofs.Common.{◌≡◌, ◌++◌, map, take}
use Rattle.sync_exchange.specs.Seen.{sent_seen}
use Rattle.sync_changed.specs.Places.{entry_places}
use Rattle.sync_changed.proofs.message.put_entries.Given as goal

-- the places of the entries so far
abbrev pub invariant-loop-entry : goal.invariant-loop-entry
invariant-loop-entry l = l.places.items ≡ l.fn.places.items ++ entry_places l.exact (map sent_seen (take l.entry-index l.entries))
