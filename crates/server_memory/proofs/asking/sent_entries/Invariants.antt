use Rattle.std.proofs.Common.{◌≡◌, ◌+◌, ◌-◌, ◌≤◌, ◌++◌, length, map, drop}
use Rattle.std.specs.Option.{option_copied}
use Rattle.sync_recip.specs.Lists.{entry_of}
use Rattle.sync_messages.specs.Parts.{bytes_of_entries}
use Rattle.sync_model.specs.Profile.{fitting}
use Rattle.sync_model.specs.Servers.{sent_of}
use Rattle.sync_exchange.specs.Profile.{the_profile}
use Rattle.sync_exchange.specs.Seen.{sent_seen}
use Rattle.server_memory.specs.Sending.{given_to, sendable, shown, size_of}
use Rattle.server_memory.proofs.asking.sent_entries.Given as goal

-- what was sent, and what the rest gives, is what all gives
abbrev pub invariant-loop-shared : goal.invariant-loop-shared
invariant-loop-shared l = record {
  sent : map sent_seen l.sent.items ++ fitting size_of (4096 - length l.sent.items) l.room (map (sent_of the_profile) (shown l.second (given_to (option_copied l.tables) (map entry_of (drop l.shared-index l.entries))))) ≡ sendable l.second (given_to (option_copied l.tables) (map entry_of l.entries));
  few : length l.sent.items ≤ 4096;
  bytes : bytes_of_entries l.sent.items + l.room ≡ 16777216;
  short : length l.sent.items ≤ l.shared-index;
}
