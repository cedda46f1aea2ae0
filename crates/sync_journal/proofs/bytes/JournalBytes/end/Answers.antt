use Rattle.sync_journal.proofs.Files.{are_file}
use Rattle.sync_journal.proofs.bytes.JournalBytes.end.Goals as goal

pub returns : goal.returns
returns c = λ records so_far. are_file records c.args.self c.push.new.self.items so_far c.in_ok-push.ensures.items
