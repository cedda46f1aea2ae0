use Rattle.std.proofs.Common.{sym, ◌∙◌, arith}
use Rattle.sync_journal.proofs.Files.{more_or}
use Rattle.sync_journal.proofs.bytes.JournalBytes.put.Goals as goal

pub returns-clause-put : goal.returns-clause-put
returns-clause-put c = λ records so_far.
    let short = c.if-bytes-gt-LONGEST.false in
    more_or c.put_behind_gate.result records c.args.bytes.now c.args.self.now (record { out = c.put_behind_gate.new.out }) so_far (omega (arith, short)) (sym c.is_note.ensures ∙ c.if-is_note.false) c.put_behind_gate.ensures.put
