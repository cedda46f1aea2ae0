use Rattle.std.proofs.Common.{◌≡◌, List, ℕ, IfOk, Result, Ok, Err, sym, ◌∙◌}
use Rattle.sync_journal.specs.Records.{noted_of}
use Rattle.sync_journal.specs.Records.Reading.{Good}
use Rattle.sync_journal.proofs.journal.Journal.pieces.Goals as goal

same_pieces : {a b : List (List ℕ)} → Good a ≡ Good b → a ≡ b
same_pieces e = cc

read_are : {E : Type 0} (r : Result (List (List ℕ)) E) (file : List ℕ) (pieces : List (List ℕ)) → IfOk r (λ read. noted_of file ≡ Good read) → noted_of file ≡ Good pieces → IfOk r (λ read. read ≡ pieces)
read_are (Ok read) file pieces is reads = same_pieces (sym is ∙ reads)
read_are (Err e) file pieces is reads = tt

pub returns-clause-read : goal.returns-clause-read
returns-clause-read g c pieces s = read_are c.read_pieces.result s.settled.file pieces (c.read_pieces.ensures.good s.settled.file s.settled.told) s.settled.reads
