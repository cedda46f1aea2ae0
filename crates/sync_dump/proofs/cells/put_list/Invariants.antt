use Rattle.std.proofs.Common.{◌≡◌, ◌-◌, ◌≤◌, ◌∷◌, ◌++◌, length, drop}
use Rattle.json.specs.Token.{begin_array}
use Rattle.sync_dump.specs.Tokens.{tokens_of_items}
use Rattle.sync_dump.proofs.cells.put_list.Given as goal

-- the tokens so far, and those of the values that are left
abbrev pub invariant-loop-place : goal.invariant-loop-place
invariant-loop-place l =
    (l.writer.tokens ++ tokens_of_items l.store (drop l.place l.list) ≡ l.fn.writer.tokens ++ begin_array ∷ tokens_of_items l.store l.list)
    × (l.writer.before ≡ l.fn.writer.before) × (l.place ≤ length l.list)

abbrev pub decreases-loop-place : goal.decreases-loop-place
decreases-loop-place l = length l.list - l.place
