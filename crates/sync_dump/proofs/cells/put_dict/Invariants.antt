use Rattle.std.proofs.Common.{◌≡◌, ◌∷◌, ◌++◌}
use Rattle.json.specs.Token.{begin_object}
use Rattle.json.specs.Tree.{members_tokens}
use Rattle.serde_json.specs.Written.{members_outline}
use Rattle.sync_dump.specs.Dump.{bindings_of}
use Rattle.sync_dump.proofs.cells.put_dict.Given as goal

-- the tokens so far, and those of the bindings that are left
abbrev pub invariant-loop-key : goal.invariant-loop-key
invariant-loop-key l =
    (l.writer.tokens ++ members_tokens (members_outline (bindings_of l.store l.key-iterator)) ≡ l.fn.writer.tokens ++ begin_object ∷ members_tokens (members_outline (bindings_of l.store l.dict.entries)))
    × (l.writer.before ≡ l.fn.writer.before)
