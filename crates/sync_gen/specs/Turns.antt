-- The turns of a generated exchange.
use Rattle.std.specs.Prelude.{ℕ, ◌+◌, ◌==◌, if◌then◌else◌, nat_le}
use Rattle.sync_gen.specs.declared.turns.Turn.{Turn}
use Rattle.sync_gen.specs.declared.turns.TurnKind.{TurnKind}
use Rattle.sync_gen.specs.declared.turns.TurnKind.TheVariants as kinds
use Rattle.sync_gen.specs.Draws.{Drawing, draw, given, and_then}

-- by w, of a thousand turns one is a restart, 624 are edits, 188 are pushes, and the others are pulls
abbrev pub kind_by : ℕ → ℕ → Drawing TurnKind
kind_by turn w =
    if w == 0 then given kinds.Restart
    else if nat_le w 624 then and_then (draw 50) (λ delay. given (kinds.Edit (1000 + turn + delay)))
    else if nat_le w 812 then given kinds.Push
    else given kinds.Pull

abbrev pub kind_of : ℕ → Drawing TurnKind
kind_of turn = and_then (draw 1000) (kind_by turn)

-- the turn of this number: one of eight clients, and what it does
abbrev pub turn_of : ℕ → Drawing Turn
turn_of turn = and_then (draw 8) (λ client. and_then (kind_of turn) (λ kind. given (record { client = client + 1; kind = kind })))
