use Rattle.std.proofs.Common.{List, ℕ, subst}
use Rattle.std.specs.Result.{OnOk}
use Rattle.sync_data.specs.declared.instr.Instr.{Instr}
use Rattle.sync_gen.specs.declared.turns.TurnKind.TheVariants as kinds
use Rattle.sync_model.specs.Worlds.{Event, empty_world}
use Rattle.gen_law.specs.Generated.{world_by}
use Rattle.sync_top.specs.Playing.{Plays}
use Rattle.sync_top.proofs.Steps.{turned_is}
use Rattle.sync_top.proofs.progress.Progress.turn.Goals as goal

pub returns-in-Restart : goal.returns-in-Restart
returns-in-Restart c = λ es small goes.
    subst (λ (made : List (Event Instr) × ℕ). OnOk c.restart.result (Plays made es c.restart.new.self c.restart.new.world))
    (turned_is c.args.number c.args.self.now.draws c.turn-turn.new.self c.turn-turn.result kinds.Restart (world_by empty_world es) c.turn-turn.ensures.turn c.turn-turn.ensures.state c.in-Restart.is)
    (c.restart.ensures es small goes)

pub returns-in-Edit : goal.returns-in-Edit
returns-in-Edit c = λ es small goes.
    subst (λ (made : List (Event Instr) × ℕ). OnOk c.edit.result (Plays made es c.edit.new.self c.edit.new.world))
    (turned_is c.args.number c.args.self.now.draws c.turn-turn.new.self c.turn-turn.result (kinds.Edit c.in-Edit.ms) (world_by empty_world es) c.turn-turn.ensures.turn c.turn-turn.ensures.state c.in-Edit.is)
    (c.edit.ensures es small goes)

pub returns-in-Push : goal.returns-in-Push
returns-in-Push c = λ es small goes.
    subst (λ (made : List (Event Instr) × ℕ). OnOk c.push.result (Plays made es c.push.new.self c.push.new.world))
    (turned_is c.args.number c.args.self.now.draws c.turn-turn.new.self c.turn-turn.result kinds.Push (world_by empty_world es) c.turn-turn.ensures.turn c.turn-turn.ensures.state c.in-Push.is)
    (c.push.ensures es small goes)

pub returns-in-Pull : goal.returns-in-Pull
returns-in-Pull c = λ es small goes.
    subst (λ (made : List (Event Instr) × ℕ). OnOk c.pull.result (Plays made es c.pull.new.self c.pull.new.world))
    (turned_is c.args.number c.args.self.now.draws c.turn-turn.new.self c.turn-turn.result kinds.Pull (world_by empty_world es) c.turn-turn.ensures.turn c.turn-turn.ensures.state c.in-Pull.is)
    (c.pull.ensures es small goes)
