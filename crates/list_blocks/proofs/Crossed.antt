-- Two blocks crossed.
use Rattle.std.proofs.Common.{◌≡◌, ℕ, Bool, List, Option, Some, Ok, refl, sym, ap, ◌∙◌, subst}
use Rattle.sync_data.specs.declared.entry.Stamp.{Stamp}
use Rattle.sync_data.specs.declared.instr.CellName.{CellName}
use Rattle.sync_data.specs.declared.instr.Instr.{Instr}
use Rattle.sync_theory.specs.Lists.{cross, Crossing}
use Rattle.sync_theory.specs.Changesets.{later_stamp}
use Rattle.sync_theory.proofs.Cross.{cross_is}
use Rattle.sync_law.specs.Instrs.{meet}
use Rattle.list_places.specs.declared.moves.ListAction.{ListAction}
use Rattle.list_lane.specs.Lanes.{LaneOf}
use Rattle.list_blocks.specs.Blocks.{slot_actions, acted, block, Tells, CrossesBlock}
use Rattle.list_blocks.proofs.Passing.{actions_tell}

pub blocks_cross : (c : CellName) (own t : Stamp) (is rs : List Instr) (xs ys : List (Option ListAction)) (before after : LaneOf) → Tells c t rs before → CrossesBlock c own is xs before after → ys ≡ slot_actions after.first after.slots
    → cross (λ a b. meet a b (later_stamp own.ms own.ident t.ms t.ident)) is rs ≡ Ok (acted xs is, acted ys rs)
blocks_cross c own t is rs xs ys before after h k e =
    let m = λ (a b : Instr). meet a b (later_stamp own.ms own.ident t.ms t.ident) in
    let right = sym (ap (λ zs. acted zs rs) e ∙ actions_tell c t after.slots rs after.first (k.told t rs h.told)) in
    ap (cross m is) (sym h.same) ∙ cross_is m (k.crosses t rs h.told) ∙ ap (λ l. Ok (acted xs is, l)) right
