use Rattle.std.proofs.Common.{◌≡◌, List, Some, Ok, sym, ap, subst, ◌∙◌}
use Rattle.sync_data.specs.declared.instr.Instr.{Instr}
use Rattle.sync_theory.specs.Lists.{cross}
use Rattle.sync_law.specs.Instrs.{meet}
use Rattle.sync_model.specs.Clients.{Unsent}
use Rattle.list_places.specs.Moves.{kind_in, moved_first, shown}
use Rattle.list_places.proofs.Stands.{told_written}
use Rattle.sync_rebase.proofs.unsent.Unsent.stays_apart.Goals as goal

pub returns-clause-told : goal.returns-clause-told
returns-clause-told c = λ told action kind others there later.
    let current = c.written.ensures.stands ∙ ap (λ (u : Unsent Instr). u.current) c.self.view_is in
    let was = c.written.result.now.instrs in
    let same : shown (Some action) was ≡ moved_first action c.args.self.now.current =
    sym (told_written action c.written.ensures.action was (ap kind_in current ∙ kind)) ∙ ap (moved_first action) current
    in
    subst (λ (x : List Instr). cross (λ a b. meet a b later) x others ≡ Ok (x, others)) same (c.stays_apart.ensures.left told (Some action) others there later)
