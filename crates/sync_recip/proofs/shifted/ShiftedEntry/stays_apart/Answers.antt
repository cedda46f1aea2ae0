use Rattle.std.proofs.Common.{◌≡◌, List, [], Some, Ok, sym, ap, subst, ◌∙◌}
use Rattle.sync_data.specs.declared.entry.Entry.{Entry}
use Rattle.sync_data.specs.declared.instr.Instr.{Instr}
use Rattle.sync_theory.specs.Lists.{cross}
use Rattle.sync_law.specs.Instrs.{meet}
use Rattle.list_places.specs.Moves.{kind_in, moved_first, shown}
use Rattle.sync_recip.specs.Standing.{stood}
use Rattle.list_places.proofs.Stands.{told_written}
use Rattle.sync_recip.proofs.Standing.{none_crossed}
use Rattle.sync_recip.proofs.shifted.ShiftedEntry.stays_apart.Goals as goal

pub returns-then-self-clause-own : goal.returns-then-self-clause-own
returns-then-self-clause-own c = λ told others there later.
    let fallen : [] ≡ c.args.self.now.changes.instrs =
    ap (λ f. (stood f c.self.inside.action c.self.inside.shared.changes).instrs) (sym c.if-self.true) ∙ ap (λ (e : Entry). e.changes.instrs) c.self.view_is
    in
    subst (λ (x : List Instr). cross (λ a b. meet a b later) others x ≡ Ok (others, x)) fallen (none_crossed (λ a b. meet a b later) others)

pub returns-clause-told : goal.returns-clause-told
returns-clause-told c = λ told action kind others there later.
    let was = c.entry.result.now.changes.instrs in
    let current : shown c.self.inside.action was ≡ c.args.self.now.changes.instrs =
    ap (λ (e : Entry). shown c.self.inside.action e.changes.instrs) c.entry.ensures
    ∙ ap (λ f. (stood f c.self.inside.action c.self.inside.shared.changes).instrs) (sym c.if-self.false) ∙ ap (λ (e : Entry). e.changes.instrs) c.self.view_is
    in
    let same : shown (Some action) was ≡ moved_first action c.args.self.now.changes.instrs =
    sym (told_written action c.self.inside.action was (ap kind_in current ∙ kind)) ∙ ap (moved_first action) current
    in
    subst (λ (x : List Instr). cross (λ a b. meet a b later) others x ≡ Ok (others, x)) same (c.stays_apart.ensures.right told (Some action) others there later)
