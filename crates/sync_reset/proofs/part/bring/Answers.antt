use Rattle.std.proofs.Common.{List, ap, ◌∙◌, sym}
use Rattle.sync_data.specs.declared.instr.Instr.{Instr}
use Rattle.sync_base.specs.Checks.{act_all}
use Rattle.sync_base.specs.Effects.{ObjectName}
use Rattle.sync_maps.specs.Answers.{then_ok}
use Rattle.sync_reset.proofs.Brought.{brought}
use Rattle.sync_reset.proofs.part.bring.Goals as goal

pub returns-clause-part : goal.returns-clause-part
returns-clause-part c =
    let s = c.args.objects.now in
    let o : ObjectName = (c.args.table.now, c.args.key.now) in
    then_ok c.apply_all.result (λ acts.
    (brought s c.args.part.now c.apply_all.new.part c.keeps_its_limits.ensures.state c.requires.part o (sym c.if-has.ensures) (sym c.if-not-has.ensures)
    (ap (λ (is : List Instr). act_all is c.args.part.now) (sym c.in_ok-made.ensures.made) ∙ acts)).part) c.apply_all.ensures

pub returns-clause-brought : goal.returns-clause-brought
returns-clause-brought c =
    let s = c.args.objects.now in
    let o : ObjectName = (c.args.table.now, c.args.key.now) in
    then_ok c.apply_all.result (λ acts.
    (brought s c.args.part.now c.apply_all.new.part c.keeps_its_limits.ensures.state c.requires.part o (sym c.if-has.ensures) (sym c.if-not-has.ensures)
    (ap (λ (is : List Instr). act_all is c.args.part.now) (sym c.in_ok-made.ensures.made) ∙ acts)).here) c.apply_all.ensures

pub returns-clause-others : goal.returns-clause-others
returns-clause-others c =
    let s = c.args.objects.now in
    let o : ObjectName = (c.args.table.now, c.args.key.now) in
    then_ok c.apply_all.result (λ acts.
    (brought s c.args.part.now c.apply_all.new.part c.keeps_its_limits.ensures.state c.requires.part o (sym c.if-has.ensures) (sym c.if-not-has.ensures)
    (ap (λ (is : List Instr). act_all is c.args.part.now) (sym c.in_ok-made.ensures.made) ∙ acts)).others) c.apply_all.ensures
