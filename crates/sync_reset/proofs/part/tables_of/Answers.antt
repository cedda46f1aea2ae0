use Rattle.std.proofs.Common.{◌≡◌, sym, ◌∙◌}
use Rattle.sync_base.specs.Checks.{act_all}
use Rattle.sync_base.specs.States.{no_state}
use Rattle.sync_reset.proofs.Brought.{tables_part}
use Rattle.sync_reset.proofs.part.tables_of.Goals as goal

pub returns : goal.returns
returns c =
    let empty : c.in_ok-part.part ≡ no_state = cc c.in_ok-part.ensures.empty in
    tables_part c.args.objects.now c.apply_all.new.part c.keeps_its_limits.ensures.state
    ((λ i. act_all (sym c.in_ok-schema_instrs.ensures.made i) (sym empty i)) ∙ c.in_ok-apply_all.ensures)
