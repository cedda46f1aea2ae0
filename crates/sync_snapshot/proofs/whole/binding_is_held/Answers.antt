use Rattle.std.proofs.Common.{◌≤◌, Option, sym, subst}
use Rattle.sync_data.specs.Payload.{payload}
use Rattle.sync_data.specs.declared.value.Value.{Value}
use Rattle.sync_data.specs.declared.instr.Instr.TheVariants as instrs
use Rattle.sync_exchange.specs.Profile.{weight}
use Rattle.sync_snapshot.proofs.Held.{bind_light}
use Rattle.sync_snapshot.proofs.whole.binding_is_held.Goals as goal

pub returns-in-Some : goal.returns-in-Some
returns-in-Some c =
    let i = c.args.instr.now in λ _.
    subst (λ (v : Option Value). weight (instrs.DictUpdate (record { cell = i.cell; at = i.at; value = v })) ≤ 4194304) (sym c.in-Some.is)
    (bind_light i.cell i.at c.in-Some.value c.cell_is_held.ensures c.text_is_held.ensures c.value_is_held.ensures.value c.value_is_held.ensures.strings
    (subst (λ (v : Option Value). payload (instrs.DictUpdate (record { cell = i.cell; at = i.at; value = v })) ≤ 4194304) c.in-Some.is c.requires.small))
