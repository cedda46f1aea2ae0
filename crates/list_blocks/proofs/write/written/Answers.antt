use Rattle.std.proofs.Common.{◌≡◌, ◌++◌, length, append-nil, take, drop, sym, ap, ◌∙◌, subst, arith}
use Rattle.std.proofs.lemmas.List.{take_all, drop_all}
use Rattle.sync_data.specs.Payload.{IsSmall}
use Rattle.list_blocks.specs.Blocks.{acted}
use Rattle.list_blocks.proofs.Writing.{still_small}
use Rattle.list_blocks.proofs.write.written.Goals as goal

pub unwrap-requires : goal.unwrap-requires
unwrap-requires c =
    let items = c.into_instrs-instrs.result.items in
    let new = c.write_all-count.new.instrs in
    let len = c.into_instrs-instrs.result.len in
    let same : length new ≡ length items = omega (arith, c.write_all-count.auto.instrs, ap length c.deref_mut.ensures.value) in
    let small = still_small c.args.actions.now c.args.changes.instrs c.into_instrs-instrs.ensures.small in
    let is = ap (acted c.args.actions.now) (c.deref_mut.ensures.value ∙ c.into_instrs-instrs.ensures.listed) in
    let whole = ap (λ l. take len (new ++ l)) (drop_all (length new) items (omega arith)) ∙ ap (take len) (append-nil new) ∙ take_all len new (omega (arith, same, c.into_instrs-instrs.result.ok.0)) in
    c.checked.ensures.good.1 (subst IsSmall (sym (c.truncate.ensures.items ∙ ap (take c.write_all-count.result) whole ∙ c.write_all-count.ensures ∙ is)) small)
