use Rattle.std.proofs.lemmas.Result.{err_from_is_err_and}
use Rattle.serde_json.specs.View.{items_view}
use Rattle.sync_edits.specs.Edits.{edit_form}
use Rattle.sync_edits.specs.Items.{all_items}
use Rattle.sync_edits.proofs.Front.{goes_on, ends, is_done}
use Rattle.sync_edits.proofs.edits.all_edits.Goals as goal

pub returns-in_err-edit : goal.returns-in_err-edit
returns-in_err-edit c =
    let p = err_from_is_err_and c.from_residual.result c.from_residual.ensures.1 in
    rw (p.1, p.2) (ends edit_form c.in_err-edit.field-0.0 c.loop-item.edits.items c.args.items.now c.loop-item.item-index c.item-item.result (all_items edit_form (items_view c.args.items.now)) c.loop-item-test.true c.item-item.is c.in_err-edit.ensures c.loop-item.invariant)

pub loop-item-preserved : goal.loop-item-preserved
loop-item-preserved c =
    rw c.in_ok-push.ensures.items (goes_on edit_form c.loop-item.edits.items c.args.items.now c.loop-item.item-index c.item-item.result c.in_ok-edit.edit (all_items edit_form (items_view c.args.items.now)) c.loop-item-test.true c.item-item.is c.in_ok-edit.ensures c.loop-item.invariant)

pub returns : goal.returns
returns c = is_done edit_form c.loop-item.edits.items c.args.items.now c.loop-item.item-index (all_items edit_form (items_view c.args.items.now)) c.loop-item-test.false c.loop-item.invariant
