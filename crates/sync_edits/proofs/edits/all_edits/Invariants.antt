use Rattle.std.proofs.Common.{◌≡◌, drop}
use Rattle.serde_json.specs.View.{items_view}
use Rattle.sync_edits.specs.Edits.{edit_form}
use Rattle.sync_edits.specs.Items.{all_items}
use Rattle.sync_edits.proofs.Front.{with_front}
use Rattle.sync_edits.proofs.edits.all_edits.Given as goal

-- the edits so far, and what the rest gives, are what all gives
abbrev pub invariant-loop-item : goal.invariant-loop-item
invariant-loop-item l = with_front l.edits.items (all_items edit_form (items_view (drop l.item-index l.items))) ≡ all_items edit_form (items_view l.items)
