-- How many members an object has, as its map counts them.
use Rattle.std.proofs.Common.{◌≡◌, List, length, String, Global}
use Rattle.serde_json.specs.Events.{members_len}
use Rattle.serde_json.specs.View.{members_view}
use Rattle.serde_json.specs.declared.value.Value.{Value}
use Rattle.serde_json.proofs.Views.{members_len-members_view}

pub member_count : (es : List (String Global × Value)) → members_len (members_view es) ≡ length es
member_count = members_len-members_view
