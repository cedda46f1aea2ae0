-- A client comes in.
use Rattle.std.proofs.Common.{◌≡◌, Bool, false, ◌||◌, [], ◌∷◌, ◌++◌, ap, ◌∙◌}
use Rattle.std.specs.Prelude.{bytes_eq}
use Rattle.sync_model.specs.Bytes.{Name}
use Rattle.sync_model.specs.Worlds.{Node, World, has_name, is_node, is_there, seek, server_name}
use Rattle.sync_world.proofs.Moves.{fewer_nodes, first_not, rest_not}

-- whoever isn't a node afterwards wasn't one before
pub still_unarmed : (w : World) (name : Name) (n : Node) → is_node (record w { clients = w.clients ++ n ∷ [] }) name ≡ false → is_node w name ≡ false
still_unarmed w name n none =
    let a = first_not (bytes_eq name server_name) (is_there (seek (has_name name) (w.clients ++ n ∷ []))) none in
    let b = rest_not (bytes_eq name server_name) (is_there (seek (has_name name) (w.clients ++ n ∷ []))) none in
    ap (λ (x : Bool). x || is_there (seek (has_name name) w.clients)) a ∙ fewer_nodes name w.clients n b
