use Rattle.std.proofs.Common.{List, map, ◌∙◌, ap}
use Rattle.std.specs.List.{list_any}
use Rattle.sync_base.specs.States.{State}
use Rattle.sync_data.specs.declared.instr.Instr.{Instr}
use Rattle.sync_model.specs.Bytes.{Uuid}
use Rattle.sync_model.specs.Clients.{client_of}
use Rattle.sync_model.specs.Parts.{Parts}
use Rattle.sync_model.specs.Servers.{server_of}
use Rattle.sync_model.specs.Worlds.{Node, ident_is, is_there, seek}
use Rattle.sync_exchange.specs.Profile.{the_profile}
use Rattle.server_memory.specs.Kept.{parts}
use Rattle.sync_server.specs.Serving.{kept_of}
use Rattle.sync_world.specs.Holding.{given_ids, id_of}
use Rattle.sync_world.proofs.Ids.{any_is_there, any_of_each, uuids_back}
use Rattle.sync_world.proofs.world.World.is_own.Goals as goal

pub returns : goal.returns
returns c w s opens =
    let old = c.args.self.now in
    let ids = given_ids old.hub.server in
    let same = c.worlds_read_back.ensures.keeps w.server (parts (kept_of old.hub.server)) opens s.server.server.gives in
    c.any_is_of.ensures
    ∙ ap (list_any (λ node. ident_is ids c.args.ident (id_of node))) c.as_slice.ensures.value
    ∙ any_of_each (ident_is ids c.args.ident) w.stops w.clients old.clients.items s.clients
    ∙ any_is_there (λ (n : Node). ident_is ids c.args.ident (client_of the_profile n.records).id) w.clients
    ∙ ap (λ (us : List Uuid). is_there (seek (λ (n : Node). ident_is us c.args.ident (client_of the_profile n.records).id) w.clients)) (ap (λ (k : Parts Instr State). map (λ g. g.uuid) k.idents) same ∙ uuids_back (server_of the_profile w.server) 1 (server_of the_profile w.server).ids)
