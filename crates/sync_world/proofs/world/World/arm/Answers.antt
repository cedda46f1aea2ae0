use Rattle.std.proofs.Common.{Bool, if◌then◌else◌, Ok, Some, refl, sym, ◌∙◌, subst}
use Rattle.std.specs.Vec.{with_item}
use Rattle.sync_model.specs.Worlds.{Armed, IsReached, NoNode, Stop, Stops, arm, has_name, says}
use Rattle.sync_model.proofs.Bytes.{bytes_same}
use Rattle.sync_model.proofs.Lists.{seek_found}
use Rattle.sync_exchange.specs.Profile.{the_profile}
use Rattle.sync_words.specs.declared.outcome.Outcome.TheVariants as outcomes
use Rattle.sync_world.specs.Events.{leaves_seen}
use Rattle.sync_world.specs.Holding.{Happens, HoldsNode}
use Rattle.sync_world.specs.declared.world.World.{World}
use Rattle.sync_world.proofs.Happening.{client_armed, is_one, said_all}
use Rattle.sync_world.proofs.Moves.{held_at}
use Rattle.sync_world.proofs.world.World.arm.Goals as goal

pub returns : goal.returns
returns c w h =
    let old = c.args.self.now in
    let name = c.args.name.now in
    let place = c.in-Some.place in
    let s : Stop = record { at = c.args.at; leaves = leaves_seen c.args.leaves } in
    let f = c.in-Some.ensures.found w h.stands in
    let sought = seek_found (has_name name) w.clients (place, f.0) f.1 in
    let held = held_at w.stops w.clients old.clients.items place f.0 c.index_mut.result.now h.stands.clients sought.here c.index_mut.ensures.value c.in-Some.ensures.within in
    let self : World = record { alloc = old.alloc; hub = old.hub; clients = with_item old.clients place c.arm.new.self; messages = old.messages; injected = old.injected } in
    let one : HoldsNode f.0 (Some s) c.arm.new.self = record { name = c.arm.ensures.name ∙ held.name; client = c.arm.ensures.client f.0.records (w.stops f.0.name) held.client } in
    let node = is_one w name (place, f.0) f.1 in
    let after = subst (λ (b : Bool). IsReached the_profile (if b then says (record w { stops = arm name (Some s) w.stops }) Armed else says w NoNode).world) node (c.worlds_read_back.ensures.steps w (Stops name c.args.at (leaves_seen c.args.leaves)) h.reached) in
    subst (λ (b : Bool). Happens (if b then says (record w { stops = arm name (Some s) w.stops }) Armed else says w NoNode) (Ok outcomes.Armed) self) (sym node)
    (said_all (record w { stops = arm name (Some s) w.stops }) Armed (Ok outcomes.Armed) self refl
    (record { reached = after; stands = client_armed w old h.stands place f.0 sought.here self c.arm.new.self (record { clients = refl; hub = refl; messages = refl; injected = refl }) name (Some s) (bytes_same name f.0.name sought.passes) one }))
