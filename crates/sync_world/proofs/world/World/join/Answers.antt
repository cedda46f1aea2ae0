use Rattle.std.proofs.Common.{◌≡◌, Bool, false, ◌||◌, if◌then◌else◌, [], ◌∷◌, ◌++◌, Ok, Option, Result, map, refl, sym, ◌∙◌, ap, subst}
use Rattle.std.proofs.lemmas.List.{map-append}
use Rattle.std.specs.Prelude.{bytes_eq}
use Rattle.sync_model.specs.Clients.{Born}
use Rattle.sync_model.specs.Each.{no_more, and_each}
use Rattle.sync_model.specs.Worlds.{IsReached, Joined, Joins, NameTaken, Node, Outcome, Stop, UuidTaken, has_id, is_node, is_there, joins, says, seek}
use Rattle.sync_model.proofs.Limits.{each_append}
use Rattle.sync_exchange.specs.Profile.{the_profile}
use Rattle.sync_world.specs.Holding.{AreNames, Happens, Holds, HoldsEach}
use Rattle.sync_world.specs.Nodes.{HoldsClient}
use Rattle.sync_data.specs.declared.memory.NoMemory.{NoMemory}
use Rattle.sync_words.specs.declared.outcome.Outcome.{Outcome as CodeOutcome}
use Rattle.sync_words.specs.declared.outcome.Outcome.TheVariants as outcomes
use Rattle.sync_world.proofs.Joining.{still_unarmed}
use Rattle.sync_world.proofs.Moves.{held_more, names_more, new_name}
use Rattle.sync_world.specs.declared.world.World.{World}
use Rattle.sync_world.proofs.world.World.join.Goals as goal
use Rattle.sync_world.proofs.world.World.join.Goals.{in-Ok-push, in-Err}

pub returns : goal.returns
returns c w h =
    let name = c.args.name in
    let id = c.args.id in
    let one : Node = record { name = name; records = Born id ∷ [] } in
    let v = record w { clients = w.clients ++ one ∷ [] } in
    let free : is_node w name ≡ false = sym (c.is_node.ensures w h.stands) ∙ c.if-is_node.false in
    let unknown : is_there (seek (has_id the_profile id) w.clients) ≡ false = sym (c.has_id.ensures w h.stands) ∙ c.if-has_id.false in
    let unnamed : is_there (seek (λ u. bytes_eq id u) w.injected) ≡ false = sym (c.has_injected.ensures w h.stands) ∙ c.if-has_injected.false in
    let is : joins the_profile w name id ≡ says v (Joined name) =
    ap (λ (b : Bool). if b then says w NameTaken else (if is_there (seek (has_id the_profile id) w.clients) || is_there (seek (λ u. bytes_eq id u) w.injected) then says w UuidTaken else says v (Joined name))) free
    ∙ ap (λ (b : Bool). if b || is_there (seek (λ u. bytes_eq id u) w.injected) then says w UuidTaken else says v (Joined name)) unknown
    ∙ ap (λ (b : Bool). if b then says w UuidTaken else says v (Joined name)) unnamed in
    let kept = c.in-Ok.ensures.cases in
    let new = new_name w name free in
    let client = subst (λ (s : Option Stop). HoldsClient (Born id ∷ []) s c.in_ok-node.node.stop c.in_ok-node.node.client) (sym (h.stands.unarmed name free)) c.in_ok-node.ensures.client in
    let self : World = record { alloc = c.args.self.now.alloc; hub = c.args.self.now.hub; clients = c.push.new.self; messages = c.args.self.now.messages; injected = c.args.self.now.injected } in
    let after : c.push.new.self.items ≡ c.args.self.now.clients.items ++ c.in_ok-node.node ∷ [] → Holds v self = λ items. record {
      reached = subst (λ (o : Outcome). IsReached the_profile o.world) is (c.worlds_read_back.ensures.steps w (Joins name id) h.reached);
      stands = record {
        server = h.stands.server;
        clients = subst (HoldsEach w.stops (w.clients ++ one ∷ [])) (sym items) (held_more w.stops w.clients c.args.self.now.clients.items one c.in_ok-node.node h.stands.clients (record { name = c.in_ok-node.ensures.name ∙ kept; client = client }));
        named = subst AreNames (sym (map-append (λ (n : Node). n.name) w.clients (one ∷ []))) (names_more (map (λ (n : Node). n.name) w.clients) name h.stands.named new.0 new.1);
        server_fits = h.stands.server_fits;
        clients_fit = each_append h.stands.clients_fit (and_each (and_each c.new.ensures.id no_more) no_more);
        messages = h.stands.messages;
        injected = h.stands.injected;
        unarmed = λ k none. h.stands.unarmed k (still_unarmed w k one none);
      };
    } in
    let happens : Result CodeOutcome NoMemory → Type 0 = λ r. Happens (joins the_profile w name id) r self in
    elim c.match-push.branch [
      | in-Ok-push t ↦ subst happens (sym t.result-is) (subst (λ (o : Outcome). Happens o (Ok (outcomes.Joined name)) self) (sym is) (refl, after t.in-Ok-push.ensures.items))
      | in-Err t ↦ subst happens (sym t.result-is) tt
    ]
