use Rattle.std.proofs.Common.{List, ℕ, subst, arith}
use Rattle.sync_gen.specs.Clients.{name_of}
use Rattle.sync_model.specs.Worlds.{empty_world, server_name}
use Rattle.sync_world.specs.Events.{event_seen}
use Rattle.sync_top.specs.Counting.{Goes}
use Rattle.gen_law.specs.Generated.{newest_to, world_by}
use Rattle.sync_top.proofs.Playing.{delivered_to, exchange_goes, one_longer, sent_by}
use Rattle.sync_top.proofs.Steps.{on_ok}
use Rattle.sync_top.proofs.counts.Counts.exchange.Goals as goal

pub returns : goal.returns
returns c = λ es small goes.
    let sending = event_seen c.args.sending in
    let one = c.in_ok-step.ensures es (omega arith) goes in
    let first = one_longer es sending in
    let two = subst (λ (n : List ℕ). Goes (delivered_to (sent_by es sending) n) c.deliver_newest.new.self c.deliver_newest.new.world) c.server_name-to.ensures (c.in_ok-deliver_newest.ensures (sent_by es sending) (omega (arith, first)) one) in
    let second = one_longer (sent_by es sending) (newest_to server_name (world_by empty_world (sent_by es sending))) in
    on_ok c.deliver_newest-2.result (c.deliver_newest-2.ensures (delivered_to (sent_by es sending) server_name) (omega (arith, first, second)) two)
    (λ goes. exchange_goes es sending (name_of c.args.client) c.deliver_newest-2.new.self c.deliver_newest-2.new.world
    (subst (λ (n : List ℕ). Goes (delivered_to (delivered_to (sent_by es sending) server_name) n) c.deliver_newest-2.new.self c.deliver_newest-2.new.world) c.client_name-to.ensures goes))
