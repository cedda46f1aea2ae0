use Rattle.std.proofs.Common.{◌+◌, ◌∷◌, ◌++◌, map, drop, sym, ap, ◌∙◌}
use Rattle.std.specs.Option.{option_map}
use Rattle.sync_model.specs.Servers as model
use Rattle.sync_exchange.specs.Seen.{server_seen}
use Rattle.server_memory.specs.Kept.{parts}
use Rattle.sync_server.specs.Serving.{kept_of}
use Rattle.sync_trim.proofs.Given.{is_read}
use Rattle.sync_trim.proofs.Pieces.{one_more}
use Rattle.sync_trim.proofs.idents.put_clients.Goals as goal

pub loop-place-preserved : goal.loop-place-preserved
loop-place-preserved g c =
    let kept = parts (kept_of c.args.server.now) in
    let place = c.loop-place.place in
    let left = map (λ g. model.Client g.uuid) (drop (place + 1) kept.idents) in
    let r = is_read (λ g. g.uuid) kept.idents place (option_map (λ id. id.now) c.id_of.result) c.in-Some.id.now c.id_of.ensures (ap (option_map (λ id. id.now)) c.in-Some.is) in
    one_more server_seen c.loop-place.records.items c.put.new.list.items _ left c.in_ok-put.ensures
    ∙ ap (λ l. map server_seen c.loop-place.records.items ++ l) (ap (λ u. model.Client u ∷ left) (sym r.2) ∙ sym (ap (map (λ g. model.Client g.uuid)) r.1))
    ∙ c.loop-place.invariant
