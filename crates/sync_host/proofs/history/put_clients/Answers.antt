use Rattle.std.proofs.Common.{◌+◌, ◌++◌, ◌∙◌, List, ℕ, ap, drop, sym}
use Rattle.std.specs.Option.{option_map}
use Rattle.server_memory.specs.Kept.{parts}
use Rattle.sync_server.specs.Serving.{kept_of}
use Rattle.sync_host.specs.Histories.{client_told}
use Rattle.sync_host.proofs.Histories.{is_told}
use Rattle.sync_host.proofs.Pieces.{one_told}
use Rattle.sync_host.proofs.history.put_clients.Goals as goal

pub loop-place-preserved : goal.loop-place-preserved
loop-place-preserved g c =
    let gs = (parts (kept_of c.args.server.now)).idents in
    let out = c.loop-place.out.items in
    let one = is_told (λ x. x.now) gs c.loop-place.place c.in-Some-Some.id.now c.in-Some-Some.counts c.reciprocal.result c.is_none.result
    (sym (ap (option_map (λ x. x.now)) c.in-Some-Some.is-0) ∙ c.id_of.ensures) (sym c.in-Some-Some.is-1 ∙ c.counts.ensures) c.reciprocal.ensures c.is_none.ensures in
    one_told client_told out c.put_client.new.out.items _ (drop c.loop-place.place gs) (drop (c.loop-place.place + 1) gs) one.client one.there
    (c.in_ok-put_client.ensures ∙ ap (λ (told : List ℕ). out ++ told) one.told) c.loop-place.invariant
