use Rattle.std.proofs.Common.{ℕ, List, ◌+◌, ◌++◌, map, drop, sym, ap, ◌∙◌}
use Rattle.sync_model.specs.Servers as model
use Rattle.sync_exchange.specs.Seen.{server_seen}
use Rattle.server_memory.specs.Kept.{parts}
use Rattle.sync_server.specs.Serving.{kept_of}
use Rattle.sync_trim.proofs.Pieces.{at_none, at_some, get_at, no_more, one_more}
use Rattle.sync_trim.proofs.idents.put_retired.Goals as goal

abbrev retired_records : List (ℕ × ℕ) → List model.ServerRecord
retired_records qs = map (λ (q : ℕ × ℕ). model.Retired q.0 q.1) qs

pub returns-in_default : goal.returns-in_default
returns-in_default g c =
    let kept = parts (kept_of c.args.server.now) in
    let place = c.loop-place.place in
    no_more (map server_seen c.loop-place.records.items) (retired_records (drop place kept.retired)) _
    (ap retired_records (at_none kept.retired place (sym (get_at kept.retired place) ∙ sym c.retired.ensures ∙ c.in_default.is)))
    c.loop-place.invariant

pub loop-place-preserved : goal.loop-place-preserved
loop-place-preserved g c =
    let kept = parts (kept_of c.args.server.now) in
    let place = c.loop-place.place in
    let left = retired_records (drop (place + 1) kept.retired) in
    let first = at_some kept.retired place c.in-Some.pair (sym (get_at kept.retired place) ∙ sym c.retired.ensures ∙ c.in-Some.is) in
    one_more server_seen c.loop-place.records.items c.put.new.list.items _ left c.in_ok-put.ensures
    ∙ ap (λ l. map server_seen c.loop-place.records.items ++ l) (sym (ap retired_records first))
    ∙ c.loop-place.invariant
