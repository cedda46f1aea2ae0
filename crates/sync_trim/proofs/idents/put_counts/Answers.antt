use Rattle.std.proofs.Common.{◌+◌, ◌∷◌, ◌++◌, map, drop, sym, ap, ◌∙◌, add-one}
use Rattle.sync_model.specs.Servers as model
use Rattle.sync_model.specs.Trimmed.{count_records}
use Rattle.sync_exchange.specs.Profile.{the_profile}
use Rattle.sync_exchange.specs.Seen.{server_seen}
use Rattle.server_memory.specs.Kept.{parts}
use Rattle.server_memory.specs.Readers.{counts_of}
use Rattle.sync_server.specs.Serving.{kept_of}
use Rattle.server_memory.specs.declared.counts.Counts.{Counts}
use Rattle.sync_trim.proofs.Given.{is_read}
use Rattle.sync_trim.proofs.Pieces.{one_more}
use Rattle.sync_trim.proofs.idents.put_counts.Goals as goal

pub loop-place-preserved : goal.loop-place-preserved
loop-place-preserved g c =
    let kept = parts (kept_of c.args.server.now) in
    let place = c.loop-place.place in
    let left = drop (place + 1) kept.idents in
    let r = is_read counts_of kept.idents place c.counts.result c.in-Some.counts c.counts.ensures c.in-Some.is in
    one_more server_seen c.loop-place.records.items c.put.new.list.items _ (count_records the_profile (place + 1 + 1) left) c.in_ok-put.ensures
    ∙ ap (λ l. map server_seen c.loop-place.records.items ++ l)
    (ap (λ (k : Counts). model.Count (place + 1) k.number k.base k.settled ∷ count_records the_profile (place + 1 + 1) left) (sym r.2)
    ∙ ap (λ n. model.Count (place + 1) r.0.count r.0.last r.0.mark ∷ count_records the_profile n left) (add-one (place + 1))
    ∙ sym (ap (count_records the_profile (place + 1)) r.1))
    ∙ c.loop-place.invariant
