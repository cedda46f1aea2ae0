use Rattle.std.proofs.Common.{map, ap, ◌∙◌}
use Rattle.sync_codec.specs.Spelling.{spelling}
use Rattle.snapshot_law.specs.Build.{build}
use Rattle.sync_exchange.specs.Profile.{fits_changeset}
use Rattle.sync_exchange.specs.Seen.{server_seen}
use Rattle.server_memory.specs.Kept.{parts}
use Rattle.sync_server.specs.Serving.{kept_of}
use Rattle.sync_trim.proofs.Pieces.{put_one}
use Rattle.sync_trim.proofs.Whole.{trims}
use Rattle.sync_trim.proofs.trimming.trimmed.Goals as goal

pub returns : goal.returns
returns g c =
    let kept = parts (kept_of c.args.server.now) in
    record {
      trimmed = trims kept c.next_floor-floor.result c.in_ok-bodies.bodies.items
          (map server_seen c.new-records.result.items) (map server_seen c.put_form.new.records.items) (map server_seen c.put_parts.new.records.items) (map server_seen c.put.new.list.items) (map server_seen c.put_clients.new.records.items)
          (map server_seen c.put_retired.new.records.items) (map server_seen c.put_counts.new.records.items) (map server_seen c.put_entries.new.records.items) (map server_seen c.put_past.new.records.items)
          c.next_floor-floor.ensures.next
          (c.in_ok-bodies.ensures ∙ ap (λ s. map spelling (build fits_changeset s)) c.in_ok-below.ensures)
          (ap (map server_seen) c.new-records.ensures.items)
          c.in_ok-put_form.ensures
          c.in_ok-put_parts.ensures
          (put_one server_seen c.put_parts.new.records.items c.put.new.list.items _ c.in_ok-put.ensures)
          c.in_ok-put_clients.ensures c.in_ok-put_retired.ensures c.in_ok-put_counts.ensures c.in_ok-put_entries.ensures c.in_ok-put_past.ensures;
    }
