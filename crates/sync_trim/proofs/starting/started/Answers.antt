use Rattle.std.proofs.Common.{[], ◌∷◌, ◌++◌, map, ap, ◌∙◌}
use Rattle.sync_codec.specs.Spelling.{spelling}
use Rattle.snapshot_law.specs.Build.{build}
use Rattle.sync_model.specs.Clients as clients
use Rattle.sync_exchange.specs.Profile.{fits_changeset}
use Rattle.sync_exchange.specs.Seen.{client_seen}
use Rattle.server_memory.specs.Kept.{parts}
use Rattle.sync_server.specs.Serving.{kept_of}
use Rattle.sync_trim.proofs.Pieces.{put_one}
use Rattle.sync_trim.proofs.Whole.{starts}
use Rattle.sync_trim.proofs.starting.started.Goals as goal

pub returns : goal.returns
returns g c =
    let kept = parts (kept_of c.args.server.now) in
    let with_parts = map client_seen c.put_parts.new.records.items in
    record {
      started = starts c.args.id kept.second kept.len kept.objects c.in_ok-bodies.bodies.items
          (map client_seen c.new-records.result.items) (map client_seen c.put.new.list.items) (map client_seen c.put_form.new.records.items) with_parts (map client_seen c.put-2.new.list.items)
          (c.in_ok-bodies.ensures ∙ ap (λ s. map spelling (build fits_changeset s)) c.objects.ensures)
          (ap (map client_seen) c.new-records.ensures.items)
          (put_one client_seen c.new-records.result.items c.put.new.list.items _ c.in_ok-put.ensures)
          c.in_ok-put_form.ensures
          c.in_ok-put_parts.ensures
          (put_one client_seen c.put_parts.new.records.items c.put-2.new.list.items _ c.in_ok-put-2.ensures ∙ ap (λ n. with_parts ++ clients.Floor n ∷ []) c.len-version.ensures);
    }
