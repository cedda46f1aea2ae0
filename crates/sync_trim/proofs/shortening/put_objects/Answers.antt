use Rattle.std.proofs.Common.{map, ap, ◌∙◌}
use Rattle.sync_codec.specs.Spelling.{spelling}
use Rattle.snapshot_law.specs.Build.{build}
use Rattle.sync_model.specs.Clients as model
use Rattle.sync_exchange.specs.Profile.{fits_changeset, the_profile}
use Rattle.sync_exchange.specs.Seen.{client_seen}
use Rattle.sync_trim.proofs.Pieces.{put_one}
use Rattle.sync_trim.proofs.Shorts.{objects_are}
use Rattle.sync_trim.proofs.Spelled.{on_put}
use Rattle.sync_trim.proofs.shortening.put_objects.Goals as goal

pub returns : goal.returns
returns g c = λ of is.
    on_put c.put.result (λ put. objects_are (model.client_of the_profile of).objects c.in_ok-bodies.bodies.items c.cursor-version.result (model.client_of the_profile of).cursor
    (map client_seen c.args.records.now.items) (map client_seen c.put_parts.new.records.items) (map client_seen c.put.new.list.items)
    (c.in_ok-bodies.ensures ∙ ap (λ s. map spelling (build fits_changeset s)) (c.objects.ensures of is))
    c.in_ok-put_parts.ensures
    (put_one client_seen c.put_parts.new.records.items c.put.new.list.items _ put) (c.cursor-version.ensures of is)) c.put.ensures
