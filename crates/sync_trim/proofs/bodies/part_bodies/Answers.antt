use Rattle.std.proofs.Common.{map, ap, ◌∙◌}
use Rattle.sync_codec.specs.Spelling.{spelling}
use Rattle.snapshot_law.specs.Build.{build}
use Rattle.sync_exchange.specs.Profile.{fits_changeset}
use Rattle.sync_trim.proofs.States.{spelled_parts}
use Rattle.sync_trim.proofs.bodies.part_bodies.Goals as goal

pub returns : goal.returns
returns c =
    c.in_ok-bodies.ensures
    ∙ ap (map (λ part. spelling part.instrs)) (c.as_slice.ensures.value ∙ c.in_ok-parts.ensures.parts)
    ∙ spelled_parts (build fits_changeset c.args.objects.now)
