use Rattle.std.proofs.Common.{ap, ◌∙◌, subst}
use Rattle.sync_exchange.specs.Profile.{the_profile}
use Rattle.sync_model.specs.Fronts.{front_of}
use Rattle.server_memory.specs.Fronting.{Fronts, seen}
use Rattle.server_memory.specs.Opening.{is_trimmed}
use Rattle.server_memory.proofs.Begun.{fronts_read}
use Rattle.server_memory.proofs.kept.Kept.trimmed_front.Goals as goal

pub front_in-requires : goal.front_in-requires
front_in-requires c = ap (λ l. is_trimmed (seen l)) c.as_slice.ensures.value ∙ ap is_trimmed c.in-Ok.ensures.read ∙ c.requires

pub returns : goal.returns
returns c =
    fronts_read c.args.files.now c.in-Ok.records.items c.front_in.result c.in-Ok.ensures.read c.in-Ok.ensures.spelled
    (subst (λ l. Fronts c.front_in.result (front_of the_profile (seen l))) c.as_slice.ensures.value c.front_in.ensures)
