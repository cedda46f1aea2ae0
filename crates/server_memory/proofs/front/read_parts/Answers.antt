use Rattle.std.proofs.Common.{[], length, sym, ap, ◌∙◌}
use Rattle.std.specs.Option.{option_map}
use Rattle.sync_data.specs.Payload.{Changes}
use Rattle.sync_exchange.specs.Profile.{the_profile, unspell}
use Rattle.sync_model.specs.Files.{readable}
use Rattle.sync_model.specs.Fronts.{part_of, part_step}
use Rattle.server_memory.specs.Fronting.{instrs_of, seen_from}
use Rattle.server_memory.proofs.Fronted.{parts_begin, parts_next, parts_refuse, parts_whole}
use Rattle.server_memory.proofs.Walking.{loop_done, loop_other}
use Rattle.server_memory.proofs.front.read_parts.Goals as goal

pub loop-place-init : goal.loop-place-init
loop-place-init c = parts_begin c.args.records.now c.args.first c.args.second c.new-parts.result.items c.new-parts.ensures.items

pub returns-in-None : goal.returns-in-None
returns-in-None c =
    let records = c.args.records.now in
    let parts = c.loop-place.parts.items in
    parts_whole records c.args.first c.args.second parts
    (loop_other part_of (part_step the_profile c.args.second) (length (seen_from c.args.first records)) records c.args.first c.loop-place.place [] (instrs_of parts) (length parts) c.loop-place.invariant c.index-records-place.result c.loop-place-test.true c.index-records-place.is (sym c.in-None.ensures))

pub returns-in-Ok-None : goal.returns-in-Ok-None
returns-in-Ok-None c =
    parts_refuse c.args.records.now c.args.first c.args.second c.loop-place.place c.loop-place.parts.items c.loop-place.invariant c.loop-place-test.true c.requires c.index-records-place.result c.index-records-place.is c.in-Some.body.now (sym c.in-Some.ensures)
    (ap (λ b. readable the_profile c.args.second (unspell b)) (sym c.bytes.ensures) ∙ sym c.in-Ok-None.ensures.listed ∙ ap (option_map (λ (v : Changes). v.instrs)) c.in-Ok-None.field-0-is)

pub loop-place-preserved : goal.loop-place-preserved
loop-place-preserved c =
    parts_next c.args.records.now c.args.first c.args.second c.loop-place.place c.loop-place.parts.items c.loop-place.invariant c.loop-place-test.true c.requires c.index-records-place.result c.index-records-place.is c.in-Some.body.now c.in-Ok-Some.changes c.keep.new.items.items (sym c.in-Some.ensures)
    (ap (λ b. readable the_profile c.args.second (unspell b)) (sym c.bytes.ensures) ∙ sym c.in-Ok-Some.ensures.listed ∙ ap (option_map (λ (v : Changes). v.instrs)) c.in-Ok-Some.field-0-is) c.in-Ok.ensures.ok

pub returns : goal.returns
returns c =
    let records = c.args.records.now in
    let parts = c.loop-place.parts.items in
    parts_whole records c.args.first c.args.second parts
    (loop_done part_of (part_step the_profile c.args.second) (length (seen_from c.args.first records)) records c.args.first c.loop-place.place [] (instrs_of parts) (length parts) c.loop-place.invariant c.loop-place-test.false)
