use Rattle.std.proofs.Common.{◌+◌, sym, ap, ◌∙◌, arith}
use Rattle.std.specs.Option.{option_map}
use Rattle.std.specs.Prelude.{not}
use Rattle.sync_model.specs.Files.{is_empty}
use Rattle.sync_model.specs.Fronts.{count_is, lead_on, leading, of_kind}
use Rattle.server_memory.specs.Fronting.{counted_seen, seen_from}
use Rattle.server_memory.proofs.Walking.{from_end, from_next}
use Rattle.server_memory.proofs.uuids.counts_at.Goals as goal

pub returns-then-place-records : goal.returns-then-place-records
returns-then-place-records c = sym (ap (λ l. not (is_empty (leading (of_kind count_is) l))) (from_end c.args.records.now c.args.place (omega (arith, c.if-place-records.true))))

pub returns-in-None : goal.returns-in-None
returns-in-None c =
    let place = c.args.place in
    let records = c.args.records.now in
    let here = from_next records place c.index-records-place.result (omega (arith, c.if-place-records.false, c.requires)) c.index-records-place.is in
    sym (ap (λ l. not (is_empty (leading (of_kind count_is) l))) here
    ∙ ap (λ o. not (is_empty (lead_on o (leading (of_kind count_is) (seen_from (place + 1) records))))) (sym c.as_count.ensures ∙ ap (option_map counted_seen) c.in-None.is))

pub returns-in-Some : goal.returns-in-Some
returns-in-Some c =
    let place = c.args.place in
    let records = c.args.records.now in
    let here = from_next records place c.index-records-place.result (omega (arith, c.if-place-records.false, c.requires)) c.index-records-place.is in
    sym (ap (λ l. not (is_empty (leading (of_kind count_is) l))) here
    ∙ ap (λ o. not (is_empty (lead_on o (leading (of_kind count_is) (seen_from (place + 1) records))))) (sym c.as_count.ensures ∙ ap (option_map counted_seen) c.in-Some.is))
