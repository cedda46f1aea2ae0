use Rattle.std.proofs.Common.{◌≡◌, ◌≤◌, ◌+◌, [], Ok, true, length, map, take, sym, ap, ◌∙◌, subst, arith}
use Rattle.std.proofs.lemmas.List.{length-map}
use Rattle.sync_data.specs.declared.instr.Instr.{Instr}
use Rattle.sync_model.specs.Parts.{Given}
use Rattle.sync_model.specs.Fronts.{all_within, count_is, count_step, leading, of_kind, walk, with_counts}
use Rattle.server_memory.specs.Fronting.{counted_seen, seen_from, uuids_of}
use Rattle.server_memory.proofs.Tallies.{counted_on, counts_fit, few_counted}
use Rattle.server_memory.proofs.kept.Kept.front_counts.Goals as goal

pub front_entries-requires-clause-within : goal.front_entries-requires-clause-within
front_entries-requires-clause-within c =
    let gs = c.args.idents.items in
    let cs = c.in_ok-counts.counts.items in
    let most = c.len-most.ensures ∙ c.args.idents.ok.0 in
    let size = subst (λ n. length cs ≡ length (take n (leading (of_kind count_is) (seen_from c.args.place c.args.records.now)))) most c.in_ok-counts.ensures.read.1 in
    let fit = counts_fit c.args.records.now c.args.place c.args.second c.args.below c.args.floor gs c.args.retired.items cs size c.requires.within in
    omega (arith, fit, c.len.ensures, c.in_ok-counts.counts.ok.0)

pub front_entries-requires-clause-few : goal.front_entries-requires-clause-few
front_entries-requires-clause-few c =
    let gs = c.args.idents.items in
    let ds = c.args.retired.items in
    let cs = c.in_ok-counts.counts.items in
    let made : c.in-Ok.idents.items ≡ with_counts ds (uuids_of gs) (map counted_seen cs) =
    c.in-Ok.ensures ∙ (λ i. with_counts (c.as_slice-4.ensures.value i) (uuids_of (c.as_slice-2.ensures.value i)) (map counted_seen (c.as_slice-3.ensures.value i)))
    in
    let few = few_counted ds (uuids_of gs) (map counted_seen cs) in
    let idents = length-map gs (λ (g : Given Instr). g.uuid) in
    omega (arith, ap length made, few, idents, c.len-most.ensures, c.args.idents.ok.0)

pub returns : goal.returns
returns c =
    let records = c.args.records.now in
    let gs = c.args.idents.items in
    let ds = c.args.retired.items in
    let cs = c.in_ok-counts.counts.items in
    let len = c.in_ok-counts.len in
    let most = c.len-most.ensures ∙ c.args.idents.ok.0 in
    let read =
    subst (λ n. (walk (count_step 4294967295) [] (take n (leading (of_kind count_is) (seen_from c.args.place records))) ≡ Ok (map counted_seen cs)) × (length cs ≡ length (take n (leading (of_kind count_is) (seen_from c.args.place records))))) most c.in_ok-counts.ensures.read
    in
    let enough : length gs ≤ length cs = omega (arith, c.if-len-most.false, c.len-2.ensures, c.in_ok-counts.counts.ok.0, c.len-most.ensures, c.args.idents.ok.0) in
    let above : c.args.floor ≤ len = omega (arith, c.if-floor-len.false) in
    let inside : all_within len (map counted_seen cs) ≡ true = ap (λ l. all_within len (map counted_seen l)) (sym c.as_slice.ensures.value) ∙ sym c.all_within.ensures ∙ c.if-not-all_within.false in
    let here : c.args.place + c.len.result ≡ c.args.place + length cs = omega (arith, c.len.ensures, c.in_ok-counts.counts.ok.0) in
    let made : c.in-Ok.idents.items ≡ with_counts ds (uuids_of gs) (map counted_seen cs) =
    c.in-Ok.ensures ∙ (λ i. with_counts (c.as_slice-4.ensures.value i) (uuids_of (c.as_slice-2.ensures.value i)) (map counted_seen (c.as_slice-3.ensures.value i)))
    in
    counted_on records c.args.place c.args.second c.args.below c.args.floor gs ds cs read.1 read.0 enough len c.in_ok-counts.ensures.sum above inside (c.args.place + c.len.result) c.in-Ok.idents.items c.front_entries.result here made c.front_entries.ensures
