use Rattle.std.proofs.Common.{◌≡◌, ℕ, ◌≤◌, ◌∷◌, [], List, refl, drop, length, map, reverse, sym, ◌∙◌, ap, subst, arith}
use Rattle.std.proofs.lemmas.List.{length-map, reverse-append}
use Rattle.sync_data.specs.declared.instr.Instr.{Instr}
use Rattle.sync_theory.specs.Changesets.{Changeset}
use Rattle.sync_recip.specs.declared.carried.Crossed.{Crossed}
use Rattle.sync_recip.specs.Lists.{kept_entry}
use Rattle.sync_recip.specs.Carrying.{AllFit, crossed_entries, put_crossed}
use Rattle.sync_recip.specs.Stretches.{from_place}
use Rattle.sync_recip.proofs.Laid.{drop_from, from_id, from_twice}
use Rattle.sync_recip.proofs.Versions.{same_length}
use Rattle.sync_recip.proofs.carried.put_crossed.Goals as goal

none_left : (cs : List Crossed) (i : ℕ) (es : List (Changeset Instr)) → length cs ≡ 0 → from_place i (crossed_entries (reverse cs)) es ≡ es
none_left [] i es h = from_id i (crossed_entries []) es (λ l. refl)
none_left (c ∷ cs) i es h = absurd (omega (arith, h))

pub put_one-requires-clause-within : goal.put_one-requires-clause-within
put_one-requires-clause-within c =
    let size = same_length c.loop-one.items c.args.items.now c.loop-one.invariant.versions in
    let within = c.requires.within in
    omega (arith, size, within)

pub put_one-requires-clause-fits : goal.put_one-requires-clause-fits
put_one-requires-clause-fits c =
    let rest = c.pop.new.self.items in
    let turned : reverse c.loop-one.rest.items ≡ c.in-Some.one ∷ reverse rest = ap reverse c.in-Some.ensures.items ∙ reverse-append rest (c.in-Some.one ∷ []) in
    (subst (λ l. AllFit l (drop c.args.first (map kept_entry c.loop-one.items))) turned c.loop-one.invariant.fits).0

pub loop-one-preserved : goal.loop-one-preserved
loop-one-preserved c =
    let rest = c.pop.new.self.items in
    let one = c.in-Some.one in
    let first = c.args.first in
    let before : List (Changeset Instr) = map kept_entry c.loop-one.items in
    let turned : reverse c.loop-one.rest.items ≡ one ∷ reverse rest = ap reverse c.in-Some.ensures.items ∙ reverse-append rest (one ∷ []) in
    let fits = subst (λ l. AllFit l (drop first before)) turned c.loop-one.invariant.fits in
    let size = same_length c.loop-one.items c.args.items.now c.loop-one.invariant.versions in
    let count = length-map c.loop-one.items kept_entry in
    let requires = c.requires.within in
    let within : first ≤ length before = omega (arith, size, count, requires) in
    record {
      versions = c.put_one.ensures.versions ∙ c.loop-one.invariant.versions;
      entries = ap (from_place first (crossed_entries (reverse rest))) c.put_one.ensures.entries
          ∙ from_twice first (crossed_entries (reverse rest)) (put_crossed one) before
          ∙ ap (λ l. from_place first (crossed_entries l) before) (sym turned)
          ∙ c.loop-one.invariant.entries;
      fits = subst (AllFit (reverse rest)) (sym (ap (drop first) c.put_one.ensures.entries ∙ drop_from first (put_crossed one) before within)) fits.1;
      listed = c.put_one.ensures.listed;
    }

pub returns-clause-entries : goal.returns-clause-entries
returns-clause-entries c =
    let empty = c.in_default.ensures.cases.0 in
    let ok = c.loop-one.rest.ok.0 in
    sym (none_left c.loop-one.rest.items c.args.first (map kept_entry c.loop-one.items) (omega (arith, empty, ok))) ∙ c.loop-one.invariant.entries
