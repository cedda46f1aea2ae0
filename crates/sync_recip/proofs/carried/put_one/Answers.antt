use Rattle.std.proofs.Common.{List, drop, map, sym, ap, subst, ◌∙◌, arith}
use Rattle.std.proofs.lemmas.List.{length-map}
use Rattle.sync_data.specs.declared.instr.Instr.{Instr}
use Rattle.sync_theory.specs.Changesets.{Changeset}
use Rattle.sync_recip.specs.declared.carried.Became.{Became}
use Rattle.sync_recip.specs.declared.carried.Became.TheVariants.{Moved, Changed}
use Rattle.sync_recip.specs.declared.carried.Crossed.{Crossed}
use Rattle.sync_recip.specs.declared.carried.Crossed.TheVariants.{Stretch}
use Rattle.sync_recip.specs.Lists.{kept_entry, lists_in}
use Rattle.sync_recip.specs.Acrossing.{put_across}
use Rattle.sync_recip.specs.Carrying.{put_crossed, with_crossed, FitsOne, LeftAt}
use Rattle.sync_recip.specs.Stretches.{from_place}
use Rattle.sync_recip.proofs.Behind.{across_further, can_further, left_further, one_within, stretch_within, with_further}
use Rattle.sync_recip.proofs.carried.put_one.Goals as goal

pub place_behind-place-requires : goal.place_behind-place-requires
place_behind-place-requires c =
    let ks = c.args.items.now in
    let fits = subst (λ (x : Crossed). FitsOne x (drop c.args.first (map kept_entry ks))) c.in-One.is c.requires.fits in
    one_within c.args.first c.in-One.place c.in-One.became ks c.requires.within fits

pub shift_one-requires-clause-left : goal.shift_one-requires-clause-left
shift_one-requires-clause-left c =
    let es : List (Changeset Instr) = map kept_entry c.args.items.now in
    let fits = subst (λ (x : Crossed). FitsOne x (drop c.args.first es)) c.in-One.is c.requires.fits in
    let left = subst (λ (x : Became). LeftAt c.in-One.place x (lists_in (drop c.args.first es))) c.in-Moved.is fits in
    subst (λ n. LeftAt n (Moved c.in-Moved.action) (lists_in es)) (sym c.place_behind-place.ensures) (left_further c.args.first c.in-One.place (Moved c.in-Moved.action) es left)

pub change_one-requires-clause-left : goal.change_one-requires-clause-left
change_one-requires-clause-left c =
    let es : List (Changeset Instr) = map kept_entry c.args.items.now in
    let fits = subst (λ (x : Crossed). FitsOne x (drop c.args.first es)) c.in-One.is c.requires.fits in
    let left = subst (λ (x : Became). LeftAt c.in-One.place x (lists_in (drop c.args.first es))) c.in-Changed.is fits in
    subst (λ n. LeftAt n (Changed c.in-Changed.entry) (lists_in es)) (sym c.place_behind-place.ensures) (left_further c.args.first c.in-One.place (Changed c.in-Changed.entry) es left)

pub returns-in-Moved-clause-entries : goal.returns-in-Moved-clause-entries
returns-in-Moved-clause-entries c =
    let es : List (Changeset Instr) = map kept_entry c.args.items.now in
    let first = c.args.first in
    let place = c.in-One.place in
    c.shift_one.ensures.entries
    ∙ ap (λ n. with_crossed n (Moved c.in-Moved.action) es) c.place_behind-place.ensures
    ∙ with_further first place (Moved c.in-Moved.action) es
    ∙ ap (λ (x : Became). from_place first (with_crossed place x) es) (sym c.in-Moved.is)
    ∙ ap (λ (x : Crossed). from_place first (put_crossed x) es) (sym c.in-One.is)

pub returns-in-Changed-clause-entries : goal.returns-in-Changed-clause-entries
returns-in-Changed-clause-entries c =
    let es : List (Changeset Instr) = map kept_entry c.args.items.now in
    let first = c.args.first in
    let place = c.in-One.place in
    c.change_one.ensures.entries
    ∙ ap (λ n. with_crossed n (Changed c.in-Changed.entry) es) c.place_behind-place.ensures
    ∙ with_further first place (Changed c.in-Changed.entry) es
    ∙ ap (λ (x : Became). from_place first (with_crossed place x) es) (sym c.in-Changed.is)
    ∙ ap (λ (x : Crossed). from_place first (put_crossed x) es) (sym c.in-One.is)

pub place_behind-start-requires : goal.place_behind-start-requires
place_behind-start-requires c =
    let ks = c.args.items.now in
    let fits = subst (λ (x : Crossed). FitsOne x (drop c.args.first (map kept_entry ks))) c.in-Stretch.is c.requires.fits in
    stretch_within c.args.first c.in-Stretch.across ks c.requires.within fits

pub cross-requires-clause-fits : goal.cross-requires-clause-fits
cross-requires-clause-fits c =
    let es : List (Changeset Instr) = map kept_entry c.args.items.now in
    let a = c.in-Stretch.across in
    let size = length-map c.args.items.now kept_entry in
    let within = c.requires.within in
    let fits = subst (λ (x : Crossed). FitsOne x (drop c.args.first es)) c.in-Stretch.is c.requires.fits in
    subst (λ n. FitsOne (Stretch (record a { start = n })) es) (sym c.place_behind-start.ensures) (can_further c.args.first a es (omega (arith, within, size)) fits)

pub returns-in-Stretch-clause-entries : goal.returns-in-Stretch-clause-entries
returns-in-Stretch-clause-entries c =
    let es : List (Changeset Instr) = map kept_entry c.args.items.now in
    let a = c.in-Stretch.across in
    c.cross.ensures.entries
    ∙ ap (λ n. put_across (record a { start = n }) es) c.place_behind-start.ensures
    ∙ across_further c.args.first a es
    ∙ ap (λ (x : Crossed). from_place c.args.first (put_crossed x) es) (sym c.in-Stretch.is)
