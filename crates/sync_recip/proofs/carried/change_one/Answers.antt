use Rattle.std.proofs.Common.{List, map, sym, ◌∙◌, ap, subst, arith}
use Rattle.std.proofs.lemmas.List.{length-map}
use Rattle.sync_data.specs.declared.entry.Entry.{Entry}
use Rattle.sync_data.specs.declared.instr.Instr.{Instr}
use Rattle.sync_theory.specs.Changesets.{Changeset}
use Rattle.sync_rivals.specs.Lists.{Lists, StaysAt, put_list}
use Rattle.sync_recip.specs.declared.carried.Became.TheVariants.{Changed}
use Rattle.sync_recip.specs.Lists.{kept_entry, lists_in}
use Rattle.sync_recip.proofs.Indexed.{left_inside, lists_changed, stays_changed}
use Rattle.sync_recip.proofs.carried.change_one.Goals as goal

pub listed-before-requires : goal.listed-before-requires
listed-before-requires c =
    let there = left_inside (map kept_entry c.args.items.now) c.args.place (Changed c.args.entry) c.requires.left in
    let size = length-map c.args.items.now kept_entry in
    omega (arith, there, size)

pub returns-clause-listed : goal.returns-clause-listed
returns-clause-listed c =
    let es : List (Changeset Instr) = map kept_entry c.args.items.now in
    let place = c.args.place in
    let after = c.instrs-after.ensures.listed ∙ ap (λ (e : Entry). e.changes.instrs) c.entry.ensures in
    let stays = stays_changed place c.args.entry es c.requires.left in
    let listed = c.change.ensures.kept (lists_in es) c.requires.listed (subst (λ l. StaysAt place l (lists_in es)) (sym after) stays) in
    subst (λ l. Lists c.change.new.self (lists_in l)) (sym c.put.ensures.entries)
    (subst (Lists c.change.new.self) (sym (lists_changed place c.args.entry es)) (subst (λ l. Lists c.change.new.self (put_list place l (lists_in es))) after listed))
