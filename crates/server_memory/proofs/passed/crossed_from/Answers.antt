use Rattle.std.proofs.Common.{◌≡◌, ◌≢◌, ◌+◌, map, sym, ap, ◌∙◌, subst}
use Rattle.sync_recip.specs.Lists.{entry_of}
use Rattle.sync_model.specs.Fronts.{instrs_at}
use Rattle.server_memory.specs.Crossing.{passed_seen}
use Rattle.server_memory.proofs.Passing.{PairsSoFar, as_before_it, as_told, pairs_early, pairs_next, pairs_own}
use Rattle.server_memory.proofs.passed.crossed_from.Goals as goal
use Rattle.server_memory.proofs.passed.crossed_from.Goals.{then-version-first+then-entry-ident+in_ok-push_shared, in-Some, in-None, else-version-first, else-version-first-via-then-version-first+else-entry-ident, else-version-first-via-else-version-first}

pub loop-place-preserved : goal.loop-place-preserved
loop-place-preserved c =
    let place = c.loop-place.place in
    let made = c.loop-place.made in
    let s = c.loop-place.invariant in
    let e = c.index-entries-place.result in
    let within = c.loop-place-test.true in
    let here = c.index-entries-place.is in
    elim c.if-version-first.branch [
      | then-version-first+then-entry-ident+in_ok-push_shared w ↦
          let y = w.match-passed_at.entry.now in
          let ne : e.origin ≢ c.args.ident = λ x. w.if-entry-ident.true (ap (λ z. z.origin) w.entry.ensures ∙ x) in
          let told : entry_of y ≡ record (entry_of e) { instrs = instrs_at c.args.ident (c.args.floor + place) (map passed_seen c.args.passed.now) e.changes.instrs } =
          elim w.match-passed_at.branch [
            | in-Some w' ↦ ap (λ b. entry_of b.now) w'.entry-is ∙ as_told c.args.floor c.args.first c.args.ident c.args.entries.now c.args.passed.now place made s e within here c.requires.each w'.in-Some.found.now w'.in-Some.ensures
            | in-None w' ↦ ap (λ b. entry_of b.now) w'.entry-is ∙ as_before_it c.args.floor c.args.first c.args.ident c.args.entries.now c.args.passed.now place made s e within here w'.in-None.ensures
          ]
          in
          subst (PairsSoFar c.args.floor c.args.first c.args.ident c.args.entries.now c.args.passed.now (place + 1)) (sym w.made-is) (pairs_next c.args.floor c.args.first c.args.ident c.args.entries.now c.args.passed.now place made s e within here y w.push_shared.new.self ne w.if-version-first.true told w.in_ok-push_shared.ensures.ok)
      | else-version-first w ↦
          let keep = subst (PairsSoFar c.args.floor c.args.first c.args.ident c.args.entries.now c.args.passed.now (place + 1)) (sym w.made-is) in
          elim w.else-version-first.branch [
            | else-version-first-via-then-version-first+else-entry-ident w' ↦ keep (pairs_own c.args.floor c.args.first c.args.ident c.args.entries.now c.args.passed.now place made s e within here (sym (ap (λ x. x.origin) w'.entry.ensures) ∙ w'.if-entry-ident.false))
            | else-version-first-via-else-version-first w' ↦ keep (pairs_early c.args.floor c.args.first c.args.ident c.args.entries.now c.args.passed.now place made s e within here w'.if-version-first.false)
          ]
    ]
