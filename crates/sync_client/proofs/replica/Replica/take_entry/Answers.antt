use Rattle.std.proofs.Common.{refl, sym, ◌∙◌}
use Rattle.sync_data.specs.declared.entry.Entry.{Entry}
use Rattle.sync_client.proofs.Refusing.{SameEntry, own_answers, other_answers}
use Rattle.sync_client.proofs.replica.Replica.take_entry.Goals as goal

pub returns-then-entry-self-clause-step : goal.returns-then-entry-self-clause-step
returns-then-entry-self-clause-step c =
    let d = c.in_ok-changes.ensures.read in
    let x : Entry = record { origin = c.args.origin; number = c.args.number; changes = c.in_ok-changes.changes } in
    let s : SameEntry x (record { origin = c.args.origin; number = c.args.number; ms = c.args.ms; body = c.args.body.now }) = record { origin = refl; number = refl; ms = d.time; valid = d.valid; bytes = d.bytes } in
    λ past lists. own_answers past c.args.self.now c.take_own.new.self x (record { origin = c.args.origin; number = c.args.number; ms = c.args.ms; body = c.args.body.now }) c.in_ok-changes.changes c.take_own.result d s (sym c.is_beyond.ensures ∙ c.if-is_beyond.false) c.if-entry-self.true lists
    c.take_own.ensures.head c.take_own.ensures.took c.take_own.ensures.forked c.take_own.ensures.differs c.take_own.ensures.unchanged

pub returns-else-entry-self-clause-step : goal.returns-else-entry-self-clause-step
returns-else-entry-self-clause-step c =
    let d = c.in_ok-changes.ensures.read in
    let x : Entry = record { origin = c.args.origin; number = c.args.number; changes = c.in_ok-changes.changes } in
    let s : SameEntry x (record { origin = c.args.origin; number = c.args.number; ms = c.args.ms; body = c.args.body.now }) = record { origin = refl; number = refl; ms = d.time; valid = d.valid; bytes = d.bytes } in
    λ past lists. other_answers past c.args.self.now c.take_other.new.self x (record { origin = c.args.origin; number = c.args.number; ms = c.args.ms; body = c.args.body.now }) c.take_other.result d.read s (sym c.is_beyond.ensures ∙ c.if-is_beyond.false) (λ e. c.if-entry-self.false (sym e)) lists
    c.take_other.ensures.took c.take_other.ensures.refused
