use Rattle.std.proofs.Common.{◌≡◌, Option, map, true, sym, ap, ◌∙◌, subst}
use Rattle.std.specs.Option.{option_map}
use Rattle.std.specs.Prelude.{IfSome}
use Rattle.sync_data.specs.Payload.{Changes}
use Rattle.sync_exchange.specs.Profile.{fits_changeset}
use Rattle.sync_recip.specs.Lists.{entry_of}
use Rattle.sync_model.specs.Fronts.{numbers_on}
use Rattle.sync_model.specs.Parts.{at_ident}
use Rattle.server_memory.specs.Fronting.{carried_seen, grown_seen}
use Rattle.server_memory.proofs.Entering.{enters}
use Rattle.server_memory.proofs.carried.Grown.take_entry.Goals as goal

pub returns-in-Ok-Some : goal.returns-in-Ok-Some
returns-in-Ok-Some c =
    let gs = c.args.idents.now in
    let e = carried_seen c.args.origin c.args.head c.args.body.now in
    let found = c.in-Ok-Some.ensures in
    let is = c.in-Ok-Some.field-0-is in
    let next = ap (λ l. numbers_on (map entry_of l) e (at_ident e.origin gs)) (sym c.as_slice.ensures.value) ∙ sym (c.is_next.ensures c.args.body.now) ∙ c.if-not-is_next.false in
    let read = sym found.listed ∙ ap (option_map (λ (v : Changes). v.instrs)) is in
    let timed = subst (λ (o : Option Changes). IfSome o (λ v. v.ms ≡ c.args.head.ms)) is found.timed in
    let small = subst (λ (o : Option Changes). IfSome o (λ v. fits_changeset v.instrs ≡ true)) is found.small in
    enters c.args.second gs (grown_seen c.args.self.now) (grown_seen c.grow.new.self) e c.in-Ok-Some.changes c.grow.result next read timed small c.grow.ensures
