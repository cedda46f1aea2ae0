use Rattle.std.proofs.Common.{◌≡◌, true, false, not, ◌&&◌, ap, sym, ◌∙◌}
use Rattle.std.specs.List.{list_any}
use Rattle.sync_codec.specs.Spelling.{needs_second}
use Rattle.sync_model.specs.Profile.{needs}
use Rattle.sync_exchange.specs.Profile.{the_profile}
use Rattle.sync_client.proofs.Needs.{needs_is}
use Rattle.sync_client.proofs.entries.exceeds.Goals as goal

pub returns-then-any_needs_second : goal.returns-then-any_needs_second
returns-then-any_needs_second c =
    let some : needs the_profile c.args.changes.now.instrs ≡ true = needs_is c.args.changes.now.instrs ∙ ap (list_any needs_second) (sym c.instrs.ensures.listed) ∙ sym c.any_needs_second.ensures ∙ c.if-any_needs_second.true in
    sym (ap (λ b. b && not c.args.second) some)

pub returns-else-any_needs_second : goal.returns-else-any_needs_second
returns-else-any_needs_second c =
    let none : needs the_profile c.args.changes.now.instrs ≡ false = needs_is c.args.changes.now.instrs ∙ ap (list_any needs_second) (sym c.instrs.ensures.listed) ∙ sym c.any_needs_second.ensures ∙ c.if-any_needs_second.false in
    c.if-any_needs_second.false ∙ sym (ap (λ b. b && not c.args.second) none)
