use Rattle.std.proofs.Common.{◌+◌, None, Ok, take, drop, sym, ◌∙◌, ap}
use Rattle.sync_law.specs.Instrs.{meet}
use Rattle.sync_transform.proofs.Turns.{row_over}
use Rattle.sync_transform.proofs.row.pass.Goals as goal

pub returns-then-not-stays-clause-ok : goal.returns-then-not-stays-clause-ok
returns-then-not-stays-clause-ok c =
    row_over (λ a b. meet a b c.args.left_later) _ (take c.in-Ok.field-0.next c.meet_at.new.rights) (c.loop-read.read + 1) c.in-Ok.field-0.stays c.meet_at.new.left (drop (c.loop-read.read + 1) c.meet_at.new.rights) c.if-not-stays.true (c.loop-read.invariant.so_far ∙ c.in-Ok.ensures.ok)
    ∙ ap (λ l. Ok (None, l)) (sym c.close-freed.ensures.rest)
