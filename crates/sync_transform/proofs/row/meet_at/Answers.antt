use Rattle.std.proofs.Common.{◌≡◌, ◌+◌, Some, None, Err, IfOk, IfErr, cond, take, drop, refl, ap, ◌∙◌, subst}
use Rattle.std.proofs.Math.ListN.{set}
use Rattle.std.proofs.lemmas.List.{set-get_or}
use Rattle.sync_theory.specs.Lists.{row}
use Rattle.sync_theory.specs.Loops.{row_after}
use Rattle.sync_law.specs.Instrs.{meet}
use Rattle.sync_transform.proofs.Turns.{in_place}
use Rattle.sync_transform.proofs.row.meet_at.Goals as goal

pub returns-then-meet_where_they_lie-clause-ok : goal.returns-then-meet_where_they_lie-clause-ok
returns-then-meet_where_they_lie-clause-ok c =
    in_place (λ a b. meet a b c.args.left_later) c.args.rights.now c.settle-next.new.items c.args.written c.args.read c.settle-next.result c.index-rights-read.result c.meet_where_they_lie.new.right c.args.left.now c.meet_where_they_lie.new.left c.requires.within c.requires.order
    c.settle-next.ensures.before c.settle-next.ensures.after (c.if-meet_where_they_lie.ensures.both refl)

pub returns-clause-ok : goal.returns-clause-ok
returns-clause-ok c =
    let rights = ap (set c.args.rights.now c.args.read) (c.if-meet_where_they_lie.ensures.right refl) ∙ set-get_or c.args.rights.now c.args.read c.index-rights-read.result in
    subst (λ l. IfOk c.meet_apart.result (λ s. row_after (take c.args.written l) c.args.read (row (λ a b. meet a b c.args.left_later) (Some c.args.left.now) (drop c.args.read l)) ≡ row_after (take s.next c.meet_apart.new.rights) (c.args.read + 1) (row (λ a b. meet a b c.args.left_later) (cond s.stays (Some c.meet_apart.new.left) None) (drop (c.args.read + 1) c.meet_apart.new.rights)))) rights
    (subst (λ a. IfOk c.meet_apart.result (λ s. row_after (take c.args.written (set c.args.rights.now c.args.read c.meet_where_they_lie.new.right)) c.args.read (row (λ a b. meet a b c.args.left_later) (Some a) (drop c.args.read (set c.args.rights.now c.args.read c.meet_where_they_lie.new.right))) ≡ row_after (take s.next c.meet_apart.new.rights) (c.args.read + 1) (row (λ a b. meet a b c.args.left_later) (cond s.stays (Some c.meet_apart.new.left) None) (drop (c.args.read + 1) c.meet_apart.new.rights))))
    (c.if-meet_where_they_lie.ensures.left refl) c.meet_apart.ensures.ok)

pub returns-clause-err : goal.returns-clause-err
returns-clause-err c =
    let rights = ap (set c.args.rights.now c.args.read) (c.if-meet_where_they_lie.ensures.right refl) ∙ set-get_or c.args.rights.now c.args.read c.index-rights-read.result in
    subst (λ l. IfErr c.meet_apart.result (λ kind. row_after (take c.args.written l) c.args.read (row (λ a b. meet a b c.args.left_later) (Some c.args.left.now) (drop c.args.read l)) ≡ Err (c.args.read, kind))) rights
    (subst (λ a. IfErr c.meet_apart.result (λ kind. row_after (take c.args.written (set c.args.rights.now c.args.read c.meet_where_they_lie.new.right)) c.args.read (row (λ a b. meet a b c.args.left_later) (Some a) (drop c.args.read (set c.args.rights.now c.args.read c.meet_where_they_lie.new.right))) ≡ Err (c.args.read, kind)))
    (c.if-meet_where_they_lie.ensures.left refl) c.meet_apart.ensures.err)
