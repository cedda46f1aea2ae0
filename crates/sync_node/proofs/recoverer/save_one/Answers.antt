use Rattle.std.proofs.Common.{◌++◌, ap, ◌∙◌}
use Rattle.sync_heir.specs.Heirs.{heir_seen, heir_step, reset_seen}
use Rattle.sync_node.specs.Recovering.{heir_lines}
use Rattle.sync_node.proofs.Recoverers.{refused_so, saved_so}
use Rattle.sync_node.proofs.recoverer.save_one.Goals as goal

pub returns-in-Ok-put_heir-clause-done : goal.returns-in-Ok-put_heir-clause-done
returns-in-Ok-put_heir-clause-done g c = λ records stands.
    let did = heir_step records c.args.retired.now c.args.change.now in
    let answer = heir_seen c.in-Ok.answer in
    saved_so c.args.number c.args.change.now.number did answer records c.args.out.now.items c.put_heir.new.out.items c.heir.new.client (c.in-Ok.ensures.does records stands.client) (c.in-Ok.ensures.survives records stands.client stands.stored).stored
    (c.in-Ok-put_heir.ensures ∙ ap (λ n. c.args.out.now.items ++ heir_lines c.args.number n answer) c.number.ensures.value)

pub returns-clause-done : goal.returns-clause-done
returns-clause-done g c = λ records stands.
    let did = heir_step records c.args.retired.now c.args.change.now in
    refused_so c.args.number c.args.change.now.number did (reset_seen c.in-Err.refusal) records c.args.out.now.items c.put_refusal.new.out.items c.heir.new.client (c.in-Err.ensures.does records stands.client) (c.in-Err.ensures.survives records stands.client stands.stored).stored
    c.in_ok-put_refusal-in-Err.ensures.put
