use Rattle.std.proofs.Common.{◌≡◌}
use Rattle.sync_base.specs.States.{no_state}
use Rattle.sync_top.proofs.Summing.{drawn_by, drawn_for_none}
use Rattle.sync_top.proofs.progress.Progress.drawn_edit.Goals as goal

pub returns-in-Some-clause-edit : goal.returns-in-Some-clause-edit
returns-in-Some-clause-edit c = λ w h. (drawn_by w c.args.name.now c.in-Some.client.now c.objects.result.now c.args.self.now.draws c.edit.new.self c.edit.result (c.in-Some.ensures.some w h) c.objects.ensures c.edit.ensures.edit c.edit.ensures.state).0

pub returns-in-Some-clause-draws : goal.returns-in-Some-clause-draws
returns-in-Some-clause-draws c = λ w h. (drawn_by w c.args.name.now c.in-Some.client.now c.objects.result.now c.args.self.now.draws c.edit.new.self c.edit.result (c.in-Some.ensures.some w h) c.objects.ensures c.edit.ensures.edit c.edit.ensures.state).1

pub returns-in_ok-nothing-in-None-clause-edit : goal.returns-in_ok-nothing-in-None-clause-edit
returns-in_ok-nothing-in-None-clause-edit c = λ w h.
    let empty : c.in_ok-nothing-in-None.nothing ≡ no_state = cc (c.in_ok-nothing-in-None.ensures.empty) in
    (drawn_for_none w c.args.name.now c.in_ok-nothing-in-None.nothing c.args.self.now.draws c.edit-in-None.new.self c.edit-in-None.result (c.in-None.ensures.none w h) empty c.edit-in-None.ensures.edit c.edit-in-None.ensures.state).0

pub returns-in_ok-nothing-in-None-clause-draws : goal.returns-in_ok-nothing-in-None-clause-draws
returns-in_ok-nothing-in-None-clause-draws c = λ w h.
    let empty : c.in_ok-nothing-in-None.nothing ≡ no_state = cc (c.in_ok-nothing-in-None.ensures.empty) in
    (drawn_for_none w c.args.name.now c.in_ok-nothing-in-None.nothing c.args.self.now.draws c.edit-in-None.new.self c.edit-in-None.result (c.in-None.ensures.none w h) empty c.edit-in-None.ensures.edit c.edit-in-None.ensures.state).1
