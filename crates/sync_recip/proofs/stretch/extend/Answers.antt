use Rattle.std.proofs.Common.{sym, ◌∙◌}
use Rattle.sync_recip.proofs.Making.{push_shown, push_stands, push_more}
use Rattle.sync_recip.proofs.stretch.extend.Goals as goal

pub returns-in-Some-clause-shown : goal.returns-in-Some-clause-shown
returns-in-Some-clause-shown c = push_shown c.args.kept.now c.args.stretch.now c.in-Some.slot c.in-Some.ensures c.push_slot.result c.push_slot.new.lane c.push_slot.ensures.ok c.push_slot.ensures.unchanged

pub returns-in-Some-clause-stands : goal.returns-in-Some-clause-stands
returns-in-Some-clause-stands c = push_stands c.args.kept.now c.args.stretch.now c.in-Some.slot c.in-Some.ensures c.push_slot.result c.push_slot.new.lane c.push_slot.ensures.ok c.push_slot.ensures.unchanged c.requires

pub returns-in-Some-clause-more : goal.returns-in-Some-clause-more
returns-in-Some-clause-more c = λ told. push_more c.args.kept.now c.args.stretch.now c.in-Some.slot c.in-Some.ensures c.push_slot.result c.push_slot.new.lane c.push_slot.ensures.ok (sym c.is_ok.ensures.value ∙ told)
