use Rattle.std.proofs.Common.{◌∙◌, sym, ap}
use Rattle.sync_transform.specs.Sets.{made_by}
use Rattle.sync_recip.specs.Lists.{entry_of}
use Rattle.sync_recip.proofs.carry.changed.Goals as goal

pub returns-then-is-clause-is : goal.returns-then-is-clause-is
returns-then-is-clause-is c = λ k at. ap (made_by k.item.origin k.item.number) (sym (c.is.ensures c.if-is.true k at))

pub returns-in-Ok-clause-is : goal.returns-in-Ok-clause-is
returns-in-Ok-clause-is c = λ k at. ap entry_of c.in-Ok.ensures ∙ (λ i. made_by (c.origin.ensures k at i) (c.number.ensures k at i) c.args.changes)
