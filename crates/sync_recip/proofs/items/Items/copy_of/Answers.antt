use Rattle.sync_recip.proofs.items.Items.copy_of.Goals as goal

pub returns-in-Ok : goal.returns-in-Ok
returns-in-Ok c = λ k at i. record { origin = c.origin.ensures k at i; number = c.number.ensures k at i; changes = c.in-Ok.ensures k at i }
