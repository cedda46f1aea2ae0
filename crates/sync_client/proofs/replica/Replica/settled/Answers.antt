use Rattle.std.proofs.Common.{min, refl, ap, ◌∙◌}
use Rattle.sync_client.proofs.Asking.{base_is}
use Rattle.sync_client.proofs.replica.Replica.settled.Goals as goal

pub returns-in-Some-clause-value : goal.returns-in-Some-clause-value
returns-in-Some-clause-value c =
    let now = c.args.self.now in
    c.min.ensures ∙ ap (λ n. min n now.cursor) (c.base.ensures ∙ base_is now.cursor now.unsent c.in-Some.unsent.now (c.in-Some.ensures.there.0 refl) c.in-Some.ensures.value)
