use Rattle.std.proofs.Common.{ap, ◌∙◌}
use Rattle.marked_client.specs.Marked.{token_test}
use Rattle.marked_client.proofs.client.MarkedClient.reached_refusal.Goals as goal

pub returns : goal.returns
returns g c = c.token_refusal.ensures ∙ ap (λ reached. token_test reached c.args.token c.args.frontier.now) c.reached.ensures
