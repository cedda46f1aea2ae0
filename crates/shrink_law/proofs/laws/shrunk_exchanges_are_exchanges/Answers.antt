use Rattle.std.proofs.Common.{sym}
use Rattle.shrink_law.specs.Exchanges.{without_shrinks, all_shrinking, first_shrinking}
use Rattle.shrink_law.proofs.Worlds.{first_same, one_same}
use Rattle.shrink_law.proofs.laws.shrunk_exchanges_are_exchanges.Goals as goal

pub returns : goal.returns
returns g c =
    let p = g.E.Exchange.profile in
    record {
      same = first_same p;
      words = λ es e. (one_same p (all_shrinking p (first_shrinking p) es) (first_same p es).clients e).2;
      later = λ es. (without_shrinks es, sym (first_same p es).exchange);
    }
