use Rattle.std.proofs.Common.{◌≡◌, false, ap, sym, ◌∙◌, nat_eq, slice_index_or}
use Rattle.std.proofs.lemmas.Bool.{eq-eqb}
use Rattle.sync_client.proofs.Runs.{no_state}
use Rattle.sync_client.proofs.beginning.is_of_state.Goals as goal

pub returns-else-tag-eq-PART-clause-other : goal.returns-else-tag-eq-PART-clause-other
returns-else-tag-eq-PART-clause-other c = λ e. no_state c.args.bytes.now c.if-tag-eq-PART.false (λ is. let t = eq-eqb (slice_index_or c.args.bytes.now 0 0) 12 is in cc)
