use Rattle.std.proofs.Common.{sym, ◌∙◌, subst}
use Rattle.std.proofs.lemmas.Bool.{not-true}
use Rattle.sync_index.specs.Spots.{LieAt, Misses}
use Rattle.sync_index.proofs.Spotted.{misses_all}
use Rattle.sync_index.proofs.index.Index.passes_over.Goals as goal

pub returns-in-Some : goal.returns-in-Some
returns-in-Some c = λ e instrs there.
    subst (λ t. Misses t instrs) c.self.view_is
    (misses_all c.self.inside.filter (record { objects = c.self.inside.objects; schema = c.self.inside.schema }) c.in-Some.spot instrs c.self.invariant
    (sym c.is_marked.ensures ∙ not-true c.is_marked.result e) (subst (λ s. LieAt s instrs) c.in-Some.is there))
