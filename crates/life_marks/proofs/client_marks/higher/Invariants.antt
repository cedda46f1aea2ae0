use Rattle.std.proofs.Common.{◌≡◌, ◌++◌, drop, cond}
use Rattle.life_marks.specs.ClientMarks.{higher}
use Rattle.life_marks.proofs.client_marks.higher.Given as goal

-- what is left stands behind what there is, with the token among it unless it is there
abbrev pub invariant-loop-found : goal.invariant-loop-found
invariant-loop-found l = record { so_far : l.all.items ++ cond l.is_there (drop l.found-index l.found-items) (higher l.token (drop l.found-index l.found-items)) ≡ higher l.token l.fn.tokens.items }
