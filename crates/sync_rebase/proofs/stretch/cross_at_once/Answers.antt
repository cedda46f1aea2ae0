use Rattle.std.proofs.Common.{Some, refl, sym, ap, ◌∙◌}
use Rattle.sync_rebase.proofs.Making.{on_ok, on_err}
use Rattle.sync_rebase.proofs.stretch.cross_at_once.Goals as goal

pub returns-then-takes-clause-crossed : goal.returns-then-takes-clause-crossed
returns-then-takes-clause-crossed c = λ told. record {
  stretch = c.in-Some.stretch;
  was = c.in-Some.is;
  takes = c.if-takes.ensures.takes refl;
  chains = c.takes.ensures.chains;
  within = c.cross_lane.ensures.within;
  is = ap Some (on_ok c.cross_lane.result (sym c.is_ok.ensures.value ∙ told) c.cross_lane.ensures.crossed);
}

pub returns-then-takes-clause-unchanged : goal.returns-then-takes-clause-unchanged
returns-then-takes-clause-unchanged c = λ told. ap Some (on_err c.cross_lane.result (sym c.is_ok.ensures.value ∙ told) c.cross_lane.ensures.unchanged) ∙ sym c.in-Some.is
