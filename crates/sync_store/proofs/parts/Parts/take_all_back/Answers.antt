use Rattle.std.proofs.Common.{sym, ◌∙◌, ap}
use Rattle.sync_store.specs.Backs.{all_back, back_last}
use Rattle.sync_store.proofs.parts.Parts.take_all_back.Goals as goal

pub loop-undo-preserved : goal.loop-undo-preserved
loop-undo-preserved c =
    ap (all_back c.pop.new.self.items) c.in_ok-take_back.ensures ∙ sym (back_last c.pop.new.self.items c.in-Some.undo c.loop-undo.self)
    ∙ ap (λ us. all_back us c.loop-undo.self) (sym c.in-Some.ensures.items) ∙ c.loop-undo.invariant
