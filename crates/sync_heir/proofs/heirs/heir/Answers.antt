use Rattle.std.proofs.Common.{◌≡◌, true, false, sym, ◌∙◌, arith}
use Rattle.sync_heir.proofs.Saving.{causes}
use Rattle.sync_heir.proofs.heirs.heir.Goals as goal

pub returns-clause-causes : goal.returns-clause-causes
returns-clause-causes g c = λ records is.
    let named : c.args.retired.now.by ≡ 0 → ⊥ = λ e. omega (arith, e, c.inherit.ensures.named) in
    causes records c.args.retired.now c.args.change.now c.inherit.new.client (λ rs by n m why opens ne. c.heirs_save_once.ensures.stops rs by n m why opens ne) is.kept.opens named
    c.inherit.result (λ e. let bad : true ≡ false = sym (c.inherit.ensures.closes.closed.0 e) ∙ is.open_ in cc) (c.inherit.ensures.does records is)
