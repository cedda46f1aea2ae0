use Rattle.sync_data.specs.Orders.{key_cmp_total, key_cmp_exact}
use Rattle.sync_cells.specs.Undoing.{done, undone}
use Rattle.sync_maps.specs.Answers.{then_ok, then_so}
use Rattle.sync_maps.specs.Seen.{at_key}
use Rattle.sync_maps.specs.Through.{through_done, through_back}
use Rattle.sync_store.proofs.rows.Rows.edit.Goals as goal

pub returns-clause-done : goal.returns-clause-done
returns-clause-done c = then_ok c.edit.result (λ h.
    through_done key_cmp_total key_cmp_exact c.self.inside.objects c.args.key.now c.self.view_is c.in-Some.ensures.value (c.get_mut.follows.lender c.edit.new.self) c.edit.new.self (c.get_mut.follows.holds c.edit.new.self) (at_key c.args.column.now (done c.args.edit)) h) c.edit.ensures.done

pub returns-clause-former : goal.returns-clause-former
returns-clause-former c = then_so c.edit.result (λ f h.
    through_back key_cmp_total key_cmp_exact c.self.inside.objects c.args.key.now c.self.view_is c.in-Some.ensures.value (c.get_mut.follows.lender c.edit.new.self) c.edit.new.self (c.get_mut.follows.holds c.edit.new.self) (at_key c.args.column.now (undone c.args.edit f)) h) c.edit.ensures.former
