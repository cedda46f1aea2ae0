use Rattle.std.proofs.Common.{refl, sym, subst, ◌∙◌}
use Rattle.list_places.specs.Places.{Within}
use Rattle.sync_recip.proofs.Making.{op_slot}
use Rattle.sync_recip.proofs.shifted.ShiftedEntry.op_in.Goals as goal

pub returns : goal.returns
returns c =
    let parts = c.parts_of-does.result in
    let told = c.parts_of-does.ensures in
    op_slot c.args.self.now _ c.args.length c.in_ok-action.action c.stamp-stamp.result (record { does = parts.0; place = parts.1; stamp = c.stamp-stamp.result }) (sym c.in_ok-action.ensures) (λ i. record { does = told.does i; place = told.place i; stamp = c.stamp-stamp.result }) c.stamp-stamp.ensures
    (sym told.prior ∙ c.if-prior-length.false) (subst (Within parts.0 parts.1) told.prior told.within) (sym (c.if-not-is_in_cell_of.ensures refl))
