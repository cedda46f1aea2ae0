use Rattle.list_regions.proofs.Popping.{whole_from}
use Rattle.list_regions.proofs.Dropping.{loose}
use Rattle.list_regions.proofs.pop.pop_number.Goals as goal

pub place_with-place-requires : goal.place_with-place-requires
place_with-place-requires c = whole_from c.args.number c.requires.whole c.requires.low

pub drop_spent-requires : goal.drop_spent-requires
drop_spent-requires c = loose c.args.items.now c.pop_slots-popped.new.items c.args.number c.pop_slots-popped.result c.requires c.pop_slots-popped.ensures
