use Rattle.list_regions.proofs.Cutting.{loose_alike, loose_shrunk, shrunk_then}
use Rattle.list_regions.proofs.cut.cut_worn.Goals as goal

pub drop_spent-requires : goal.drop_spent-requires
drop_spent-requires c = loose_alike c.args.items.now c.cut_at.new.items c.requires c.cut_at.ensures

pub drop_spent-requires-2 : goal.drop_spent-requires-2
drop_spent-requires-2 c = loose_shrunk c.cut_at.new.items c.drop_spent.new.items (loose_alike c.args.items.now c.cut_at.new.items c.requires c.cut_at.ensures) c.drop_spent.ensures

pub returns : goal.returns
returns c = shrunk_then c.args.items.now c.cut_at.new.items c.drop_spent.new.items c.drop_spent-2.new.items c.cut_at.ensures c.drop_spent.ensures c.drop_spent-2.ensures
