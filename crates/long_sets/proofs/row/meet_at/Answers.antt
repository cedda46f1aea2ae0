use Rattle.std.proofs.Common.{get_or}
use Rattle.long_sets.proofs.Homes.{both_home, became_listed, fell_listed, stands}
use Rattle.long_sets.proofs.row.meet_at.Goals as goal

pub returns-then-fell-clause-listed : goal.returns-then-fell-clause-listed
returns-then-fell-clause-listed c =
    let xs = c.args.slots.now in
    let i = c.args.place in
    let x = get_or xs i c.index-slots-place.result in
    let u = c.meet_in_place.new.right in
    let home = (both_home c.args.left_later c.args.left.now x c.meet_in_place.new.left u c.in_ok-meet_in_place.ensures).1 in
    let there = became_listed c.args.index.now xs i x u (stands xs i c.index-slots-place.result c.requires.within) home c.requires.listed in
    fell_listed c.args.index.now c.change.new.self xs i u c.is_none-fell.result c.requires.within c.is_none-fell.ensures c.if-fell.true there c.change.ensures.kept

pub returns-else-fell-clause-listed : goal.returns-else-fell-clause-listed
returns-else-fell-clause-listed c =
    let xs = c.args.slots.now in
    let i = c.args.place in
    let x = get_or xs i c.index-slots-place.result in
    let u = c.meet_in_place.new.right in
    let home = (both_home c.args.left_later c.args.left.now x c.meet_in_place.new.left u c.in_ok-meet_in_place.ensures).1 in
    became_listed c.args.index.now xs i x u (stands xs i c.index-slots-place.result c.requires.within) home c.requires.listed
