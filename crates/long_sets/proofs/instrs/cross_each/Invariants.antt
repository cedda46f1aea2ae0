use Rattle.std.proofs.Common.{◌≡◌, length, take}
use Rattle.sync_rivals.specs.Lists.{Lists}
use Rattle.long_sets.specs.Rows.{lists_in, CrossInTurn}
use Rattle.long_sets.proofs.instrs.cross_each.Given as goal

abbrev pub invariant-loop-place : goal.invariant-loop-place
invariant-loop-place l = record {
  size : length l.slots ≡ length l.rights;
  listed : Lists l.index (lists_in l.slots);
  turn : CrossInTurn l.left_later (take l.place l.left) l.initial.slots l.rest.items l.slots;
}
