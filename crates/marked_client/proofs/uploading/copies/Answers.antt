use Rattle.std.proofs.Common.{◌≤◌, length, subst, sym}
use Rattle.sync_messages.specs.Parts.{bytes_of_changes}
use Rattle.marked_client.proofs.Beginnings.{few_of, small_of}
use Rattle.marked_client.proofs.uploading.copies.Goals as goal

pub returns-clause-few : goal.returns-clause-few
returns-clause-few c = subst (λ xs. length xs ≤ length c.args.all.now) (sym c.loop-place.invariant.so_far) (few_of c.loop-place.place c.args.all.now)

pub returns-clause-small : goal.returns-clause-small
returns-clause-small c = subst (λ xs. bytes_of_changes xs ≤ bytes_of_changes c.args.all.now) (sym c.loop-place.invariant.so_far) (small_of c.loop-place.place c.args.all.now)
