use Rattle.std.proofs.Common.{ap, sym}
use Rattle.std.proofs.lemmas.Slice.Eq.{bytes_eq-Decides}
use Rattle.sync_data.specs.Equality.{changes_decides}
use Rattle.sync_codec.specs.Spelling.{spelling}
use Rattle.sync_snapshot.proofs.growing.is_same_part.Goals as goal

pub returns-then-eq : goal.returns-then-eq
returns-then-eq c =
    let a = c.args.part.now in
    let b = c.args.other.now in
    sym ((bytes_eq-Decides (spelling a.instrs) (spelling b.instrs)).1 (ap (λ x. spelling x.instrs) ((changes_decides a b).0 (sym c.if-eq.ensures))))
