use Rattle.std.proofs.Common.{Bool, List, Option, ℕ, length, sym, ap, subst}
use Rattle.sync_disk.specs.Disk.{Becomes, Elapses, Follows, Torn, put}
use Rattle.sync_disk.specs.Strokes.Act.{Write}
use Rattle.gathered_disk.specs.Gathered.{images_of, images_since_of, shown}
use Rattle.gathered_disk.specs.Strokes.{strokes_of}
use Rattle.gathered_disk.proofs.Stroking.{becomes, follows, elapses}
use Rattle.gathered_disk.proofs.gathered.GatheredDiskDisk.write_at.Goals as goal

pub returns-clause-written : goal.returns-clause-written
returns-clause-written g c b told =
    let m = c.args.self.now in
    let n = c.keep.new.self in
    let k = c.keep.ensures in
    let now = strokes_of n.asked.items in
    let below = g.D.Disk.content m.disk in
    subst (λ (o : Option (List ℕ)). Becomes b (put b c.args.place c.args.bytes.now) c.keep.result (shown n.closed o now)) (sym (ap g.D.Disk.content k.below))
    (subst (λ (x : Bool). Becomes b (put b c.args.place c.args.bytes.now) c.keep.result (shown x below now)) (sym k.closed)
    (becomes m.closed below (strokes_of m.asked.items) now (Write c.args.place c.args.bytes.now) b c.keep.result k.done k.refused k.only told))

pub returns-clause-crash : goal.returns-clause-crash
returns-clause-crash g c =
    let m = c.args.self.now in
    let n = c.keep.new.self in
    let k = c.keep.ensures in
    let old = strokes_of m.asked.items in
    let now = strokes_of n.asked.items in
    let below = g.D.Disk.content m.disk in
    subst (λ (o : Option (List ℕ)). Follows (Torn c.args.place (length c.args.bytes.now)) (images_of below old) (images_of o now)) (sym (ap g.D.Disk.content k.below))
    (follows below m.closed old now c.args.place c.args.bytes.now c.keep.result k.open k.done k.refused c.requires.within)

pub returns-clause-time : goal.returns-clause-time
returns-clause-time g c =
    let m = c.args.self.now in
    let n = c.keep.new.self in
    let k = c.keep.ensures in
    let old = strokes_of m.asked.items in
    let now = strokes_of n.asked.items in
    let below = g.D.Disk.content m.disk in
    subst (λ (o : Option (List ℕ)). Elapses (length old) (length now) (images_since_of below old) (images_since_of o now) (images_of o now)) (sym (ap g.D.Disk.content k.below))
    (elapses below old now (Write c.args.place c.args.bytes.now) c.keep.result k.done k.refused)
