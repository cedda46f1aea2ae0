use Rattle.std.proofs.Common.{◌≡◌, sym, ◌∙◌, ap, subst}
use Rattle.sync_disk.specs.Images.{IsImage, state}
use Rattle.sync_disk.specs.ImageLaws.{only_synced}
use Rattle.sync_disk.specs.Leaving.{left_by}
use Rattle.sync_disk.specs.LeavingLaws.{left_after}
use Rattle.sync_disk.specs.Memory.{start_of, strokes_of}
use Rattle.sync_disk.proofs.memory.MemoryDisk.crash.Goals as goal

pub returns-clause-image : goal.returns-clause-image
returns-clause-image c f told =
    let m = c.args.self.now in
    let begun = start_of m.start m.bytes.items in
    let same : c.leave.new.bytes.items ≡ f = cc in
    let left = c.leave.ensures.content ∙ ap (λ l. left_by m.leaves (state begun (strokes_of l))) c.deref.ensures.value in
    subst (IsImage (state begun (strokes_of m.strokes.items))) (sym left ∙ same) (left_after m.leaves begun (strokes_of m.strokes.items))

pub returns-clause-synced : goal.returns-clause-synced
returns-clause-synced c f told g image =
    let same : c.leave.new.bytes.items ≡ f = cc in
    let again = ap (start_of c.begin.new.self) (sym c.deref-2.ensures.value) ∙ c.begin.ensures.start ∙ c.deref-2.ensures.value in
    let none = ap (λ l. state (start_of c.begin.new.self c.leave.new.bytes.items) (strokes_of l)) c.clear.ensures.items in
    only_synced (start_of c.begin.new.self c.leave.new.bytes.items) g (subst (λ s. IsImage s g) none image) ∙ again ∙ same
