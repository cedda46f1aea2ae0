use Rattle.std.proofs.Common.{◌≡◌, ◌++◌, ◌∷◌, [], List, ℕ, length, sym, ◌∙◌, ap, arith, rules}
use Rattle.sync_disk.specs.Memory.{start_of, strokes_of, stroke_of, act_of}
use Rattle.sync_disk.specs.Images.{acted, state}
use Rattle.sync_disk.proofs.Tearing.{content_push, acted_grows}
use Rattle.sync_disk.proofs.Replay.{pushed}
use Rattle.sync_disk.proofs.Marks.{failures_more, losses_more, counted_none}
use Rattle.sync_disk.proofs.memory.MemoryDisk.take.Goals as goal

pub invariant_of-self : goal.invariant_of-self
invariant_of-self c =
    let m = c.args.self.now in
    let x = c.args.stroke in
    let begun = start_of m.start m.bytes.items in
    let new = c.push.new.self.items in
    let is : new ≡ m.strokes.items ++ x ∷ [] = search rules in
    let same : start_of m.start c.act.new.content.items ≡ begun = ap (start_of m.start) c.act.ensures.content ∙ c.requires.start in
    record {
      in_step =
          c.act.ensures.content ∙ ap (λ (b : List ℕ). acted b (act_of x.asked) x.lost) m.in_step ∙ sym (content_push begun (strokes_of m.strokes.items) (stroke_of x) (strokes_of new) (pushed m.strokes.items new x is))
          ∙ ap (λ (b : List ℕ). (state b (strokes_of new)).content) (sym same);
      within = omega (arith, m.within, ap length c.act.ensures.content, acted_grows m.bytes.items (act_of x.asked) x.lost);
      marked = λ none. let before = counted_none m.failing.items (sym c.count_call.ensures ∙ none) in failures_more m.stop m.strokes.items new x is (c.requires.failed before) (m.marked before);
      losing = losses_more m.stop m.strokes.items new x is c.requires.lost m.losing;
    }
