use Rattle.std.proofs.Common.{◌≡◌, Some, Ok, sym, ◌∙◌, ap, drop, subst, arith}
use Rattle.std.proofs.lemmas.List.{take_rest}
use Rattle.std.specs.Option.{option_copied}
use Rattle.sync_theory.specs.Lists.{row}
use Rattle.sync_law.specs.Instrs.{meet}
use Rattle.sync_transform.specs.Indexes.{IsCovered}
use Rattle.sync_transform.proofs.Covered.{row_covered}
use Rattle.sync_transform.proofs.Parts.{rest_part, length_part}
use Rattle.sync_transform.proofs.Turns.{cross_turn}
use Rattle.sync_transform.proofs.crossing.cross_slices.Goals as goal

pub loop-read-preserved : goal.loop-read-preserved
loop-read-preserved c =
    let order = c.loop-read.invariant.order in
    let within = c.loop-read-test.true in
    let next = c.lay-written.ensures.next in
    let front = c.loop-read.invariant.freed in
    let gone = c.in-Ok.ensures.freed in
    let same = c.pass_indexed.auto.rights in
    let ends = length_part c.loop-read.rights c.pass_indexed.new.rights c.loop-read.freed front in
    let rest = rest_part c.loop-read.rights c.pass_indexed.new.rights c.loop-read.freed front c.in-Ok.passed.freed in
    let m : row (λ a b. meet a b c.args.left_later) (Some c.lift-left.result) (drop c.loop-read.freed c.loop-read.rights) ≡ Ok (c.in-Ok.passed.left, drop c.in-Ok.passed.freed c.pass_indexed.new.rights) =
    ap (row (λ a b. meet a b c.args.left_later) (Some c.lift-left.result)) (sym (take_rest c.loop-read.rights c.loop-read.freed)) ∙ c.in-Ok.ensures.ok in
    record {
      so_far = cross_turn c.loop-read.lefts c.lift-left.new.items c.lay-written.new.items c.loop-read.written c.loop-read.read c.lay-written.result c.lift-left.result c.in-Ok.passed.left c.lift-left.ensures.after c.lift-left.ensures.before c.lay-written.ensures.before c.lay-written.ensures.after order
          (λ a b. meet a b c.args.left_later) _ (drop c.loop-read.freed c.loop-read.rights) _ c.loop-read.invariant.so_far (m ∙ ap (λ l. Ok (c.in-Ok.passed.left, l)) (sym rest));
      order = omega arith;
      within = omega arith;
      freed = omega arith;
      indexed = subst (IsCovered (option_copied c.args.index)) (sym rest) (row_covered c.args.left_later (option_copied c.args.index) c.lift-left.result (drop c.loop-read.freed c.loop-read.rights) _ c.in-Ok.passed.left m c.loop-read.invariant.indexed);
    }
