use Rattle.std.proofs.Common.{◌≡◌, ◌+◌, ◌≤◌, ◌++◌, Some, ◌∙◌, ap, sym, take, drop, length, arith, length-drop}
use Rattle.std.proofs.lemmas.List.{take_rest}
use Rattle.sync_io.proofs.Inputs.{read_and_left}
use Rattle.sync_io.proofs.memory_source.MemorySourceSource.read.Goals as goal

pub returns-clause-bytes : goal.returns-clause-bytes
returns-clause-bytes c =
    let n = c.min-count.result in
    let left : drop c.self.inside.place c.self.inside.bytes.items ≡ c.args.self.now.left = ap (λ v. v.left) c.self.view_is in
    let after : c.copy_from_slice.new.self ≡ take n (drop c.self.inside.place c.self.inside.bytes.items) = c.copy_from_slice.ensures.after ∙ rw take_rest (ap (λ b. take n (drop c.self.inside.place b)) c.deref-2.ensures.value) in
    let few : n ≤ length (drop c.self.inside.place c.self.inside.bytes.items) = omega (arith, length-drop c.self.inside.place c.self.inside.bytes.items, ap length c.deref-2.ensures.value) in
    ap Some (sym left ∙ read_and_left n c.self.inside.place c.self.inside.bytes.items c.args.into.now few ∙ ap (λ p. take n (p ++ drop n c.args.into.now) ++ drop (c.self.inside.place + n) c.self.inside.bytes.items) (sym after))
