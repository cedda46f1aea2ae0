use Rattle.std.proofs.Common.{◌≡◌, ◌++◌, ◌∷◌, [], List, ℕ, length, ◌∙◌, ap, rules}
use Rattle.std.specs.Int.{w64, to_le_bytes}
use Rattle.outbox_disk.proofs.Joined.{joined}
use Rattle.outbox_disk.proofs.outbox.add_write.Goals as goal

pub returns-clause-added : goal.returns-clause-added
returns-clause-added c =
    let first : c.push.new.self.items ≡ c.args.outbox.now.items ++ 0x57 ∷ [] = search rules in
    let place : c.extend_from_slice.new.self.items ≡ c.push.new.self.items ++ c.to_le_bytes.result = search rules in
    let count : c.extend_from_slice-2.new.self.items ≡ c.extend_from_slice.new.self.items ++ c.to_le_bytes-2.result = search rules in
    let bytes : c.extend_from_slice-3.new.self.items ≡ c.extend_from_slice-2.new.self.items ++ c.args.bytes.now = search rules in
    joined c.args.outbox.now.items (to_le_bytes w64 c.args.place) (to_le_bytes w64 (length c.args.bytes.now)) c.args.bytes.now 0x57 c.push.new.self.items c.extend_from_slice.new.self.items c.extend_from_slice-2.new.self.items c.extend_from_slice-3.new.self.items
    first (place ∙ ap (λ (l : List ℕ). c.push.new.self.items ++ l) c.to_le_bytes.ensures) (count ∙ ap (λ (l : List ℕ). c.extend_from_slice.new.self.items ++ l) c.to_le_bytes-2.ensures) bytes
