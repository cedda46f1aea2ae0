use Rattle.std.proofs.Common.{◌≡◌, ◌++◌, length, rules}
use Rattle.std.specs.Int.{w64, to_le_bytes}
use Rattle.sync_host.specs.Replies.{word}
use Rattle.sync_host.proofs.Pieces.{five}
use Rattle.sync_host.proofs.head.put_borne.Goals as goal

pub returns : goal.returns
returns c =
    let first : c.put_word.new.out.items ≡ c.args.out.now.items ++ word c.args.first = search rules in
    let second : c.put_word-2.new.out.items ≡ c.put_word.new.out.items ++ word c.args.second = search rules in
    let ms : c.put_wide.new.out.items ≡ c.put_word-2.new.out.items ++ to_le_bytes w64 c.args.ms = search rules in
    let size : c.put_word-3.new.out.items ≡ c.put_wide.new.out.items ++ word (length c.args.body.now) = search rules in
    let body : c.extend_from_slice.new.self.items ≡ c.put_word-3.new.out.items ++ c.args.body.now = search rules in
    five c.args.out.now.items (word c.args.first) (word c.args.second) (to_le_bytes w64 c.args.ms) (word (length c.args.body.now)) c.args.body.now c.put_word.new.out.items c.put_word-2.new.out.items c.put_wide.new.out.items c.put_word-3.new.out.items c.extend_from_slice.new.self.items
    first second ms size body
