use Rattle.std.proofs.Common.{◌≡◌, ◌-◌, false, length, map, drop, sym, ap, ◌∙◌, arith}
use Rattle.std.specs.Prelude.{not, ◌&&◌}
use Rattle.std.specs.Option.{option_copied}
use Rattle.sync_messages.specs.Parts.{DownloadParts}
use Rattle.sync_model.specs.Messages.{Message}
use Rattle.sync_exchange.specs.Seen.{sent_seen}
use Rattle.server_memory.specs.Sending.{given_to, sendable, starts_second}
use Rattle.server_memory.proofs.Sending.{downloaded, not_asked, not_needed}
use Rattle.server_memory.proofs.kept.Kept.send.Goals as goal
use Rattle.server_memory.proofs.kept.Kept.send.Goals.{then-not-second+in-Ok-false, else-not-second}

pub sent_entries-requires : goal.sent_entries-requires
sent_entries-requires c = (length c.args.self.now.history.idents, c.from-entries.ensures.each)

pub new-requires-clause-within : goal.new-requires-clause-within
new-requires-clause-within c = omega (arith, c.in_ok-sent.ensures.short, c.from-entries.ensures.short)

pub returns : goal.returns
returns c =
    let h = c.args.self.now.history in
    let o = option_copied c.args.tables in
    let xs = drop (c.args.cursor - h.floor) h.entries in
    let shown : (not c.args.second && starts_second (given_to o xs)) ≡ false =
    elim c.if-not-second.branch [
      | then-not-second+in-Ok-false w ↦ not_needed c.args.second (starts_second (given_to o xs)) (ap (λ l. starts_second (given_to o l)) (sym c.from-entries.ensures.entries) ∙ sym w.in-Ok-false.ensures ∙ w.in-Ok-false.field-0-test)
      | else-not-second w ↦ not_asked c.args.second (starts_second (given_to o xs)) w.if-not-second.false
    ]
    in
    ap (λ (s : DownloadParts). Message.Download s.ident s.from (map sent_seen s.entries)) c.new.ensures
    ∙ ap (λ l. Message.Download c.args.ident c.args.cursor l) (c.in_ok-sent.ensures.sent ∙ ap (λ l. sendable c.args.second (given_to o l)) c.from-entries.ensures.entries)
    ∙ sym (downloaded o c.args.second c.args.ident c.args.cursor xs shown)
