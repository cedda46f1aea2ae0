use Rattle.std.proofs.Common.{◌≡◌, ◌+◌, ◌-◌, ◌<◌, ◌++◌, ◌∷◌, [], length, map, ap, ◌∙◌, subst, arith, length-append}
use Rattle.std.specs.Option.{option_copied, option_map}
use Rattle.sync_recip.specs.Lists.{entry_of}
use Rattle.sync_messages.specs.Parts.{bytes_of_entries}
use Rattle.sync_model.specs.Profile.{restricted}
use Rattle.sync_exchange.specs.Profile.{the_profile}
use Rattle.sync_exchange.specs.Seen.{sent_seen}
use Rattle.server_memory.specs.Sending.{fits_next, given_to, sendable}
use Rattle.server_memory.proofs.Sending.{one_sent, rest_at, bytes_more, fits_room}
use Rattle.server_memory.proofs.asking.sent_entries.Goals as goal

pub loop-shared-preserved : goal.loop-shared-preserved
loop-shared-preserved c =
    let o = option_copied c.args.tables in
    let next = c.in-Ok-Some.next in
    let sent = c.loop-shared.sent.items in
    let now = c.keep.new.items.items in
    let i = c.loop-shared.shared-index in
    let few : length sent < 4096 = omega (arith, c.loop-shared.invariant.few, c.len.ensures, c.loop-shared.sent.ok.0, c.if-len-eq-MOST_LISTED.false) in
    let fits = subst (λ r. option_map sent_seen r ≡ fits_next c.args.second c.loop-shared.room (restricted the_profile o (entry_of c.shared-item.result))) c.in-Ok-Some.field-0-is (c.in-Ok-Some.ensures ∙ ap (λ e. fits_next c.args.second c.loop-shared.room (restricted the_profile o (entry_of e))) c.entry.ensures) in
    let size = ap length c.body.ensures.value in
    let within = fits_room c.args.second c.loop-shared.room (restricted the_profile o (entry_of c.shared-item.result)) next fits in
    let long = ap length c.in_ok-keep-in-Ok-Some.ensures.ok ∙ length-append sent (next ∷ []) in
    let more = ap bytes_of_entries c.in_ok-keep-in-Ok-Some.ensures.ok ∙ bytes_more sent next in
    record {
      sent = ap (λ n. map sent_seen now ++ rest_at o c.args.second (4096 - length now) (c.loop-shared.room - n) c.args.entries.now (i + 1)) size
          ∙ one_sent o c.args.second c.args.entries.now i c.shared-item.result sent now c.loop-shared.room next (sendable c.args.second (given_to o (map entry_of c.args.entries.now))) c.loop-shared-test.true c.shared-item.is few fits c.in_ok-keep-in-Ok-Some.ensures.ok c.loop-shared.invariant.sent;
      few = omega (arith, long, few);
      bytes = omega (arith, more, size, within, c.loop-shared.invariant.bytes);
      short = omega (arith, long, c.loop-shared.invariant.short);
    }
