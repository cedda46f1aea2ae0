use Rattle.std.proofs.Common.{◌≡◌, ◌+◌, ◌-◌, ◌∙◌, ap, take, drop, length, unwrap_or}
use Rattle.std.proofs.lemmas.List.{take_rest}
use Rattle.sync_io.specs.Reading.{feed_place}
use Rattle.sync_io.proofs.Feeds.{feed_behind, feed_or_length}
use Rattle.sync_io.proofs.line_reader.feed_place.Goals as goal

pub returns-clause-place : goal.returns-clause-place
returns-clause-place c =
    let rest = take (length c.args.bytes.now - c.args.seen) (drop c.args.seen c.args.bytes.now) in
    let found : c.unwrap_or.result ≡ feed_place rest = c.unwrap_or.ensures ∙ ap (λ o. unwrap_or o (length rest)) c.first_feed.ensures ∙ feed_or_length rest in
    ap (λ n. c.args.seen + n) (found ∙ ap feed_place (take_rest c.args.bytes.now c.args.seen)) ∙ feed_behind c.args.seen c.args.bytes.now c.requires
