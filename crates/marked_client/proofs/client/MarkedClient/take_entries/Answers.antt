use Rattle.std.proofs.Common.{◌≡◌, ◌+◌, ◌≤◌, ◌<◌, map, drop, get_or, length, subst}
use Rattle.sync_exchange.specs.Seen.{sent_seen}
use Rattle.marked_client.proofs.Entries.{EntriesSoFar, at_first, ends, goes_on, left_at, none_left, stops}
use Rattle.marked_client.proofs.Firsts.{first_next, next_told, one_more, skipped_is}
use Rattle.marked_client.proofs.client.MarkedClient.take_entries.Goals as goal

pub loop-place-init : goal.loop-place-init
loop-place-init g c = record {
  so_far = λ records at k is passes.
      at_first records _ c.args.download.now.ident (c.args.download.now.from + c.saturating_sub-skipped.result) (map sent_seen (drop c.saturating_sub-skipped.result c.args.download.now.entries)) k
      (first_next records at c.args.self.now c.args.download.now c.cursor.result c.from.result c.saturating_sub-skipped.result is passes (c.cursor.ensures records k) c.from.ensures.value c.saturating_sub-skipped.ensures);
}

pub returns-in-Err : goal.returns-in-Err
returns-in-Err g c = record {
  does = λ records at k is passes.
      stops records c.loop-place.self c.take_entry.new.self c.args.download.now.ident (c.args.download.now.from + c.loop-place.place) (map sent_seen (drop c.saturating_sub-skipped.result c.args.download.now.entries)) (map sent_seen (drop c.loop-place.place c.args.download.now.entries)) (map sent_seen (drop (c.loop-place.place + 1) c.args.download.now.entries)) (sent_seen c.index-entries-place.result) c.in-Err.why _
      (left_at c.args.download.now.entries c.loop-place.place c.index-entries-place.result (subst (λ es. c.loop-place.place < length es) c.entries-place-end.ensures.value c.loop-place-test.true) (subst (λ es. c.index-entries-place.result ≡ get_or es c.loop-place.place c.index-entries-place.result) c.entries.ensures.value c.index-entries-place.is))
      (c.loop-place.invariant.so_far records at k is passes)
      (skipped_is records at c.args.self.now c.args.download.now c.cursor.result c.from.result c.saturating_sub-skipped.result k is passes (c.cursor.ensures records k) c.from.ensures.value c.saturating_sub-skipped.ensures)
      (λ rs krs n. c.in-Err.ensures.does rs krs (next_told rs c.args.download.now c.ident.result c.from-in-loop-place.result c.loop-place.place c.ident.ensures.value c.from-in-loop-place.ensures.value n));
}

pub loop-place-preserved : goal.loop-place-preserved
loop-place-preserved g c = record {
  so_far = λ records at k is passes.
      subst (λ v. EntriesSoFar records c.take_entry.new.self c.args.download.now.ident v (map sent_seen (drop c.saturating_sub-skipped.result c.args.download.now.entries)) (map sent_seen (drop (c.loop-place.place + 1) c.args.download.now.entries))) (one_more c.args.download.now.from c.loop-place.place)
      (goes_on records c.loop-place.self c.take_entry.new.self c.args.download.now.ident (c.args.download.now.from + c.loop-place.place) (map sent_seen (drop c.saturating_sub-skipped.result c.args.download.now.entries)) (map sent_seen (drop c.loop-place.place c.args.download.now.entries)) (map sent_seen (drop (c.loop-place.place + 1) c.args.download.now.entries)) (sent_seen c.index-entries-place.result)
      (left_at c.args.download.now.entries c.loop-place.place c.index-entries-place.result (subst (λ es. c.loop-place.place < length es) c.entries-place-end.ensures.value c.loop-place-test.true) (subst (λ es. c.index-entries-place.result ≡ get_or es c.loop-place.place c.index-entries-place.result) c.entries.ensures.value c.index-entries-place.is))
      (c.loop-place.invariant.so_far records at k is passes)
      (λ rs krs n. c.in-Ok.ensures.does rs krs (next_told rs c.args.download.now c.ident.result c.from-in-loop-place.result c.loop-place.place c.ident.ensures.value c.from-in-loop-place.ensures.value n)));
}

pub returns : goal.returns
returns g c = record {
  does = λ records at k is passes.
      ends records c.loop-place.self c.args.download.now.ident (c.args.download.now.from + c.loop-place.place) c.cursor-2.result (map sent_seen (drop c.saturating_sub-skipped.result c.args.download.now.entries)) (map sent_seen (drop c.loop-place.place c.args.download.now.entries)) _
      (none_left c.args.download.now.entries c.loop-place.place (subst (λ es. length es ≤ c.loop-place.place) c.entries-place-end.ensures.value c.loop-place-test.false))
      (c.loop-place.invariant.so_far records at k is passes)
      (skipped_is records at c.args.self.now c.args.download.now c.cursor.result c.from.result c.saturating_sub-skipped.result k is passes (c.cursor.ensures records k) c.from.ensures.value c.saturating_sub-skipped.ensures)
      (λ rs krs. c.cursor-2.ensures rs krs);
}
