use Rattle.std.proofs.Common.{refl, subst, sym}
use Rattle.sync_node.specs.Commands.{TellsText}
use Rattle.sync_node.specs.Showing.{file_as, node_file, shown}
use Rattle.sync_node.proofs.Opened.{same_err, tells_bad}
use Rattle.sync_node.proofs.Shown.{bad_journal, rose_later, sorted_tells, tells_of_client, tells_of_server}
use Rattle.sync_node.proofs.Telling.{open_no_write, open_tells, open_unmade, writes_none}
use Rattle.sync_node.proofs.showing.show_node.Goals as goal

pub returns-then-sorted-clause-tells : goal.returns-then-sorted-clause-tells
returns-then-sorted-clause-tells g c =
    let D = g.D.Disk in
    let sorted = c.in-Ok.sorted in
    let ended = c.write_of_client in
    let old = g.K.Sink.taken c.args.sink.now in
    let new = g.K.Sink.taken ended.new.sink in
    sorted_tells D.content D.images D.moment D.images_since c.args.disk sorted.disk ended.result.disk ended.result.status old new sorted.is_client (g.met.D.Disk.is_image c.args.disk) c.in-Ok.ensures.kind c.in-Ok.ensures.holds c.in-Ok.ensures.untouched c.in-Ok.ensures.any_moment
    (subst (λ k. TellsText D.content D.images D.moment D.images_since (file_as k) shown ended.result.status sorted.disk ended.result.disk old new) (sym c.if-sorted.true)
    (tells_of_client D.content D.images D.moment D.images_since ended.result.status sorted.disk ended.result.disk old new ended.ensures.tells))

pub returns-else-sorted-clause-tells : goal.returns-else-sorted-clause-tells
returns-else-sorted-clause-tells g c =
    let D = g.D.Disk in
    let sorted = c.in-Ok.sorted in
    let ended = c.write_of_server in
    let old = g.K.Sink.taken c.args.sink.now in
    let new = g.K.Sink.taken ended.new.sink in
    sorted_tells D.content D.images D.moment D.images_since c.args.disk sorted.disk ended.result.disk ended.result.status old new sorted.is_client (g.met.D.Disk.is_image c.args.disk) c.in-Ok.ensures.kind c.in-Ok.ensures.holds c.in-Ok.ensures.untouched c.in-Ok.ensures.any_moment
    (subst (λ k. TellsText D.content D.images D.moment D.images_since (file_as k) shown ended.result.status sorted.disk ended.result.disk old new) (sym c.if-sorted.false)
    (tells_of_server D.content D.images D.moment D.images_since ended.result.status sorted.disk ended.result.disk old new ended.ensures.tells))

pub returns-in-Err-clause-tells : goal.returns-in-Err-clause-tells
returns-in-Err-clause-tells g c =
    let ended = c.in-Err.ended in
    let only = c.in-Err.ensures.only in
    record {
      written = λ b told records file. writes_none ended.status (shown records) (g.K.Sink.taken c.args.sink.now) only;
      bad_file = λ b told place is. bad_journal b place (c.in-Err.ensures.bad b told place is);
      bad_place = λ b told place bad. tells_bad place ended.status only (λ at is. same_err (node_file b) at place (bad_journal b at (c.in-Err.ensures.bad b told at is)) bad);
      bad_unwritten = λ b told place bad. refl;
      bad_kept = c.in-Err.ensures.bad_kept;
      kept = λ b told made. absurd (open_unmade ended.status only made);
      any_moment = c.in-Err.ensures.any_moment_err;
    }

pub returns-then-sorted-clause-disk_cause : goal.returns-then-sorted-clause-disk_cause
returns-then-sorted-clause-disk_cause g c = λ is.
    rose_later (g.D.Disk.faults c.args.disk) (g.D.Disk.faults c.in-Ok.sorted.disk) (g.D.Disk.faults c.write_of_client.result.disk) c.in-Ok.ensures.later (c.write_of_client.ensures.disk_cause is)

pub returns-else-sorted-clause-disk_cause : goal.returns-else-sorted-clause-disk_cause
returns-else-sorted-clause-disk_cause g c = λ is.
    rose_later (g.D.Disk.faults c.args.disk) (g.D.Disk.faults c.in-Ok.sorted.disk) (g.D.Disk.faults c.write_of_server.result.disk) c.in-Ok.ensures.later (c.write_of_server.ensures.disk_cause is)

pub returns-in-Err-clause-write_cause : goal.returns-in-Err-clause-write_cause
returns-in-Err-clause-write_cause g c = λ is. absurd (open_no_write c.in-Err.ended.status c.in-Err.ensures.only is)

pub returns-in-Err-clause-only : goal.returns-in-Err-clause-only
returns-in-Err-clause-only g c = open_tells c.in-Err.ended.status c.in-Err.ensures.only
