use Rattle.std.proofs.Common.{◌≡◌, ℕ, List, Ok, Some, map, subst, sym}
use Rattle.sync_node.specs.Runs.{noting_runs}
use Rattle.sync_node.proofs.Ends.{NodeExits, leaves_now, open_fault, open_no_read, open_node, opened_exits, run_no_bad, run_node, unopened_exits}
use Rattle.sync_node.proofs.Opened.{no_both, same_err, same_ok, tells_bad}
use Rattle.sync_node.proofs.Telling.{open_no_write}
use Rattle.sync_node.proofs.feeding.feed.Goals as goal

pub returns-clause-answers : goal.returns-clause-answers
returns-clause-answers g c =
    let D = g.D.Disk in
    let first = c.in-Ok.command in
    let opened = c.in-Ok.ensures.opened in
    let ran = c.run-status in
    let last = ran.new.command in
    let meant = λ (rs : List g.C.Command.Record). noting_runs g.C.Command.step g.C.Command.noted g.C.Command.first rs (g.I.ItemReader.items_of (g.S.Source.left c.args.source.now)) in
    let old = g.K.Sink.taken c.args.sink.now in
    let new = g.K.Sink.taken ran.new.sink in
    let exits = λ (b : List ℕ) (told : D.content c.args.disk ≡ Some b) (records : List g.C.Command.Record) (file : g.C.Command.file_of b ≡ Ok records).
    let o = opened b told in
    let same = same_ok (g.C.Command.file_of b) o.records records o.file file in
    subst (λ d. NodeExits D.content D.images g.C.Command.bytes_of c.args.disk records (meant records) ran.result d old new) (sym c.close.ensures)
    (opened_exits D.content D.images g.C.Command.bytes_of c.args.disk (g.C.Command.disk_below last) records (meant records) ran.result old new (g.C.Command.Holds last) (λ rs holds. g.met.C.Command.held last rs holds)
    (ran.ensures.exits g.C.Command.first records (subst (g.C.Command.Stands first g.C.Command.first) same o.stands) (subst (g.C.Command.Holds first) same o.holds))) in
    record {
      written = λ b told records file. (exits b told records file).follows;
      stored = λ b told records file. (exits b told records file).stored;
      any_exit = λ b told records file. (exits b told records file).left;
      bad_file = λ b told place is. absurd (run_no_bad ran.result place ran.ensures.only is);
      bad_place = λ b told place bad. let o = opened b told in absurd (no_both (g.C.Command.file_of b) o.records place o.file bad);
      bad_kept = λ b told place is. absurd (run_no_bad ran.result place ran.ensures.only is);
    }

pub returns-in-Err-clause-answers : goal.returns-in-Err-clause-answers
returns-in-Err-clause-answers g c =
    let D = g.D.Disk in
    let ended = c.in-Err.ended in
    let only = c.in-Err.ensures.only in
    let exits = λ (b : List ℕ) (told : D.content c.args.disk ≡ Some b) (records : List g.C.Command.Record) (file : g.C.Command.file_of b ≡ Ok records).
    unopened_exits D.content D.images g.C.Command.bytes_of g.C.Command.step g.C.Command.noted g.C.Command.first (λ ns rs n i a e. g.met.C.Command.says ns rs n i a e) c.args.disk ended.disk records (g.I.ItemReader.items_of (g.S.Source.left c.args.source.now)) ended.status (g.K.Sink.taken c.args.sink.now)
    (open_fault ended.status only (λ place is. no_both (g.C.Command.file_of b) records place file (c.in-Err.ensures.bad_file b told place is)))
    (λ before image is. leaves_now D.moment D.images D.images_since g.met.D.Disk.counts_now c.args.disk ended.disk _ (c.in-Err.ensures.any_moment_err (map g.C.Command.bytes_of records) b told before) image is) in
    record {
      written = λ b told records file. (exits b told records file).follows;
      stored = λ b told records file. (exits b told records file).stored;
      any_exit = λ b told records file. (exits b told records file).left;
      bad_file = c.in-Err.ensures.bad_file;
      bad_place = λ b told place bad. tells_bad place ended.status only (λ at is. same_err (g.C.Command.file_of b) at place (c.in-Err.ensures.bad_file b told at is) bad);
      bad_kept = c.in-Err.ensures.kept;
    }

pub returns-clause-bad_untouched : goal.returns-clause-bad_untouched
returns-clause-bad_untouched g c = λ place is. absurd (run_no_bad c.run-status.result place c.run-status.ensures.only is)

pub returns-in-Err-clause-read_cause : goal.returns-in-Err-clause-read_cause
returns-in-Err-clause-read_cause g c = λ is. absurd (open_no_read c.in-Err.ended.status c.in-Err.ensures.only is)

pub returns-in-Err-clause-write_cause : goal.returns-in-Err-clause-write_cause
returns-in-Err-clause-write_cause g c = λ is. absurd (open_no_write c.in-Err.ended.status c.in-Err.ensures.only is)

pub returns-clause-only : goal.returns-clause-only
returns-clause-only g c = run_node c.run-status.result c.run-status.ensures.only

pub returns-in-Err-clause-only : goal.returns-in-Err-clause-only
returns-in-Err-clause-only g c = open_node c.in-Err.ended.status c.in-Err.ensures.only
