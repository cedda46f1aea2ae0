use Rattle.std.proofs.Common.{◌≡◌, ◌++◌, ◌∙◌, arith, refl, rules, subst, sym}
use Rattle.std.specs.Option.{option_map}
use Rattle.sync_io.specs.declared.status.Status.TheVariants as statuses
use Rattle.sync_node.specs.Items.{Next, Read}
use Rattle.sync_node.specs.Runs.{added, noting_runs, onto}
use Rattle.sync_node.proofs.Exits.{exits_told}
use Rattle.sync_node.proofs.Landed.{kept_by}
use Rattle.sync_node.proofs.Waiting.{bad_stops, begins, ends, faults, flushed, gathered, over_stops, reading_stops}
use Rattle.sync_node.proofs.run.answer_items.Goals as goal

pub returns-in-Ok-None-clause-exits : goal.returns-in-Ok-None-clause-exits
returns-in-Ok-None-clause-exits g c = λ notes records stands holds.
    let step = g.C.Command.step in
    let noted = g.C.Command.noted in
    let s = c.items.invariant.so_far notes records stands holds in
    let before = g.I.ItemReader.ahead c.items.items (g.S.Source.left c.items.source) in
    let after = g.I.ItemReader.ahead c.next.new.self (g.S.Source.left c.next.new.source) in
    let old = g.K.Sink.taken c.args.sink.now in
    let mid = g.K.Sink.taken c.items.sink in
    let stored = records ++ added s.written in
    let now = stored ++ added s.waiting in
    let ended = c.finish in
    exits_told g.C.Command.bytes_of (g.C.Command.Holds ended.new.command) (g.D.Disk.images (g.C.Command.disk_below ended.new.command)) records s.written _ (option_map (onto s.waiting) (noting_runs step noted s.notes now before)) ended.result old mid (g.K.Sink.taken ended.new.sink) s.goes s.took
    (ended.ensures.exits s.notes stored s.waiting s.holds s.stands s.waits s.told (noting_runs step noted s.notes now before)
    (over_stops step noted s.notes now before (subst (λ o. Read o before after) c.in-Ok-None.field-0-is c.in-Ok-None.ensures.read)))

pub returns-in-Err-clause-exits : goal.returns-in-Err-clause-exits
returns-in-Err-clause-exits g c = λ notes records stands holds.
    let step = g.C.Command.step in
    let noted = g.C.Command.noted in
    let s = c.items.invariant.so_far notes records stands holds in
    let before = g.I.ItemReader.ahead c.items.items (g.S.Source.left c.items.source) in
    let after = g.I.ItemReader.ahead c.next.new.self (g.S.Source.left c.next.new.source) in
    let old = g.K.Sink.taken c.args.sink.now in
    let mid = g.K.Sink.taken c.items.sink in
    let stored = records ++ added s.written in
    let now = stored ++ added s.waiting in
    let ended = c.finish-in-Err in
    exits_told g.C.Command.bytes_of (g.C.Command.Holds ended.new.command) (g.D.Disk.images (g.C.Command.disk_below ended.new.command)) records s.written _ (option_map (onto s.waiting) (noting_runs step noted s.notes now before)) ended.result old mid (g.K.Sink.taken ended.new.sink) s.goes s.took
    (ended.ensures.exits s.notes stored s.waiting s.holds s.stands s.waits s.told (noting_runs step noted s.notes now before)
    (reading_stops step noted (λ ns rs n i a e. g.met.C.Command.says ns rs n i a e) s.notes now c.in-Err.status before c.in-Err.ensures.err))

pub returns-in-Err-BadItem-clause-exits : goal.returns-in-Err-BadItem-clause-exits
returns-in-Err-BadItem-clause-exits g c = λ notes records stands holds.
    let step = g.C.Command.step in
    let noted = g.C.Command.noted in
    let s = c.items.invariant.so_far notes records stands holds in
    let before = g.I.ItemReader.ahead c.items.items (g.S.Source.left c.items.source) in
    let after = g.I.ItemReader.ahead c.next.new.self (g.S.Source.left c.next.new.source) in
    let old = g.K.Sink.taken c.args.sink.now in
    let mid = g.K.Sink.taken c.items.sink in
    let stored = records ++ added s.written in
    let now = stored ++ added s.waiting in
    let number = c.in-Ok-Some.item.number in
    let item = c.as_slice.result.now in
    let read : before ≡ option_map (Next number item) after = subst (λ i. before ≡ option_map (Next number i) after) (sym c.as_slice.ensures.value) (subst (λ o. Read o before after) c.in-Ok-Some.field-0-is c.in-Ok-Some.ensures.read) in
    let bad = c.in-Err-BadItem.ensures.bad s.notes now s.stands (search rules) in
    let ended = c.finish-in-Err-BadItem in
    exits_told g.C.Command.bytes_of (g.C.Command.Holds ended.new.command) (g.D.Disk.images (g.C.Command.disk_below ended.new.command)) records s.written _ (option_map (onto s.waiting) (noting_runs step noted s.notes now before)) ended.result old mid (g.K.Sink.taken ended.new.sink) s.goes s.took
    (ended.ensures.exits s.notes stored s.waiting (g.met.C.Command.holds_still c.items.command c.answer.new.self stored c.answer.ensures.same s.holds) bad.1 s.waits s.told (noting_runs step noted s.notes now before)
    (bad_stops step noted s.notes now number item before after read bad.0))

pub returns-in-Err-DiskFault-clause-exits : goal.returns-in-Err-DiskFault-clause-exits
returns-in-Err-DiskFault-clause-exits g c = λ notes records stands holds.
    let step = g.C.Command.step in
    let noted = g.C.Command.noted in
    let s = c.items.invariant.so_far notes records stands holds in
    let before = g.I.ItemReader.ahead c.items.items (g.S.Source.left c.items.source) in
    let after = g.I.ItemReader.ahead c.next.new.self (g.S.Source.left c.next.new.source) in
    let old = g.K.Sink.taken c.args.sink.now in
    let mid = g.K.Sink.taken c.items.sink in
    let stored = records ++ added s.written in
    let now = stored ++ added s.waiting in
    let command = c.answer.new.self in
    faults step noted (λ ns rs n i a e. g.met.C.Command.says ns rs n i a e) g.C.Command.bytes_of (g.C.Command.Holds command) (g.D.Disk.images (g.C.Command.disk_below command)) (g.C.Command.Stands c.items.command) (g.C.Command.Holds c.items.command) records _ before c.items.answers.items old mid s statuses.DiskFault refl
    (kept_by g.D.Disk.content g.D.Disk.images g.C.Command.bytes_of stored (g.C.Command.disk_below command) (g.met.C.Command.held command stored (g.met.C.Command.holds_still c.items.command command stored c.answer.ensures.same s.holds)))

pub returns-in-Err-NoMemory-clause-exits : goal.returns-in-Err-NoMemory-clause-exits
returns-in-Err-NoMemory-clause-exits g c = λ notes records stands holds.
    let step = g.C.Command.step in
    let noted = g.C.Command.noted in
    let s = c.items.invariant.so_far notes records stands holds in
    let before = g.I.ItemReader.ahead c.items.items (g.S.Source.left c.items.source) in
    let after = g.I.ItemReader.ahead c.next.new.self (g.S.Source.left c.next.new.source) in
    let old = g.K.Sink.taken c.args.sink.now in
    let mid = g.K.Sink.taken c.items.sink in
    let stored = records ++ added s.written in
    let now = stored ++ added s.waiting in
    let command = c.answer.new.self in
    faults step noted (λ ns rs n i a e. g.met.C.Command.says ns rs n i a e) g.C.Command.bytes_of (g.C.Command.Holds command) (g.D.Disk.images (g.C.Command.disk_below command)) (g.C.Command.Stands c.items.command) (g.C.Command.Holds c.items.command) records _ before c.items.answers.items old mid s statuses.NoMemory refl
    (kept_by g.D.Disk.content g.D.Disk.images g.C.Command.bytes_of stored (g.C.Command.disk_below command) (g.met.C.Command.held command stored (g.met.C.Command.holds_still c.items.command command stored c.answer.ensures.same s.holds)))

pub returns-in-Err-extend_from_slice-clause-exits : goal.returns-in-Err-extend_from_slice-clause-exits
returns-in-Err-extend_from_slice-clause-exits g c = λ notes records stands holds.
    let step = g.C.Command.step in
    let noted = g.C.Command.noted in
    let s = c.items.invariant.so_far notes records stands holds in
    let before = g.I.ItemReader.ahead c.items.items (g.S.Source.left c.items.source) in
    let after = g.I.ItemReader.ahead c.next.new.self (g.S.Source.left c.next.new.source) in
    let old = g.K.Sink.taken c.args.sink.now in
    let mid = g.K.Sink.taken c.items.sink in
    let stored = records ++ added s.written in
    let now = stored ++ added s.waiting in
    let command = c.answer.new.self in
    faults step noted (λ ns rs n i a e. g.met.C.Command.says ns rs n i a e) g.C.Command.bytes_of (g.C.Command.Holds command) (g.D.Disk.images (g.C.Command.disk_below command)) (g.C.Command.Stands c.items.command) (g.C.Command.Holds c.items.command) records _ before c.items.answers.items old mid s statuses.NoMemory refl
    (kept_by g.D.Disk.content g.D.Disk.images g.C.Command.bytes_of stored (g.C.Command.disk_below command) (g.met.C.Command.held command stored (g.met.C.Command.holds_still c.items.command command stored c.answer.ensures.same s.holds)))

pub returns-in-Err-flush-clause-exits : goal.returns-in-Err-flush-clause-exits
returns-in-Err-flush-clause-exits g c = λ notes records stands holds.
    let step = g.C.Command.step in
    let noted = g.C.Command.noted in
    let s = c.items.invariant.so_far notes records stands holds in
    let before = g.I.ItemReader.ahead c.items.items (g.S.Source.left c.items.source) in
    let after = g.I.ItemReader.ahead c.next.new.self (g.S.Source.left c.next.new.source) in
    let old = g.K.Sink.taken c.args.sink.now in
    let mid = g.K.Sink.taken c.items.sink in
    let stored = records ++ added s.written in
    let now = stored ++ added s.waiting in
    let number = c.in-Ok-Some.item.number in
    let item = c.as_slice.result.now in
    let read : before ≡ option_map (Next number item) after = subst (λ i. before ≡ option_map (Next number i) after) (sym c.as_slice.ensures.value) (subst (λ o. Read o before after) c.in-Ok-Some.field-0-is c.in-Ok-Some.ensures.read) in
    let more = c.in-Ok.text.items in
    let command = c.answer.new.self in
    let a = c.in-Ok.ensures.done s.notes now s.stands in
    let all : c.extend_from_slice.new.self.items ≡ c.items.answers.items ++ more = search rules in
    let waits = gathered step noted (g.C.Command.Stands command) (g.C.Command.Holds command) records (g.C.Command.Stands c.items.command) (g.C.Command.Holds c.items.command) _ number item before after
    c.items.answers.items more c.extend_from_slice.new.self.items old mid s read a (g.met.C.Command.says s.notes now number item a.answer a.is)
    (g.met.C.Command.holds_still c.items.command command stored c.answer.ensures.same s.holds) all in
    let last = c.flush.new.command in
    ends step noted (λ ns rs n i a e. g.met.C.Command.says ns rs n i a e) g.C.Command.bytes_of (g.C.Command.Holds last) (g.D.Disk.images (g.C.Command.disk_below last)) (g.C.Command.Stands command) (g.C.Command.Holds command) records _ after c.extend_from_slice.new.self.items old mid waits
    c.in-Err-flush.status (g.K.Sink.taken c.flush.new.sink) (c.in-Err-flush.ensures.err waits.notes (records ++ added waits.written) waits.waiting waits.holds waits.stands waits.waits)

pub items-preserved-then-is_ahead : goal.items-preserved-then-is_ahead
items-preserved-then-is_ahead g c = record {
  so_far = λ notes records stands holds.
      let step = g.C.Command.step in
      let noted = g.C.Command.noted in
      let s = c.items.invariant.so_far notes records stands holds in
      let before = g.I.ItemReader.ahead c.items.items (g.S.Source.left c.items.source) in
      let after = g.I.ItemReader.ahead c.next.new.self (g.S.Source.left c.next.new.source) in
      let old = g.K.Sink.taken c.args.sink.now in
      let mid = g.K.Sink.taken c.items.sink in
      let stored = records ++ added s.written in
      let now = stored ++ added s.waiting in
      let number = c.in-Ok-Some.item.number in
      let item = c.as_slice.result.now in
      let read : before ≡ option_map (Next number item) after = subst (λ i. before ≡ option_map (Next number i) after) (sym c.as_slice.ensures.value) (subst (λ o. Read o before after) c.in-Ok-Some.field-0-is c.in-Ok-Some.ensures.read) in
      let more = c.in-Ok.text.items in
      let command = c.answer.new.self in
      let a = c.in-Ok.ensures.done s.notes now s.stands in
      let all : c.extend_from_slice.new.self.items ≡ c.items.answers.items ++ more = search rules in
      let waits = gathered step noted (g.C.Command.Stands command) (g.C.Command.Holds command) records (g.C.Command.Stands c.items.command) (g.C.Command.Holds c.items.command) _ number item before after
      c.items.answers.items more c.extend_from_slice.new.self.items old mid s read a (g.met.C.Command.says s.notes now number item a.answer a.is)
      (g.met.C.Command.holds_still c.items.command command stored c.answer.ensures.same s.holds) all in
      waits;
  ready = c.in-Ok-Some.ensures.stays_ready;
  source_faults = omega arith;
  sink_faults = omega arith;
  disk_faults = omega arith;
  loan = g.met.C.Command.loan_stays c.items.command c.answer.new.self c.answer.ensures.same ∙ c.items.invariant.loan;
}

pub items-preserved : goal.items-preserved
items-preserved g c = record {
  so_far = λ notes records stands holds.
      let step = g.C.Command.step in
      let noted = g.C.Command.noted in
      let s = c.items.invariant.so_far notes records stands holds in
      let before = g.I.ItemReader.ahead c.items.items (g.S.Source.left c.items.source) in
      let after = g.I.ItemReader.ahead c.next.new.self (g.S.Source.left c.next.new.source) in
      let old = g.K.Sink.taken c.args.sink.now in
      let mid = g.K.Sink.taken c.items.sink in
      let stored = records ++ added s.written in
      let now = stored ++ added s.waiting in
      let number = c.in-Ok-Some.item.number in
      let item = c.as_slice.result.now in
      let read : before ≡ option_map (Next number item) after = subst (λ i. before ≡ option_map (Next number i) after) (sym c.as_slice.ensures.value) (subst (λ o. Read o before after) c.in-Ok-Some.field-0-is c.in-Ok-Some.ensures.read) in
      let more = c.in-Ok.text.items in
      let command = c.answer.new.self in
      let a = c.in-Ok.ensures.done s.notes now s.stands in
      let all : c.extend_from_slice.new.self.items ≡ c.items.answers.items ++ more = search rules in
      let waits = gathered step noted (g.C.Command.Stands command) (g.C.Command.Holds command) records (g.C.Command.Stands c.items.command) (g.C.Command.Holds c.items.command) _ number item before after
      c.items.answers.items more c.extend_from_slice.new.self.items old mid s read a (g.met.C.Command.says s.notes now number item a.answer a.is)
      (g.met.C.Command.holds_still c.items.command command stored c.answer.ensures.same s.holds) all in
      let last = c.flush.new.command in
      let did = c.in-Ok-flush.ensures.ok waits.notes (records ++ added waits.written) waits.waiting waits.stands waits.waits in
      flushed step noted (g.C.Command.Stands last) (g.C.Command.Holds last) records (g.C.Command.Stands command) (g.C.Command.Holds command) _ after c.extend_from_slice.new.self.items c.flush.new.answers.items old mid (g.K.Sink.taken c.flush.new.sink)
      waits did.0 did.1 did.2 c.in-Ok-flush.ensures.emptied;
  ready = c.in-Ok-Some.ensures.stays_ready;
  source_faults = omega arith;
  sink_faults = omega arith;
  disk_faults = omega arith;
  loan = c.flush.ensures.loan ∙ g.met.C.Command.loan_stays c.items.command c.answer.new.self c.answer.ensures.same ∙ c.items.invariant.loan;
}

pub items-init : goal.items-init
items-init g c = record {
  so_far = λ notes records stands holds.
      begins g.C.Command.step g.C.Command.noted (g.C.Command.Stands c.args.command.now) (g.C.Command.Holds c.args.command.now) records notes (g.I.ItemReader.ahead c.args.items.now (g.S.Source.left c.args.source.now)) c.new-answers.result.items
      (g.K.Sink.taken c.args.sink.now) stands holds c.new-answers.ensures.items;
  ready = c.requires;
  source_faults = omega arith;
  sink_faults = omega arith;
  disk_faults = omega arith;
  loan = refl;
}
