-- A run behind some of its lines.
use Rattle.std.proofs.Common.{◌≡◌, ℕ, zero, suc, ◌+◌, List, [], ◌++◌, Option, None, Some, Result, Ok, Err, refl, sym, ap, subst, ◌∙◌, arith}
use Rattle.std.specs.Option.{option_map, IfSome}
use Rattle.sync_io.specs.Devices.{Took, TookSome}
use Rattle.sync_io.specs.Reading.{Reading, Ends, Gives, AtEnd, AtLongLine, AtLimit}
use Rattle.sync_io.specs.declared.status.Status.{Status}
use Rattle.sync_io.specs.declared.status.Status.TheVariants as statuses
use Rattle.sync_io.specs.declared.sink.SinkRefusal.{SinkRefusal}
use Rattle.sync_io.specs.declared.sink.SinkRefusal.TheVariants as sinks
use Rattle.sync_top.specs.declared.command.LineEnd.{LineEnd}
use Rattle.sync_io.specs.Readers.{AnswersLine}
use Rattle.sync_io.specs.declared.refusal.ReadRefusal.{ReadRefusal}
use Rattle.sync_io.specs.declared.refusal.ReadRefusal.TheVariants as reads
use Rattle.sync_node.specs.Items.{read_status}
use Rattle.sync_node.specs.Texts.{write_status}
use Rattle.sync_top.specs.Runs.{Ran, ended, onto, answered, answer_to, run_from, runs, Follows, FollowsTold, Passes, Went, IsCut, Leaves, LeavesOf, HasRun, EndsAt, IsReportStatus, flush_status, report_at}
use Rattle.sync_top.proofs.RunLemmas.{all_is_some, cut_at_end, cut_off, follows_some, follows_told, is_write_fault, line_follows, onto_onto, some_behind, some_of_more, took_none}

-- the run ends where a reader refuses the line of this number
abbrev pub EndsReading : Status → ℕ → Option Reading → Type 0
EndsReading (statuses.BadInput place) number old = (place ≡ number) × IfSome old (λ reading. reading ≡ Ends AtLongLine)
EndsReading statuses.InputTooLong number old = IfSome old (λ reading. reading ≡ Ends AtLimit)
EndsReading statuses.ReadFault number old = Unit {0}
EndsReading statuses.NoMemory number old = Unit {0}
EndsReading status number old = ⊥

pub refused_reading : (refusal : ReadRefusal) (number : ℕ) (old new : Option Reading) → AnswersLine (Err refusal) old new → EndsReading (read_status number refusal) number old
refused_reading reads.Failed number old new is = tt
refused_reading reads.TooLong number old new is = (refl, is)
refused_reading reads.Cut number old new is = absurd is
refused_reading reads.InputTooLong number old new is = is
refused_reading reads.NoMemory number old new is = tt

-- All lines were answered: what is left to be written is the report
pub record AnsweredAll {C : Type 0} (answers : C → ℕ → List ℕ → Result (List ℕ × C) LineEnd) (holds : C → Type 0) (readings : Option Reading) (command : C) (old new : Option (List ℕ)) : Type 0 where
  pub lines : ℕ
  pub text : List ℕ
  pub next : C
  pub rest : Option Reading
  pub went : Went answers lines readings command text next rest
  pub at_end : IfSome rest (λ reading. reading ≡ Ends AtEnd)
  pub took : Took text old new
  pub left : holds next

pub plus_one : (n : ℕ) → n + 1 ≡ suc n
plus_one n = omega arith

module _ {C : Type 0} (answers : C → ℕ → List ℕ → Result (List ℕ × C) LineEnd) (report : C → List ℕ) where
  -- ---- the lines passed, and those to come
  abbrev Run : ℕ → Reading → C → Ran C
  Run = run_from answers report

  pub run_answered : (count : ℕ) (line : List ℕ) (rest : Reading) (here next : C) (more : List ℕ) → answer_to answers here (count + 1) line ≡ Ok (more, next)
      → Run count (Gives line rest) here ≡ onto more (Run (count + 1) rest next)
  run_answered count line rest here next more e = ap (λ a. answered (count + 1) here a (Run (count + 1) rest)) e

  pub passes_run : (count : ℕ) (reading rest : Reading) (command next : C) (text : List ℕ) → Passes answers count reading command text next rest
      → Run 0 reading command ≡ onto text (Run count rest next)
  passes_run zero reading rest command next text p = λ i. onto (sym p.0 i) (Run 0 (sym p.2 i) (sym p.1 i))
  passes_run (suc count) reading rest command next text p =
      let line = p.0 in let before = p.1 in let here = p.2 in let more = p.3 in
      passes_run count reading (Gives line rest) command here before p.4
      ∙ ap (onto before) (run_answered count line rest here next more p.5)
      ∙ onto_onto before more (Run (count + 1) rest next)
      ∙ (λ i. onto (sym p.6 i) (Run (plus_one count i) rest next))

  pub went_run : (count : ℕ) (readings rest : Option Reading) (command next : C) (text : List ℕ) → Went answers count readings command text next rest
      → runs answers report 0 readings command ≡ option_map (onto text) (runs answers report count rest next)
  went_run count None rest command next text w = ap (λ r. option_map (onto text) (runs answers report count r next)) (sym w)
  went_run count (Some reading) rest command next text w =
      ap Some (passes_run count reading w.0 command next text w.2) ∙ ap (λ r. option_map (onto text) (runs answers report count r next)) (sym w.1)

  pub went_start : (readings : Option Reading) (command : C) → Went answers 0 readings command [] command readings
  went_start None command = refl
  went_start (Some reading) command = (reading, refl, (refl, refl, refl))

  pub went_on : (count : ℕ) (readings mid rest : Option Reading) (line : List ℕ) (command here next : C) (text more : List ℕ) → Went answers count readings command text here mid → mid ≡ option_map (Gives line) rest
      → answer_to answers here (count + 1) line ≡ Ok (more, next) → Went answers (suc count) readings command (text ++ more) next rest
  went_on count None mid None line command here next text more w read answer = refl
  went_on count None mid (Some r) line command here next text more w read answer = let e = sym w ∙ read in cc
  went_on count (Some reading) mid None line command here next text more w read answer = let e = sym w.1 ∙ read in cc
  went_on count (Some reading) mid (Some r) line command here next text more w read answer =
      let e : w.0 ≡ Gives line r = cc in
      (r, refl, (line, text, here, more, subst (λ q. Passes answers count reading command text here q) e w.2, answer, refl))

  -- ---- where a run ends
  -- a run stands somewhere when it ends
  pub record EndsSomewhere (reading : Reading) (command : C) (ran : Ran C) : Type 0 where
    pub lines : ℕ
    pub text : List ℕ
    pub rest : Reading
    pub passes : Passes answers lines reading command text ran.left rest
    pub written : ran.written ≡ text ++ report_at report rest ran.left

  ends_there : (reading : Reading) (command : C) (rest : Reading) (count : ℕ) (here : C) (text : List ℕ) → Passes answers count reading command text here rest
      → EndsSomewhere reading command (onto text (Run count rest here))
  ends_there reading command (Ends AtEnd) count here text p = record { lines = count; text = text; rest = Ends AtEnd; passes = p; written = refl }
  ends_there reading command (Ends AtLongLine) count here text p = record { lines = count; text = text; rest = Ends AtLongLine; passes = p; written = refl }
  ends_there reading command (Ends AtLimit) count here text p = record { lines = count; text = text; rest = Ends AtLimit; passes = p; written = refl }
  ends_there reading command (Gives line rest) count here text p =
      go (answer_to answers here (count + 1) line) refl (λ more next e. subst (λ n. EndsSomewhere reading command (onto (text ++ more) (Run n rest next))) (sym (plus_one count)) (ends_there reading command rest (suc count) next (text ++ more) (line, text, here, more, p, e, refl)))
    where
      go : (a : Result (List ℕ × C) LineEnd) → answer_to answers here (count + 1) line ≡ a
          → ((more : List ℕ) (next : C) → answer_to answers here (count + 1) line ≡ Ok (more, next) → EndsSomewhere reading command (onto (text ++ more) (Run (count + 1) rest next)))
          → EndsSomewhere reading command (onto text (answered (count + 1) here a (Run (count + 1) rest)))
      go (Err end) e on = record { lines = count; text = text; rest = Gives line rest; passes = p; written = refl }
      go (Ok answer) e on = subst (EndsSomewhere reading command) (sym (onto_onto text answer.0 (Run (count + 1) rest answer.1))) (on answer.0 answer.1 e)

  pub ends_somewhere : (reading : Reading) (command : C) → EndsSomewhere reading command (Run 0 reading command)
  ends_somewhere reading command = ends_there reading command reading 0 command [] (refl, refl, refl)

module _ {C : Type 0} (answers : C → ℕ → List ℕ → Result (List ℕ × C) LineEnd) (report : C → List ℕ) (holds : C → Type 0) where
  -- ---- what a run leaves
  abbrev Done : Status → Option Reading → C → Option (List ℕ) → Option (List ℕ) → Type 0
  Done = HasRun answers report holds

  left_is : (count : ℕ) (reading rest : Reading) (command next : C) (text : List ℕ) → Passes answers count reading command text next rest
      → holds (run_from answers report count rest next).left → holds (run_from answers report 0 reading command).left
  left_is count reading rest command next text p h = subst (λ ran. holds ran.left) (sym (passes_run answers report count reading rest command next text p)) h

  -- a reader refuses the next line
  read_leaves : (status : Status) (count : ℕ) (reading rest : Reading) (command next : C) (text : List ℕ) (old new : Option (List ℕ)) → Passes answers count reading command text next rest
      → Took text old new → EndsReading status (count + 1) (Some rest) → holds next → LeavesOf answers report holds status reading command old new
  read_leaves (statuses.BadInput place) count reading rest command next text old new p took ends h =
      left_is count reading rest command next text p (subst (λ r. holds (run_from answers report count r next).left) (sym ends.1) h)
  read_leaves statuses.InputTooLong count reading rest command next text old new p took ends h =
      left_is count reading rest command next text p (subst (λ r. holds (run_from answers report count r next).left) (sym ends) h)
  read_leaves statuses.ReadFault count reading rest command next text old new p took ends h =
      record { lines = count; text = text; next = next; rest = rest; passes = p; written = some_of_more text _ old new (all_is_some text old new took); left = h }
  read_leaves statuses.NoMemory count reading rest command next text old new p took ends h = tt
  read_leaves statuses.Done count reading rest command next text old new p took ends h = absurd ends
  read_leaves statuses.BadWords count reading rest command next text old new p took ends h = absurd ends
  read_leaves statuses.WriteFault count reading rest command next text old new p took ends h = absurd ends
  read_leaves statuses.DiskFault count reading rest command next text old new p took ends h = absurd ends
  read_leaves (statuses.BadFile place) count reading rest command next text old new p took ends h = absurd ends

  read_follows : (status : Status) (count : ℕ) (rest : Option Reading) (next : C) (sink : Option (List ℕ)) → EndsReading status (count + 1) rest → FollowsTold status (runs answers report count rest next) sink sink
  read_follows status count None next sink ends = tt
  read_follows (statuses.BadInput place) count (Some rest) next sink ends =
      subst (λ r. Follows (statuses.BadInput place) (run_from answers report count r next) sink sink) (sym ends.1)
      (subst (λ n. Follows (statuses.BadInput place) (ended [] (statuses.BadInput n) next) sink sink) ends.0 (refl, took_none sink))
  read_follows statuses.InputTooLong count (Some rest) next sink ends =
      subst (λ r. Follows statuses.InputTooLong (run_from answers report count r next) sink sink) (sym ends) (refl, took_none sink)
  read_follows statuses.ReadFault count (Some rest) next sink ends = cut_off statuses.ReadFault (run_from answers report count rest next) sink refl
  read_follows statuses.NoMemory count (Some rest) next sink ends = cut_off statuses.NoMemory (run_from answers report count rest next) sink refl
  read_follows statuses.Done count (Some rest) next sink ends = absurd ends
  read_follows statuses.BadWords count (Some rest) next sink ends = absurd ends
  read_follows statuses.WriteFault count (Some rest) next sink ends = absurd ends
  read_follows statuses.DiskFault count (Some rest) next sink ends = absurd ends
  read_follows (statuses.BadFile place) count (Some rest) next sink ends = absurd ends

  pub read_ends : (status : Status) (count : ℕ) (readings rest : Option Reading) (command next : C) (text : List ℕ) (old new : Option (List ℕ)) → Went answers count readings command text next rest
      → Took text old new → EndsReading status (count + 1) rest → holds next → Done status readings command old new
  read_ends status count readings rest command next text old new w took ends h = record {
    follows = follows_told text status _ (runs answers report count rest next) old new new (went_run answers report count readings rest command next text w) took (read_follows status count rest next new ends);
    leaves = told readings w;
  }
    where
      told : (rs : Option Reading) → Went answers count rs command text next rest → Leaves answers report holds status rs command old new
      told None w = tt
      told (Some reading) w = read_leaves status count reading w.0 command next text old new w.2 took (subst (EndsReading status (count + 1)) w.1 ends) h

  -- the run ends at a line
  line_leaves : (status : Status) (count : ℕ) (reading rest : Reading) (line : List ℕ) (command here : C) (text : List ℕ) (old mid new : Option (List ℕ)) → Passes answers count reading command text here (Gives line rest)
      → Took text old mid → EndsAt status (count + 1) here (answer_to answers here (count + 1) line) holds mid new → LeavesOf answers report holds status reading command old new
  line_leaves (statuses.BadInput place) count reading rest line command here text old mid new p took ends =
      left_is count reading (Gives line rest) command here text p (subst (λ a. holds (answered (count + 1) here a (run_from answers report (count + 1) rest)).left) (sym ends.1) ends.3)
  line_leaves statuses.WriteFault count reading rest line command here text old mid new p took ends = record {
    lines = suc count;
    text = text ++ ends.0;
    next = ends.1;
    rest = rest;
    passes = (line, text, here, ends.0, p, ends.2, refl);
    written = some_of_more (text ++ ends.0) _ old new (some_behind text ends.0 old mid new took ends.3);
    left = ends.4;
  }
  line_leaves statuses.NoMemory count reading rest line command here text old mid new p took ends = tt
  line_leaves statuses.Done count reading rest line command here text old mid new p took ends = absurd ends
  line_leaves statuses.BadWords count reading rest line command here text old mid new p took ends = absurd ends
  line_leaves statuses.ReadFault count reading rest line command here text old mid new p took ends = absurd ends
  line_leaves statuses.DiskFault count reading rest line command here text old mid new p took ends = absurd ends
  line_leaves (statuses.BadFile place) count reading rest line command here text old mid new p took ends = absurd ends
  line_leaves statuses.InputTooLong count reading rest line command here text old mid new p took ends = absurd ends

  pub line_ends_run : (status : Status) (count : ℕ) (readings before rest : Option Reading) (line : List ℕ) (command here : C) (text : List ℕ) (old mid new : Option (List ℕ)) → Went answers count readings command text here before → before ≡ option_map (Gives line) rest
      → Took text old mid → EndsAt status (count + 1) here (answer_to answers here (count + 1) line) holds mid new → Done status readings command old new
  line_ends_run status count readings before rest line command here text old mid new w read took ends = record {
    follows = follows_told text status _ (runs answers report count before here) old mid new (went_run answers report count readings before command here text w) took
        (subst (λ r. FollowsTold status (runs answers report count r here) mid new) (sym read) (after rest));
    leaves = told readings w;
  }
    where
      after : (r : Option Reading) → FollowsTold status (runs answers report count (option_map (Gives line) r) here) mid new
      after None = tt
      after (Some r) = line_follows status (count + 1) here (answer_to answers here (count + 1) line) holds mid new ends (run_from answers report (count + 1) r)

      both : (reading : Reading) (q : Reading) → Passes answers count reading command text here q → (r : Option Reading) → Some q ≡ option_map (Gives line) r → LeavesOf answers report holds status reading command old new
      both reading q p None e = cc
      both reading q p (Some r) e =
          let same : q ≡ Gives line r = cc in
          line_leaves status count reading r line command here text old mid new (subst (λ z. Passes answers count reading command text here z) same p) took ends

      told : (rs : Option Reading) → Went answers count rs command text here before → Leaves answers report holds status rs command old new
      told None w = tt
      told (Some reading) w = both reading w.0 w.2 rest (sym w.1 ∙ read)

  -- all lines are answered, and the report ends the run
  report_leaves : (status : Status) (count : ℕ) (reading : Reading) (command next : C) (text : List ℕ) (old mid new : Option (List ℕ)) → Passes answers count reading command text next (Ends AtEnd)
      → Took text old mid → holds next → Follows status (ended (report next) statuses.Done next) mid new → IsReportStatus status → LeavesOf answers report holds status reading command old new
  report_leaves statuses.Done count reading command next text old mid new p took h follows only = left_is count reading (Ends AtEnd) command next text p h
  report_leaves statuses.WriteFault count reading command next text old mid new p took h follows only =
      record { lines = count; text = text; next = next; rest = Ends AtEnd; passes = p; written = some_behind text (report next) old mid new took follows; left = h }
  report_leaves statuses.NoMemory count reading command next text old mid new p took h follows only = tt
  report_leaves statuses.BadWords count reading command next text old mid new p took h follows only = absurd only
  report_leaves (statuses.BadInput place) count reading command next text old mid new p took h follows only = absurd only
  report_leaves statuses.ReadFault count reading command next text old mid new p took h follows only = absurd only
  report_leaves statuses.DiskFault count reading command next text old mid new p took h follows only = absurd only
  report_leaves (statuses.BadFile place) count reading command next text old mid new p took h follows only = absurd only
  report_leaves statuses.InputTooLong count reading command next text old mid new p took h follows only = absurd only

  pub report_ends : (status : Status) (readings : Option Reading) (command : C) (old mid new : Option (List ℕ)) → (all : AnsweredAll answers holds readings command old mid)
      → Follows status (ended (report all.next) statuses.Done all.next) mid new → IsReportStatus status → Done status readings command old new
  report_ends status readings command old mid new all follows only = record {
    follows = follows_told all.text status _ (runs answers report all.lines all.rest all.next) old mid new (went_run answers report all.lines readings all.rest command all.next all.text all.went) all.took (after all.rest all.at_end);
    leaves = told readings all.went;
  }
    where
      after : (r : Option Reading) → IfSome r (λ reading. reading ≡ Ends AtEnd) → FollowsTold status (runs answers report all.lines r all.next) mid new
      after None e = tt
      after (Some r) e = subst (λ z. Follows status (run_from answers report all.lines z all.next) mid new) (sym e) follows

      told : (rs : Option Reading) → Went answers all.lines rs command all.text all.next all.rest → Leaves answers report holds status rs command old new
      told None w = tt
      told (Some reading) w =
          let end : w.0 ≡ Ends AtEnd = subst (λ o. IfSome o (λ z. z ≡ Ends AtEnd)) w.1 all.at_end in
          report_leaves status all.lines reading command all.next all.text old mid new (subst (λ z. Passes answers all.lines reading command all.text all.next z) end w.2) all.took all.left follows only

  -- a last flush that is refused
  whole_is_cut : (status : Status) (reading : Reading) (command : C) (old new : Option (List ℕ)) → Follows status (run_from answers report 0 reading command) old new
      → holds (run_from answers report 0 reading command).left → IsCut answers report holds reading command old new
  whole_is_cut status reading command old new follows h =
      let e = ends_somewhere answers report reading command in
      record {
        lines = e.lines;
        text = e.text;
        next = (run_from answers report 0 reading command).left;
        rest = e.rest;
        passes = e.passes;
        written = subst (λ t. TookSome t old new) e.written (follows_some status (run_from answers report 0 reading command) old new follows);
        left = h;
      }

  pub is_cut : (status : Status) (reading : Reading) (command : C) (old new : Option (List ℕ)) → Follows status (run_from answers report 0 reading command) old new
      → LeavesOf answers report holds status reading command old new → (status ≡ statuses.NoMemory → ⊥) → IsCut answers report holds reading command old new
  is_cut statuses.NoMemory reading command old new follows leaves not = absurd (not refl)
  is_cut statuses.ReadFault reading command old new follows leaves not = leaves
  is_cut statuses.WriteFault reading command old new follows leaves not = leaves
  is_cut statuses.DiskFault reading command old new follows leaves not = leaves
  is_cut statuses.Done reading command old new follows leaves not = whole_is_cut statuses.Done reading command old new follows leaves
  is_cut statuses.BadWords reading command old new follows leaves not = whole_is_cut statuses.BadWords reading command old new follows leaves
  is_cut (statuses.BadInput place) reading command old new follows leaves not = whole_is_cut (statuses.BadInput place) reading command old new follows leaves
  is_cut (statuses.BadFile place) reading command old new follows leaves not = whole_is_cut (statuses.BadFile place) reading command old new follows leaves
  is_cut statuses.InputTooLong reading command old new follows leaves not = whole_is_cut statuses.InputTooLong reading command old new follows leaves

  -- after a status that isn't out of memory
  flushed : (status : Status) (refusal : SinkRefusal) (readings : Option Reading) (command : C) (old new : Option (List ℕ)) → (status ≡ statuses.NoMemory → ⊥)
      → Done status readings command old new → Done (write_status refusal) readings command old new
  flushed status refusal readings command old new not did = record {
    follows = cut_at_end status (write_status refusal) _ old new new (is_write_fault refusal) refl did.follows;
    leaves = told readings refusal did.follows did.leaves;
  }
    where
      told : (rs : Option Reading) (r : SinkRefusal) → FollowsTold status (runs answers report 0 rs command) old new → Leaves answers report holds status rs command old new → Leaves answers report holds (write_status r) rs command old new
      told None r follows leaves = tt
      told (Some reading) sinks.Failed follows leaves = is_cut status reading command old new follows leaves not
      told (Some reading) sinks.NoMemory follows leaves = tt

  not_lost : (status : Status) (refusal : SinkRefusal) (readings : Option Reading) (command : C) (old new : Option (List ℕ)) → Done status readings command old new → Done (flush_status status refusal) readings command old new
  not_lost statuses.NoMemory refusal readings command old new did = did
  not_lost statuses.Done refusal readings command old new did = flushed statuses.Done refusal readings command old new (λ e. cc) did
  not_lost statuses.BadWords refusal readings command old new did = flushed statuses.BadWords refusal readings command old new (λ e. cc) did
  not_lost (statuses.BadInput place) refusal readings command old new did = flushed (statuses.BadInput place) refusal readings command old new (λ e. cc) did
  not_lost statuses.ReadFault refusal readings command old new did = flushed statuses.ReadFault refusal readings command old new (λ e. cc) did
  not_lost statuses.WriteFault refusal readings command old new did = flushed statuses.WriteFault refusal readings command old new (λ e. cc) did
  not_lost statuses.DiskFault refusal readings command old new did = flushed statuses.DiskFault refusal readings command old new (λ e. cc) did
  not_lost (statuses.BadFile place) refusal readings command old new did = flushed (statuses.BadFile place) refusal readings command old new (λ e. cc) did
  not_lost statuses.InputTooLong refusal readings command old new did = flushed statuses.InputTooLong refusal readings command old new (λ e. cc) did

  pub flush_ends : (status : Status) (refusal : SinkRefusal) (readings : Option Reading) (command : C) (old mid new : Option (List ℕ)) → new ≡ mid → Done status readings command old mid → Done (flush_status status refusal) readings command old new
  flush_ends status refusal readings command old mid new same did =
      subst (λ n. Done (flush_status status refusal) readings command old n) (sym same) (not_lost status refusal readings command old mid did)
