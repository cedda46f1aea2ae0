-- A recovery by runs of commands: what they make of the file of an heir, wherever they are stopped and however often they are repeated.
use Rattle.std.specs.Prelude.{◌≡◌, ◌≤◌, ◌<◌, ◌+◌, ℕ, true, List, [], ◌∷◌, ◌++◌, take, length, map, Option, None, Some, Ok, IfSome}
use Rattle.std.specs.Option.{option_map}
use Rattle.sync_data.specs.declared.instr.Instr.{Instr}
use Rattle.sync_base.specs.States.{State}
use Rattle.sync_disk.specs.Disk.{Told}
use Rattle.sync_edits.specs.Lines.{node_form_of_line}
use Rattle.sync_edits.specs.declared.event.NodeLine.{NodeLine}
use Rattle.sync_edits.specs.declared.event.NodeLine.TheVariants as node_lines
use Rattle.sync_journal.specs.Records.{records_of}
use Rattle.sync_journal.specs.Records.Reading.{Good}
use Rattle.sync_model.specs.Clients.{ClientRecord, client_of, last, no_client}
use Rattle.sync_model.specs.Each.{Each}
use Rattle.sync_model.specs.Files.{client_opens, server_opens}
use Rattle.sync_model.specs.Messages.{Change, Message}
use Rattle.sync_model.specs.Recovery.{CountIsFinal, IsFrame, ListsDrops, SavesNow, SavesOnce}
use Rattle.sync_model.specs.Resets.{SavedAs, heir as heir_step}
use Rattle.sync_model.specs.Rescues.{LivesOn}
use Rattle.sync_model.specs.Servers.{ServerRecord, count, heir_of, no_server, server_of}
use Rattle.sync_exchange.specs.Profile.{the_profile}
use Rattle.sync_exchange.specs.Seen.{client_bytes}
use Rattle.sync_words.specs.Messages.{message_read}
use Rattle.sync_node.specs.Items.{Items, Over, Bad, Limit, Next, frames_of, lines_of}
use Rattle.sync_node.specs.Opening.{client_file}
use Rattle.sync_node.specs.Recovering.{heard, recover_step}
use Rattle.sync_node.specs.Runs.{Run, added, no_notes, run_from}
use Rattle.sync_node.specs.Steps.{edit_step, take_step}
use Rattle.sync_node.specs.declared.files.FileCommand.{FileCommand}
use Rattle.sync_node.specs.declared.files.FileCommand.TheVariants as commands

-- ---- runs over the heir's file
-- a run of a command over an input, at whose end so many of its records stand
pub data HeirRun : Type 0 where
  Edits : (lines : Items) (stand : ℕ) → HeirRun
  Takes : (frames : Items) (stand : ℕ) → HeirRun
  Recovers : (frames : Items) (stand : ℕ) → HeirRun

-- what `edit`, `take` or `recover` answers, over the file of these records
abbrev pub run_of : List ClientRecord → HeirRun → Run ClientRecord
run_of records (Edits lines stand) = run_from (λ notes. edit_step) no_notes tt records lines
run_of records (Takes frames stand) = run_from (λ notes. take_step) no_notes tt records frames
run_of records (Recovers frames stand) = run_from recover_step heard [] records frames

abbrev pub stand_of : HeirRun → ℕ
stand_of (Edits lines stand) = stand
stand_of (Takes frames stand) = stand
stand_of (Recovers frames stand) = stand

-- the records after a run, and after several
abbrev pub after_run : List ClientRecord → HeirRun → List ClientRecord
after_run records run = records ++ take (stand_of run) (added (run_of records run).answers)

abbrev pub after_runs : List ClientRecord → List HeirRun → List ClientRecord
after_runs records [] = records
after_runs records (run ∷ runs) = after_runs (after_run records run) runs

-- ---- what the runs read
-- the messages that frames are, up to the first that is none
abbrev pub and_message : Option Message → List Message → List Message
and_message None messages = []
and_message (Some message) messages = message ∷ messages

abbrev pub messages_in : Items → List Message
messages_in Over = []
messages_in (Bad number) = []
messages_in Limit = []
messages_in (Next number bytes rest) = and_message (message_read bytes) (messages_in rest)

-- no line of an input is a transaction
abbrev pub IsNoCommit : Option NodeLine → Type 0
IsNoCommit (Some (node_lines.Commit ms edits)) = ⊥
IsNoCommit line = Unit {0}

abbrev pub CommitsNothing : Items → Type 0
CommitsNothing Over = Unit {0}
CommitsNothing (Bad number) = Unit {0}
CommitsNothing Limit = Unit {0}
CommitsNothing (Next number line rest) = IsNoCommit (node_form_of_line line) × CommitsNothing rest

-- `edit` makes no transaction; `take` takes what comes; each Retired that `recover` reads is an answer of the server by now, and each
-- Upload of the old ident is one that the old client's file gives by now, as `rescue` and `send` write them (`IsFrame`)
abbrev pub IsRunOf : List ServerRecord → ℕ → List ClientRecord → HeirRun → Type 0
IsRunOf server ident old (Edits lines stand) = CommitsNothing lines
IsRunOf server ident old (Takes frames stand) = Unit {0}
IsRunOf server ident old (Recovers frames stand) = Each (IsFrame the_profile server ident old) (messages_in frames)

-- The premise: the records of a server, which has its whole history, of the old client of this ident, and of the heir at first; and the
-- runs over the heir's file since then.
pub record IsRecovery (server : List ServerRecord) (ident by : ℕ) (old first : List ClientRecord) (runs : List HeirRun) : Type 0 where
  pub server_file : server_opens the_profile no_server server ≡ true
  pub old_file : client_opens the_profile (no_client the_profile) old ≡ true
  -- the heir made nothing before
  pub nothing_made : (client_of the_profile first).made ≡ []
  -- its ident in the end
  pub named : (client_of the_profile (after_runs first runs)).ident ≡ by
  -- no other ident is retired for it
  pub alone : (c : ℕ) → heir_of c (server_of the_profile server).retired ≡ Some by → c ≡ ident
  pub reads : Each (IsRunOf server ident old) runs

-- ---- what they leave
-- Each transaction of the heir is what could be saved of one change of the old client, the next one that isn't integrated, and no
-- change is saved and integrated too.
pub record IsSavedOnce (server : List ServerRecord) (ident by : ℕ) (old heir : List ClientRecord) : Type 0 where
  pub once : SavesOnce the_profile server ident by old heir
  -- once the old ident is retired for the heir, no more of its changes are integrated
  pub final : heir_of ident (server_of the_profile server).retired ≡ Some by → CountIsFinal the_profile server ident by
  -- once the heir has them all, each change is integrated as itself, or saved
  pub lives : length (client_of the_profile old).made ≤ count (server_of the_profile server) ident + last (client_of the_profile heir)
      → (place : ℕ) → place < length (client_of the_profile old).made → LivesOn the_profile server ident old heir place
  -- "saved" is said of the next change alone, with what is left out of it
  pub says : (records : List ClientRecord) (change : Change) (number : ℕ) (dropped : List (ℕ × ℕ))
      → (heir_step the_profile (client_of the_profile records) by (count (server_of the_profile server) ident) change).answer ≡ Ok (SavedAs number dropped)
      → SavesNow the_profile (client_of the_profile records) by (count (server_of the_profile server) ident) change number dropped
  -- what is left out of a saved change is listed, each instruction once, with its break
  pub drops : (objects : State) (instrs : List Instr) → ListsDrops the_profile objects instrs

-- the bytes stand for the records after this run, by which changes are saved once if the premise holds of the runs up to it
pub record LeavesSaved (records : List ClientRecord) (run : ℕ → HeirRun) (image : List ℕ) : Type 0 where
  pub stand : ℕ
  pub reads : records_of image ≡ Good (map client_bytes (after_run records (run stand)))
  pub saved : (server : List ServerRecord) (ident by : ℕ) (old first : List ClientRecord) (runs : List HeirRun) → records ≡ after_runs first runs → IsRecovery server ident by old first (runs ++ run stand ∷ [])
      → IsSavedOnce server ident by old (after_run records (run stand))

-- the run of a command over its input; only these three add to a client's file
abbrev pub heir_run : FileCommand → Option (List ℕ) → Option (ℕ → HeirRun)
heir_run commands.Edit left = option_map (λ lines. Edits lines) (lines_of left)
heir_run commands.Take left = option_map (λ frames. Takes frames) (frames_of left)
heir_run commands.Recover left = option_map (λ frames. Recovers frames) (frames_of left)
heir_run command left = None

-- At whatever end of such a run over a client's file: each image that a crash may leave is saved so, if each image before stood for
-- the file's records.
abbrev pub SavesAtAnyEnd : {D : Type 0} (content : D → Option (List ℕ)) (images : D → List ℕ → Type 0) → FileCommand → Option (List ℕ) → D → D → Type 0
SavesAtAnyEnd content images command left first last = Told (content first) (λ b. (records : List ClientRecord) → client_file b ≡ Ok records
    → ((image : List ℕ) → images first image → records_of image ≡ Good (map client_bytes records))
    → IfSome (heir_run command left) (λ run. (image : List ℕ) → images last image → LeavesSaved records run image))
