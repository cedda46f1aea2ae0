-- What each command over a file does.
use Rattle.std.specs.Prelude.{◌≡◌, ◌<◌, ◌≤◌, ◌^◌, ℕ, List, [], Option, Result, Ok}
use Rattle.sync_disk.specs.Disk.{Told}
use Rattle.sync_io.specs.declared.status.Status.{Status}
use Rattle.sync_io.specs.declared.status.Status.TheVariants as statuses
use Rattle.sync_model.specs.Clients.{ClientRecord}
use Rattle.sync_model.specs.Servers.{ServerRecord}
use Rattle.sync_exchange.specs.Seen.{client_bytes, server_bytes}
use Rattle.sync_node.specs.Commands.{AnswersItems, TellsText}
use Rattle.sync_node.specs.Items.{frames_of, lines_of}
use Rattle.sync_node.specs.Opening.{client_file, server_file}
use Rattle.sync_node.specs.Recovering.{heard, recover_step}
use Rattle.sync_node.specs.Runs.{IsNodeStatus, noting_runs, runs}
use Rattle.sync_node.specs.Sending.{StandsFor as ClientStandsFor, text_of}
use Rattle.sync_node.specs.declared.sending.Errand.TheVariants as errands
use Rattle.sync_node.specs.ServerTexts.{StandsFor, text_of as server_text}
use Rattle.sync_node.specs.declared.server_text.ServerText.{ServerText}
use Rattle.sync_node.specs.declared.server_text.ServerText.TheVariants as texts
use Rattle.sync_node.specs.Showing.{node_file, shown}
use Rattle.sync_node.specs.Steps.{IsValid, edit_step, is_message, is_node_line, serve_step, take_step}
use Rattle.sync_node.specs.Texts.{IsTellStatus}
use Rattle.sync_node.specs.declared.files.FileCommand.{FileCommand}
use Rattle.sync_node.specs.declared.files.FileCommand.TheVariants as commands

-- a number has 32 bits, and an ident is at least 1
abbrev pub IsFileCommand : FileCommand → Type 0
IsFileCommand (commands.Retire ident) = (1 ≤ ident) × (ident < 2 ^ 32)
IsFileCommand (commands.Rescue after) = after < 2 ^ 32
IsFileCommand command = Unit {0}

module _ {D : Type 0} (content : D → Option (List ℕ)) (images : D → List ℕ → Type 0) where
  -- A server over a file writes the bytes of a new file, and adds no record. They stand for the records of the new file.
  pub record MakesFile (moment : D → ℕ) (images_since : D → ℕ → List ℕ → Type 0) (what : ServerText) (status : Status) (first last : D) (old new : Option (List ℕ)) : Type 0 where
    pub tells : TellsText content images moment images_since server_file (server_text what) status first last old new
    pub stands : Told (content first) (λ b. (records : List ServerRecord) → server_file b ≡ Ok records → status ≡ statuses.Done → StandsFor what records)

  -- A client over a file writes the bytes of the file that may stand in its place, and adds no record. They stand for the records of
  -- that file.
  pub record MakesShort (moment : D → ℕ) (images_since : D → ℕ → List ℕ → Type 0) (status : Status) (first last : D) (old new : Option (List ℕ)) : Type 0 where
    pub tells : TellsText content images moment images_since client_file (text_of errands.Shrink) status first last old new
    pub stands : Told (content first) (λ b. (records : List ClientRecord) → client_file b ≡ Ok records → status ≡ statuses.Done → ClientStandsFor errands.Shrink records)

  -- each command
  abbrev pub Does : (moment : D → ℕ) (images_since : D → ℕ → List ℕ → Type 0) → FileCommand → Option (List ℕ) → Status → D → D → Option (List ℕ) → Option (List ℕ) → Type 0
  Does moment images_since commands.Edit left status first last old new = AnswersItems content images client_file client_bytes (λ records. runs edit_step records (lines_of left)) status first last old new
  Does moment images_since commands.Take left status first last old new = AnswersItems content images client_file client_bytes (λ records. runs take_step records (frames_of left)) status first last old new
  Does moment images_since commands.Serve left status first last old new = AnswersItems content images server_file server_bytes (λ records. runs serve_step records (frames_of left)) status first last old new
  Does moment images_since commands.Send left status first last old new = TellsText content images moment images_since client_file (text_of errands.Send) status first last old new
  Does moment images_since commands.Ask left status first last old new = TellsText content images moment images_since client_file (text_of errands.Ask) status first last old new
  Does moment images_since commands.Show left status first last old new = TellsText content images moment images_since node_file shown status first last old new
  Does moment images_since (commands.Retire ident) left status first last old new = TellsText content images moment images_since client_file (text_of (errands.Retire ident)) status first last old new
  Does moment images_since (commands.Rescue after) left status first last old new = TellsText content images moment images_since client_file (text_of (errands.Rescue after)) status first last old new
  Does moment images_since commands.Recover left status first last old new = AnswersItems content images client_file client_bytes (λ records. noting_runs recover_step heard [] records (frames_of left)) status first last old new
  Does moment images_since commands.Trim left status first last old new = MakesFile moment images_since texts.Trimmed status first last old new
  Does moment images_since (commands.Start id) left status first last old new = MakesFile moment images_since (texts.Started id) status first last old new
  Does moment images_since commands.Shrink left status first last old new = MakesShort moment images_since status first last old new

-- ---- valid inputs and files
abbrev pub IsNodeFile : {R : Type 0} → (List ℕ → Result R ℕ) → List ℕ → Type 0
IsNodeFile {R} file_of bytes = (records : R) × (file_of bytes ≡ Ok records)

-- the file is a journal of the command's node
abbrev pub IsFileFor : FileCommand → List ℕ → Type 0
IsFileFor commands.Edit bytes = IsNodeFile client_file bytes
IsFileFor commands.Take bytes = IsNodeFile client_file bytes
IsFileFor commands.Serve bytes = IsNodeFile server_file bytes
IsFileFor commands.Send bytes = IsNodeFile client_file bytes
IsFileFor commands.Ask bytes = IsNodeFile client_file bytes
IsFileFor commands.Show bytes = IsNodeFile node_file bytes
IsFileFor (commands.Retire ident) bytes = IsNodeFile client_file bytes
IsFileFor (commands.Rescue after) bytes = IsNodeFile client_file bytes
IsFileFor commands.Recover bytes = IsNodeFile client_file bytes
IsFileFor commands.Trim bytes = IsNodeFile server_file bytes
IsFileFor (commands.Start id) bytes = IsNodeFile server_file bytes
IsFileFor commands.Shrink bytes = IsNodeFile client_file bytes

-- each line or frame is one of the command's
abbrev pub IsInputFor : FileCommand → Option (List ℕ) → Type 0
IsInputFor commands.Edit left = IsValid is_node_line (lines_of left)
IsInputFor commands.Take left = IsValid is_message (frames_of left)
IsInputFor commands.Serve left = IsValid is_message (frames_of left)
IsInputFor commands.Send left = Unit {0}
IsInputFor commands.Ask left = Unit {0}
IsInputFor commands.Show left = Unit {0}
IsInputFor (commands.Retire ident) left = Unit {0}
IsInputFor (commands.Rescue after) left = Unit {0}
IsInputFor commands.Recover left = IsValid is_message (frames_of left)
IsInputFor commands.Trim left = Unit {0}
IsInputFor (commands.Start id) left = Unit {0}
IsInputFor commands.Shrink left = Unit {0}

-- the ends of a command over a file; those that read nothing have none of reading
abbrev pub IsFileStatus : FileCommand → Status → Type 0
IsFileStatus commands.Edit status = IsNodeStatus status
IsFileStatus commands.Take status = IsNodeStatus status
IsFileStatus commands.Serve status = IsNodeStatus status
IsFileStatus commands.Send status = IsTellStatus status
IsFileStatus commands.Ask status = IsTellStatus status
IsFileStatus commands.Show status = IsTellStatus status
IsFileStatus (commands.Retire ident) status = IsTellStatus status
IsFileStatus (commands.Rescue after) status = IsTellStatus status
IsFileStatus commands.Recover status = IsNodeStatus status
IsFileStatus commands.Trim status = IsTellStatus status
IsFileStatus (commands.Start id) status = IsTellStatus status
IsFileStatus commands.Shrink status = IsTellStatus status

-- the commands that read no input
abbrev pub ReadsNothing : FileCommand → Type 0
ReadsNothing commands.Edit = ⊥
ReadsNothing commands.Take = ⊥
ReadsNothing commands.Serve = ⊥
ReadsNothing commands.Send = Unit {0}
ReadsNothing commands.Ask = Unit {0}
ReadsNothing commands.Show = Unit {0}
ReadsNothing (commands.Retire ident) = Unit {0}
ReadsNothing (commands.Rescue after) = Unit {0}
ReadsNothing commands.Recover = ⊥
ReadsNothing commands.Trim = Unit {0}
ReadsNothing (commands.Start id) = Unit {0}
ReadsNothing commands.Shrink = Unit {0}
