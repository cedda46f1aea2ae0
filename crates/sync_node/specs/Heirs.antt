-- What an heir over a file and its notes stand for, and that its answers say what they do.
use Rattle.std.specs.Prelude.{◌≡◌, ℕ, ◌==◌, ◌≤◌, Bool, true, false, if◌then◌else◌, List, [], ◌∷◌, ◌++◌, codes, decimal, length, map, Option, None, Some, Result, Ok, Err, IfOk, Vec}
use Rattle.std.specs.declared.alloc.Global.{Global}
use Rattle.std.proofs.Common.{inl, inr, ap, arith, length-append, subst}
use Rattle.std.specs.List.{AllByRecursion, flat_map}
use Rattle.std.specs.Option.{option_map}
use Rattle.sync_data.specs.declared.instr.Instr.{Instr}
use Rattle.sync_base.specs.States.{State}
use Rattle.sync_disk.specs.declared.disk.Disk.{Ghosts}
use Rattle.sync_client.specs.declared.client.Client.{Client}
use Rattle.sync_messages.specs.Parts.{RetiredParts}
use Rattle.sync_model.specs.Clients.{Client as Model, ClientRecord, Step, after_records, client_of}
use Rattle.sync_model.specs.Messages.{Change, Message}
use Rattle.sync_model.specs.Resets.{HeirStep, HeirAnswer, Integrated, Known, SavedAs, ResetRefusal, RecoveryLine, IsHeir, Handled, Refuses, NoRetired, count_known, handled, heir, recover_changes, recover_frame, recover_upload, says_only}
use Rattle.sync_exchange.specs.Profile.{the_profile}
use Rattle.sync_exchange.specs.Seen.{message_seen}
use Rattle.sync_messages.specs.declared.message.Message.{Message as CodeMessage}
use Rattle.sync_node.specs.declared.command.ItemEnd.{ItemEnd}
use Rattle.sync_words.specs.Messages.{message_read}
use Rattle.sync_words.specs.Words.{outcome_line, said}
use Rattle.sync_node.specs.Holding.{ClientStands}
use Rattle.sync_node.specs.Recovering.{Counts, dropped_lines, heir_lines, recover_step, recovered, recovery_line}
use Rattle.sync_node.specs.Runs.{Answer, AnswersSo, IsTold}

-- ---- Retired messages that came, the latest first
-- the count of each ident
abbrev pub counts_of : List RetiredParts → Counts
counts_of = map (λ r. (r.ident, r.number))

-- they came for this ident
abbrev pub mine : ℕ → List RetiredParts → Type 0
mine by = AllByRecursion (λ r. r.by ≡ by)

-- what came has these counts, and came for a client of these records
pub record HasHeard (counts : Counts) (records : List ClientRecord) (heard : List RetiredParts) : Type 0 where
  pub counts_is : counts ≡ counts_of heard
  pub mine_is : mine (client_of the_profile records).ident heard

-- an open client of these records, whose disk holds them, and what came for it has these counts
pub record RecovererStands {D : Type 0} {G : Ghosts D} (counts : Counts) (records : List ClientRecord) (heard : List RetiredParts) (c : Client D G) : Type 0 where
  pub client : ClientStands records c
  pub counts_is : counts ≡ counts_of heard
  pub mine_is : mine (client_of the_profile records).ident heard

-- ---- the parts of a frame's answer
module _ {D : Type 0} {G : Ghosts D} where
  -- a change was answered so, which is put behind what was put before; or refused, and the frame ends
  abbrev pub HandledSo : Bool → ℕ → ℕ → HeirStep → List ClientRecord → List ℕ → List ℕ → Client D G → Type 0
  HandledSo true number change did records old new c = (a : HeirAnswer) × (did.answer ≡ Ok a) × (new ≡ old ++ recovery_line number (Handled change a)) × ClientStands (records ++ did.records) c
  HandledSo false number change did records old new c = (why : ResetRefusal) × (did.answer ≡ Err why) × (new ≡ old ++ recovery_line number (Refuses why)) × ClientStands (records ++ did.records) c

  -- the changes of a frame were answered so
  pub record SavedSo (number : ℕ) (did : Step ClientRecord (List RecoveryLine)) (records : List ClientRecord) (text : List ℕ) (c : Client D G) : Type 0 where
    pub text_is : text ≡ flat_map (recovery_line number) did.answer
    pub client : ClientStands (records ++ did.records) c
    pub ident : (client_of the_profile (records ++ did.records)).ident ≡ (client_of the_profile records).ident

  -- a frame was answered so
  abbrev pub RecoversSo : CodeMessage → ℕ → List RetiredParts → Client D G → List RetiredParts → Client D G → Result (Vec ℕ Global) ItemEnd → Type 0
  RecoversSo m number heard old heard_now new result = (records : List ClientRecord) → ClientStands records old → mine (client_of the_profile records).ident heard
      → IfOk result (λ text. AnswersSo (Some (recovered number (recover_frame the_profile (client_of the_profile records) (counts_of heard) (message_seen m)))) records text.items
      (λ rs. RecovererStands (recover_frame the_profile (client_of the_profile records) (counts_of heard) (message_seen m)).known rs heard_now new))

-- ---- an answer that says nothing adds no record
line_says : (number : ℕ) (words : List ℕ) → 1 ≤ length (outcome_line number words)
line_says number words = omega (arith, length-append (decimal number ++ codes " " ++ words) (codes "\n"))

heir_says : (number change : ℕ) (answer : HeirAnswer) → 1 ≤ length (heir_lines number change answer)
heir_says number change Integrated = line_says number _
heir_says number change Known = line_says number _
heir_says number change (SavedAs made dropped) =
    let first : 1 ≤ length (outcome_line number (said (codes "saved") (change ∷ made ∷ []))) = line_says number (said (codes "saved") (change ∷ made ∷ [])) in
    omega (arith, first, length-append (outcome_line number (said (codes "saved") (change ∷ made ∷ []))) (dropped_lines number change dropped))

recovery_says : (number : ℕ) (line : RecoveryLine) → 1 ≤ length (recovery_line number line)
recovery_says number (IsHeir ident count) = line_says number _
recovery_says number (Handled change answer) = heir_says number change answer
recovery_says number (Refuses why) = line_says number _
recovery_says number NoRetired = line_says number _

-- what says something
lines_say : (number : ℕ) (line : RecoveryLine) (lines : List RecoveryLine) → 1 ≤ length (flat_map (recovery_line number) (line ∷ lines))
lines_say number line lines = let first : 1 ≤ length (recovery_line number line) = recovery_says number line in omega (arith, first, length-append (recovery_line number line) (flat_map (recovery_line number) lines))

abbrev value_or : {A : Type 0} → A → Option A → A
value_or a None = a
value_or a (Some b) = b

handled_told : (number change : ℕ) (counts : Counts) (new : List ClientRecord) (r : Result HeirAnswer ResetRefusal) (go : List ClientRecord → Step ClientRecord (List RecoveryLine))
    → IsTold (recovered number (record { records = (handled change new r go).records; lines = (handled change new r go).answer; known = counts }))
handled_told number change counts new (Ok a) go = inr (lines_say number (Handled change a) (go new).answer)
handled_told number change counts new (Err why) go = inr (lines_say number (Refuses why) [])

module _ (number : ℕ) (counts : Counts) (c : Model Instr State) where
  upload_told : (o : Option ℕ) (hs : List Change) → IsTold (recovered number (recover_upload the_profile c counts o hs))
  upload_told None hs = inr (lines_say number NoRetired [])
  upload_told (Some count) [] = inl (omega arith)
  upload_told (Some count) (h ∷ hs) =
      handled_told number h.number counts (heir the_profile c c.ident count h).records (heir the_profile c c.ident count h).answer (λ new. recover_changes the_profile (after_records the_profile c new) count hs)

  retired_told : (ident count : ℕ) (b : Bool) → IsTold (recovered number (if b then says_only ((ident, count) ∷ counts) (IsHeir ident count) else says_only counts (Refuses ResetRefusal.NotMine)))
  retired_told ident count true = inr (lines_say number (IsHeir ident count) [])
  retired_told ident count false = inr (lines_say number (Refuses ResetRefusal.NotMine) [])

  frame_told : (m : Message) → IsTold (recovered number (recover_frame the_profile c counts m))
  frame_told (Message.Retired ident by count) = retired_told ident count (by == c.ident)
  frame_told (Message.Upload ident hs) = upload_told (count_known ident counts) hs
  frame_told (Message.Bind id) = inr (lines_say number NoRetired [])
  frame_told (Message.Ident id ident) = inr (lines_say number NoRetired [])
  frame_told (Message.Ask ident cursor settled) = inr (lines_say number NoRetired [])
  frame_told (Message.Download ident from entries) = inr (lines_say number NoRetired [])
  frame_told (Message.Refused ident n code place) = inr (lines_say number NoRetired [])
  frame_told (Message.Stored ident n) = inr (lines_say number NoRetired [])
  frame_told (Message.Ask2 ident cursor settled) = inr (lines_say number NoRetired [])
  frame_told (Message.Retire ident by) = inr (lines_say number NoRetired [])
  frame_told (Message.AskTables ident cursor settled second tables) = inr (lines_say number NoRetired [])

  read_told : (o : Option Message) (answer : Answer ClientRecord) → option_map (λ m. recovered number (recover_frame the_profile c counts m)) o ≡ Some answer → IsTold answer
  read_told None answer is = cc
  read_told (Some m) answer is = subst IsTold (ap (value_or (recovered number (recover_frame the_profile c counts m))) is) (frame_told m)

pub recover_says : (counts : Counts) (records : List ClientRecord) (number : ℕ) (item : List ℕ) (answer : Answer ClientRecord) → recover_step counts records number item ≡ Some answer → IsTold answer
recover_says counts records number item answer is = read_told number counts (client_of the_profile records) (message_read item) answer is
