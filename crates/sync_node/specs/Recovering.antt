-- What answers a frame of a recovery, by the records of the heir and the counts of which its run knows.
use Rattle.std.specs.Prelude.{◌≡◌, ℕ, List, [], ◌∷◌, ◌++◌, codes, Option, None, Some}
use Rattle.std.specs.List.{flat_map}
use Rattle.std.specs.Option.{option_map}
use Rattle.sync_model.specs.Clients.{ClientRecord, client_of}
use Rattle.sync_model.specs.Messages.{Message}
use Rattle.sync_model.specs.Resets.{HeirAnswer, Integrated, Known, SavedAs, ResetRefusal, NotMine, Skips, BadChange, ByClient, Recovered, RecoveryLine, IsHeir, Handled, Refuses, NoRetired, recover_frame}
use Rattle.sync_exchange.specs.Profile.{the_profile}
use Rattle.sync_words.specs.Messages.{message_read}
use Rattle.sync_words.specs.Words.{outcome_line, refusal_text, refused, said}
use Rattle.sync_node.specs.Runs.{Answer}

-- the ident of a retired client and how many of its changes are integrated, the latest first
abbrev pub Counts : Type 0
Counts = List (ℕ × ℕ)

-- ---- outcome lines
abbrev pub dropped_lines : ℕ → ℕ → List (ℕ × ℕ) → List ℕ
dropped_lines number change = flat_map (λ d. outcome_line number (said (codes "dropped") (change ∷ d.0 ∷ d.1 ∷ [])))

-- what became of a change of this number
abbrev pub heir_lines : ℕ → ℕ → HeirAnswer → List ℕ
heir_lines number change Integrated = outcome_line number (said (codes "integrated") (change ∷ []))
heir_lines number change Known = outcome_line number (said (codes "known") (change ∷ []))
heir_lines number change (SavedAs made dropped) = outcome_line number (said (codes "saved") (change ∷ made ∷ [])) ++ dropped_lines number change dropped

abbrev pub reset_text : ResetRefusal → List ℕ
reset_text NotMine = refused (codes "NotMine") []
reset_text (Skips expected got) = refused (codes "Skips") (expected ∷ got ∷ [])
reset_text (BadChange change offset rule) = refused (codes "BadChange") (change ∷ offset ∷ rule ∷ [])
reset_text (ByClient why) = refusal_text why

abbrev pub recovery_line : ℕ → RecoveryLine → List ℕ
recovery_line number (IsHeir ident count) = outcome_line number (said (codes "heir") (ident ∷ count ∷ []))
recovery_line number (Handled change answer) = heir_lines number change answer
recovery_line number (Refuses why) = outcome_line number (reset_text why)
recovery_line number NoRetired = outcome_line number (refused (codes "NoRetired") [])

-- this was put for a refusal that the model knows
abbrev pub IsPutFor : ℕ → List ℕ → List ℕ → Option ResetRefusal → Type 0
IsPutFor number old new None = ⊥
IsPutFor number old new (Some why) = new ≡ old ++ outcome_line number (reset_text why)

-- ---- frames
abbrev pub recovered : ℕ → Recovered → Answer ClientRecord
recovered number did = record { text = flat_map (recovery_line number) did.lines; records = did.records }

-- a frame; none where it is no message
abbrev pub recover_step : Counts → List ClientRecord → ℕ → List ℕ → Option (Answer ClientRecord)
recover_step counts records number bytes = option_map (λ message. recovered number (recover_frame the_profile (client_of the_profile records) counts message)) (message_read bytes)

-- the counts of which the run knows behind a message
abbrev pub heard_in : Counts → List ClientRecord → Option Message → Counts
heard_in counts records None = counts
heard_in counts records (Some message) = (recover_frame the_profile (client_of the_profile records) counts message).known

abbrev pub heard : Counts → List ClientRecord → List ℕ → Counts
heard counts records bytes = heard_in counts records (message_read bytes)
