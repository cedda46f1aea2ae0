-- What answers a line or a frame, by the records of the node: the text that is written, and the records that are added before.
use Rattle.std.specs.Prelude.{◌≡◌, ℕ, Bool, true, false, List, codes, map, Option, None, Some, Result, Ok, Err, ⊤}
use Rattle.std.specs.Option.{is_some, option_map}
use Rattle.sync_model.specs.Clients as clients
use Rattle.sync_model.specs.Clients.{ClientRecord, ClientRefusal, ClientStep, client_of}
use Rattle.sync_model.specs.Messages.{Message}
use Rattle.sync_base.specs.States.{State}
use Rattle.sync_data.specs.declared.instr.Instr.{Instr}
use Rattle.sync_model.specs.Fronts.{file_gives}
use Rattle.sync_model.specs.Parts.{Parts, Served, no_parts, serve_by}
use Rattle.sync_model.specs.Servers.{ServerRecord}
use Rattle.sync_model.specs.Worlds.{Words}
use Rattle.sync_exchange.specs.Profile.{the_profile}
use Rattle.sync_edits.specs.Lines.{node_form_of_line}
use Rattle.sync_edits.specs.declared.event.NodeLine.{NodeLine}
use Rattle.sync_edits.specs.declared.event.NodeLine.TheVariants as node_lines
use Rattle.sync_words.specs.Messages.{message_read}
use Rattle.sync_words.specs.Words.{outcome_line, refusal_text, words_text}
use Rattle.sync_node.specs.Frames.{frame}
use Rattle.sync_node.specs.Items.{Items, Over, Bad, Limit, Next}
use Rattle.sync_node.specs.Runs.{Answer}

-- ---- outcome lines
-- the words of what a client's call answers, or of why it refuses
abbrev pub answer_words : {A : Type 0} → (A → List ℕ) → Result A ClientRefusal → List ℕ
answer_words words (Ok a) = words a
answer_words words (Err why) = refusal_text why

abbrev pub said : {A : Type 0} → ℕ → (A → List ℕ) → ClientStep A → Answer ClientRecord
said number words did = record { text = outcome_line number (answer_words words did.answer); records = did.records }

abbrev pub born_words : ⊤ → List ℕ
born_words u = codes "born"

abbrev pub made_words : ℕ → List ℕ
made_words number = words_text (Words.Made number)

abbrev pub took_words : ℕ → List ℕ
took_words cursor = words_text (Words.Took cursor)

abbrev pub upgrade_words : Bool → List ℕ
upgrade_words true = words_text Words.Upgraded
upgrade_words false = words_text Words.Current

abbrev pub subscribe_words : ⊤ → List ℕ
subscribe_words u = words_text Words.SubscribedTo

-- ---- a client, by its records
-- a node line
abbrev pub line_answer : List ClientRecord → ℕ → NodeLine → Answer ClientRecord
line_answer records number (node_lines.Born id) = said number born_words (clients.born (client_of the_profile records) id)
line_answer records number (node_lines.Commit ms edits) = said number made_words (clients.commit the_profile (client_of the_profile records) ms edits)
line_answer records number node_lines.Upgrade = said number upgrade_words (clients.upgrade (client_of the_profile records))
line_answer records number (node_lines.Subscribe tables) = said number subscribe_words (clients.subscribe (client_of the_profile records) tables)

-- a line; none where it is no node line
abbrev pub edit_step : List ClientRecord → ℕ → List ℕ → Option (Answer ClientRecord)
edit_step records number line = option_map (line_answer records number) (node_form_of_line line)

-- a message
abbrev pub take_answer : List ClientRecord → ℕ → Message → Answer ClientRecord
take_answer records number message = said number took_words (clients.take the_profile (client_of the_profile records) message)

-- a frame; none where it is no message
abbrev pub take_step : List ClientRecord → ℕ → List ℕ → Option (Answer ClientRecord)
take_step records number bytes = option_map (take_answer records number) (message_read bytes)

-- ---- a server, by its records
-- what it keeps of them
abbrev pub kept_or : Result (Parts Instr State) ℕ → Parts Instr State
kept_or (Ok kept) = kept
kept_or (Err number) = no_parts the_profile

abbrev pub kept_by : List ServerRecord → Parts Instr State
kept_by records = kept_or (file_gives the_profile (map (λ r. Some r) records))

-- what a message is replied
abbrev pub replied : Served Instr State → Answer ServerRecord
replied did = record { text = frame did.answer; records = did.records }

-- a frame; none where it is no message
abbrev pub serve_step : List ServerRecord → ℕ → List ℕ → Option (Answer ServerRecord)
serve_step records number bytes = option_map (λ message. replied (serve_by the_profile (kept_by records) message)) (message_read bytes)

-- ---- valid inputs
abbrev pub is_node_line : List ℕ → Bool
is_node_line line = is_some (node_form_of_line line)

abbrev pub is_message : List ℕ → Bool
is_message bytes = is_some (message_read bytes)

-- each item is one, and the input ends behind them
abbrev pub AreAll : (List ℕ → Bool) → Items → Type 0
AreAll is_one Over = Unit {0}
AreAll is_one (Bad number) = ⊥
AreAll is_one Limit = ⊥
AreAll is_one (Next number item rest) = (is_one item ≡ true) × AreAll is_one rest

-- of a source that tells its bytes
abbrev pub IsValid : (List ℕ → Bool) → Option Items → Type 0
IsValid is_one None = ⊥
IsValid is_one (Some items) = AreAll is_one items

-- ---- parts
-- a refusal that the model has was told; any other isn't
abbrev pub Declined : ℕ → List ℕ → Option ClientRefusal → Type 0
Declined number text None = ⊥
Declined number text (Some why) = text ≡ outcome_line number (refusal_text why)
