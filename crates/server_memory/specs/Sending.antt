-- What a server answers to a question for its history.
use Rattle.std.specs.Prelude.{◌≡◌, ℕ, Bool, true, false, not, ◌&&◌, List, [], ◌∷◌, map, length, Option, None, Some, nat_le, if◌then◌else◌}
use Rattle.sync_data.specs.declared.instr.Instr.{Instr}
use Rattle.sync_base.specs.States.{State}
use Rattle.sync_theory.specs.Changesets.{Changeset}
use Rattle.sync_subset.specs.Tables.{Tables}
use Rattle.sync_model.specs.Messages.{Message, Sent, Refused}
use Rattle.sync_model.specs.Parts.{Parts, Served, ask_by, at_ident, marked}
use Rattle.sync_model.specs.Profile.{fitting, needs, restricted}
use Rattle.sync_model.specs.Servers.{Settled, ServerRefusal, ServerStep, at_place, code_of, download, download_first, download_tables, first_form, sent_of}
use Rattle.sync_exchange.specs.Profile.{the_profile}

-- a refusal as a message
abbrev pub refusal_message : ℕ → ℕ → ServerRefusal → Message
refusal_message ident number why = Refused ident number (code_of why) (at_place why)

-- the entries that a client takes: all, or those before the first of version 2
abbrev pub shown : Bool → List (Changeset Instr) → List (Changeset Instr)
shown true xs = xs
shown false xs = first_form the_profile xs

-- the first of them is of version 2
abbrev pub starts_second : List (Changeset Instr) → Bool
starts_second [] = false
starts_second (x ∷ xs) = needs the_profile x.instrs

-- the bytes that an entry takes of a message
abbrev pub size_of : Sent → ℕ
size_of e = length e.body

-- an entry that the client takes, where there is room
abbrev pub fits_next : Bool → ℕ → Changeset Instr → Option Sent
fits_next second room x = if not second && needs the_profile x.instrs then None else if nat_le (length (sent_of the_profile x).body) room then Some (sent_of the_profile x) else None

-- the longest beginning that a message may bear
abbrev pub sendable : Bool → List (Changeset Instr) → List Sent
sendable second xs = fitting size_of 4096 16777216 (map (sent_of the_profile) (shown second xs))

-- what is left of each entry for a client of some tables, or each entry
abbrev pub given_to : Option Tables → List (Changeset Instr) → List (Changeset Instr)
given_to tables xs = map (restricted the_profile tables) xs

-- a reply with the entries from a cursor on, for a client of some tables or of all, that takes version 2 or not
abbrev pub downloads : Option Tables → Bool → ℕ → ℕ → List (Changeset Instr) → ServerStep
downloads None true = download the_profile
downloads None false = download_first the_profile
downloads (Some tables) second = download_tables the_profile second tables

-- what a server does with such a question
abbrev pub asked : Parts Instr State → ℕ → ℕ → ℕ → Option Tables → Bool → Served Instr State
asked kept c cursor settled tables second = ask_by kept c cursor settled (at_ident c kept.idents) (downloads tables second c cursor)

-- a truth value tells whether the question settles more than those before it of ident c; then a record of it is made
pub record Settles (new : Bool) (did : Served Instr State) (kept : Parts Instr State) (c settled : ℕ) : Type 0 where
  pub records : did.records ≡ (if new then Settled c settled ∷ [] else [])
  pub parts : did.parts ≡ (if new then record kept { idents = marked c settled 1 kept.idents } else kept)
