-- A generated exchange: the events that follow from a seed and a number of turns.
use Rattle.std.specs.Prelude.{ℕ, List, [], ◌∷◌, ◌++◌, length, Option, None, Some}
use Rattle.sync_base.specs.States.{State, no_state}
use Rattle.sync_data.specs.declared.instr.Instr.{Instr}
use Rattle.sync_model.specs.Bytes.{Name}
use Rattle.sync_model.specs.Clients.{client_of}
use Rattle.sync_model.specs.Worlds.{Event, Node, Words, World, empty_world, happens, has_name, seek, server_name}
use Rattle.sync_exchange.specs.Profile.{the_profile}
use Rattle.sync_gen.specs.Clients.{first_edits_of, id_of, name_of}
use Rattle.sync_gen.specs.Draws.{Drawing, given}
use Rattle.sync_gen.specs.Edits.{edit_of}
use Rattle.sync_gen.specs.Turns.{turn_of}
use Rattle.sync_gen.specs.declared.turns.Turn.{Turn}
use Rattle.sync_gen.specs.declared.turns.TurnKind.{TurnKind}
use Rattle.sync_gen.specs.declared.turns.TurnKind.TheVariants as kinds
use Rattle.gen_law.specs.declared.plan.Move.{Move}
use Rattle.gen_law.specs.declared.plan.Move.TheVariants as moves
use Rattle.gen_law.specs.Plans.{plan}

-- ---- what events make of a world
-- the world after an event, and what is told of it
unfoldable pub after : World → Event Instr → World
after w e = (happens the_profile w e).world

unfoldable pub told : World → Event Instr → Words
told w e = (happens the_profile w e).words

-- the same of several
abbrev pub world_by : World → List (Event Instr) → World
world_by w [] = w
world_by w (e ∷ es) = world_by (after w e) es

abbrev pub words_by : World → List (Event Instr) → List Words
words_by w [] = []
words_by w (e ∷ es) = told w e ∷ words_by (after w e) es

-- ---- what a client does at once
-- the newest message comes to a node
abbrev pub newest_to : Name → World → Event Instr
newest_to to w = Event.Delivers (length w.messages) to

-- what a client sends goes to the server, and the reply back to the client
abbrev pub answered : Name → World → List (Event Instr)
answered name w = newest_to server_name w ∷ newest_to name (after w (newest_to server_name w)) ∷ []

abbrev pub exchanged : Name → Event Instr → World → List (Event Instr)
exchanged name sending w = sending ∷ answered name (after w sending)

-- a client comes in and asks for its ident
abbrev pub joined : Name → Event Instr → World → List (Event Instr)
joined name coming w = coming ∷ exchanged name (Event.Binds name) (after w coming)

-- ---- turns
-- the objects of a client; one that isn't there has none
abbrev pub node_objects : Option (ℕ × Node) → State
node_objects None = no_state
node_objects (Some q) = (client_of the_profile q.1.records).objects

unfoldable pub objects_of : World → Name → State
objects_of w name = node_objects (seek (has_name name) w.clients)

-- what is drawn for a client's turn, in the world as it stands
abbrev pub done_by : Name → TurnKind → World → Drawing (List (Event Instr))
done_by name kinds.Restart w = given (Event.Restarts name ∷ [])
done_by name (kinds.Edit ms) w = λ x. (Event.Edits name ms ((edit_of (objects_of w name) x).0 ∷ []) ∷ [], (edit_of (objects_of w name) x).1)
done_by name kinds.Push w = given (exchanged name (Event.Uploads name) w)
done_by name kinds.Pull w = given (exchanged name (Event.Asks name) w)

abbrev pub turned : Turn → World → Drawing (List (Event Instr))
turned turn w = done_by (name_of turn.client) turn.kind w

-- ---- the exchange
-- the events of a part of the plan, in the world before it
abbrev pub move_events : Move → World → Drawing (List (Event Instr))
move_events (moves.Join client) w = given (joined (name_of client) (Event.Joins (name_of client) (id_of client)) w)
move_events moves.Found w = given (Event.Edits (name_of 1) 1 first_edits_of ∷ [])
move_events (moves.Push client) w = given (exchanged (name_of client) (Event.Uploads (name_of client)) w)
move_events (moves.Pull client) w = given (exchanged (name_of client) (Event.Asks (name_of client)) w)
move_events (moves.Turn number) w = λ x. turned (turn_of number x).0 w (turn_of number x).1

-- and of all parts, one after another
abbrev pub events_by : List Move → World → ℕ → List (Event Instr)
events_by [] w x = []
events_by (m ∷ ms) w x = (move_events m w x).0 ++ events_by ms (world_by w (move_events m w x).0) (move_events m w x).1

-- the events of a seed and a number of turns
unfoldable pub events_of : ℕ → ℕ → List (Event Instr)
events_of seed count = events_by (plan count) empty_world seed
