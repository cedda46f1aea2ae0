-- Catching up, computed: what it comes to, and that each hypothesis and each exception is needed.
use Rattle.std.proofs.lemmas.Bool.{leb-true}
use Rattle.std.proofs.Common.{◌≡◌, Bool, true, false, ◌&&◌, ◌+◌, arith, nat_le, ℕ, List, [], ◌∷◌, ◌++◌, refl, map, length}
use Rattle.sync_theory.specs.Toy.{Toy, Set, Add, Column, Sheet}
use Rattle.sync_model.specs.Bytes.{Name, Uuid}
use Rattle.sync_model.specs.Messages.{Ident, Download, Refused, Stored}
use Rattle.sync_model.specs.Profile.{Profile}
use Rattle.sync_model.specs.Clients.{client_of, Mismatch, WasRefused, ClientRecord, Born, Named, Made, Took}
use Rattle.sync_model.specs.Servers.{server_of, server_objects}
use Rattle.sync_model.specs.Worlds.{World, Event, Joins, Edits, Stops, Upgrades, Messaged, Replied, Took, Stopped, NoMessage, Declined, Drop, empty_world, world_after, outcomes, server_name, Starts, Subscribes}
use Rattle.std.specs.Prelude.{sum_by}
use Rattle.sync_model.specs.Toy.{toy, toy_spell, toy_weight}
use Rattle.sync_model.specs.Progress.{catches_up, all_catch_up, enough_for_all, IsRoomy}
use Rattle.sync_model.specs.Resets.{IsHeir, Handled, SavedAs, recover}
use Rattle.sync_model.specs.Rescues.{after_runs, rescue_frames}

abbrev A : Name
A = 65 ∷ []

abbrev B : Name
B = 66 ∷ []

abbrev C : Name
C = 67 ∷ []

abbrev uuid : ℕ → Uuid
uuid n = n ∷ []

abbrev world : List (Event Toy) → World
world es = world_after toy empty_world es

abbrev sheets : World → List Sheet
sheets w = server_objects toy (server_of toy w.server) ∷ map (λ c. (client_of toy c.records).objects) w.clients

-- cursors and how many are unsent
abbrev places : Profile Toy Sheet → World → List (ℕ × ℕ)
places p w = map (λ c. ((client_of p c.records).cursor, length (client_of p c.records).unsent)) w.clients

-- A and B, which have met nobody yet, made one change and two
abbrev two : World
two = world (Joins A (uuid 1) ∷ Joins B (uuid 2) ∷ Edits A 1 (Add 1 ∷ []) ∷ Edits B 2 (Set 5 ∷ []) ∷ Edits B 3 (Add 2 ∷ []) ∷ [])

abbrev caught : World
caught = world_after toy two (all_catch_up two (enough_for_all toy two))

all_agree : sheets caught ≡ record { n = 7; column = 0 } ∷ record { n = 7; column = 0 } ∷ record { n = 7; column = 0 } ∷ []
all_agree = refl

all_current : places toy caught ≡ (3, 0) ∷ (3, 0) ∷ []
all_current = refl

-- A has all tables, B has the number hidden, and C began with the server's objects: each has its part of them
abbrev parts : World
parts = world (Joins A (uuid 1) ∷ Joins B (uuid 2) ∷ Subscribes B [] ∷ Edits A 1 (Add 4 ∷ Column 1 ∷ []) ∷ catches_up A 0 1 ++ Starts C (uuid 3) ∷ Edits C 2 (Add 3 ∷ []) ∷ [])

part_of_each : sheets (world_after toy parts (all_catch_up parts (enough_for_all toy parts))) ≡ record { n = 7; column = 1 } ∷ record { n = 7; column = 1 } ∷ record { n = 0; column = 1 } ∷ record { n = 7; column = 1 } ∷ []
part_of_each = refl

-- once isn't enough for all: A, which went first, lacks B's
once : places toy (world_after toy two (catches_up A 0 5 ++ catches_up B 22 5)) ≡ (1, 0) ∷ (3, 0) ∷ []
once = refl

-- a mismatch comes in every turn, and B never gets there
abbrev stuck : World
stuck = world (Joins A (uuid 1) ∷ Joins B (uuid 2) ∷ Edits A 1 (Column 1 ∷ []) ∷ Edits B 2 (Column 2 ∷ []) ∷ catches_up A 0 1)

mismatched : outcomes toy stuck (catches_up B 6 2) ≡
    Messaged 7 ∷ Replied 8 (Ident (uuid 2) 2) ∷ Took 0
    ∷ Messaged 9 ∷ Replied 10 (Refused 2 1 2 0) ∷ Declined (WasRefused 1 2) ∷ Messaged 11 ∷ Replied 12 (Download 2 0 (record { origin = 1; number = 1; ms = 1; body = 2 ∷ 1 ∷ [] } ∷ [])) ∷ Declined (Mismatch 0 1 2)
    ∷ Messaged 13 ∷ Replied 14 (Refused 2 1 2 0) ∷ Declined (WasRefused 1 2) ∷ Messaged 15 ∷ Replied 16 (Download 2 0 (record { origin = 1; number = 1; ms = 1; body = 2 ∷ 1 ∷ [] } ∷ [])) ∷ Declined (Mismatch 0 1 2) ∷ []
mismatched = refl

-- a reset lets its change go on: an heir that has A's column saves it, without B's, which is dropped
abbrev held : List ClientRecord
held = Born (uuid 2) ∷ Named 2 ∷ Made 1 2 (2 ∷ 2 ∷ []) ∷ []

abbrev heir : List ClientRecord
heir = Born (uuid 3) ∷ Named 3 ∷ Took 1 1 1 (2 ∷ 1 ∷ []) ∷ []

saved : after_runs toy (client_of toy held) 0 1 heir ≡ heir ++ Made 1 2 [] ∷ []
saved = refl

dropped : (recover toy (client_of toy heir) (rescue_frames toy (client_of toy held) 3 0 0)).answer ≡ (IsHeir 2 0 ∷ []) ∷ (Handled 1 (SavedAs 1 ((0, 12) ∷ [])) ∷ []) ∷ []
dropped = refl

-- a client of form 1 is kept from an entry of form 2, by neither a mismatch nor a full history
abbrev old : World
old = world (Joins A (uuid 1) ∷ Joins B (uuid 2) ∷ Upgrades A ∷ Edits A 1 (Column 3 ∷ []) ∷ catches_up A 0 1)

needs_form_2 : outcomes toy old (catches_up B 6 1) ≡
    Messaged 7 ∷ Replied 8 (Ident (uuid 2) 2) ∷ Took 0 ∷ Messaged 9 ∷ Replied 10 (Stored 2 0) ∷ Took 0 ∷ Messaged 11 ∷ Replied 12 (Refused 2 0 67 0) ∷ Declined (WasRefused 0 67) ∷ []
needs_form_2 = refl

-- where a message can't bear a change nothing is refused, and the client stays where it is
abbrev tight : Profile Toy Sheet
tight = record toy { room = 1 }

abbrev alone : World
alone = world_after tight empty_world (Joins A (uuid 1) ∷ Edits A 1 (Add 1 ∷ []) ∷ [])

never : outcomes tight alone (catches_up A 0 1) ≡ Messaged 1 ∷ Replied 2 (Ident (uuid 1) 1) ∷ Took 0 ∷ Messaged 3 ∷ Replied 4 (Stored 1 0) ∷ Took 0 ∷ Messaged 5 ∷ Replied 6 (Download 1 0 []) ∷ Took 0 ∷ []
never = refl

never_there : places tight (world_after tight alone (catches_up A 0 3)) ≡ (0, 1) ∷ []
never_there = refl

-- a stop of the client is spent by its Bind, which appends nothing
abbrev armed : World
armed = world (Joins A (uuid 1) ∷ Edits A 1 (Add 1 ∷ []) ∷ Stops A 1 Drop ∷ [])

spent : outcomes toy armed (catches_up A 0 1) ≡
    Messaged 1 ∷ Replied 2 (Ident (uuid 1) 1) ∷ Took 0 ∷ Messaged 3 ∷ Replied 4 (Stored 1 1) ∷ Took 0 ∷ Messaged 5 ∷ Replied 6 (Download 1 0 (record { origin = 1; number = 1; ms = 1; body = 1 ∷ 1 ∷ [] } ∷ [])) ∷ Took 1 ∷ []
spent = refl

-- one of the server comes where the uuid is new; the next time all goes well
abbrev server_armed : World
server_armed = world (Joins A (uuid 1) ∷ Edits A 1 (Add 1 ∷ []) ∷ Stops server_name 1 Drop ∷ [])

stopped : outcomes toy server_armed (catches_up A 0 0 ++ catches_up A 1 1) ≡
    Messaged 1 ∷ Stopped ∷ NoMessage ∷ Messaged 2 ∷ Replied 3 (Ident (uuid 1) 1) ∷ Took 0 ∷ Messaged 4 ∷ Replied 5 (Stored 1 1) ∷ Took 0 ∷ Messaged 6 ∷ Replied 7 (Download 1 0 (record { origin = 1; number = 1; ms = 1; body = 1 ∷ 1 ∷ [] } ∷ [])) ∷ Took 1 ∷ []
stopped = refl

-- the toy's messages bear each of its changesets
spelled_length : (is : List Toy) → length (toy_spell is) ≡ length is + length is
spelled_length [] = refl
spelled_length (Set v ∷ is) = let e = spelled_length is in omega arith
spelled_length (Add v ∷ is) = let e = spelled_length is in omega arith
spelled_length (Column v ∷ is) = let e = spelled_length is in omega arith

toy_roomy : IsRoomy toy
toy_roomy = record { some = omega arith; fits = λ is small. let e = spelled_length is in let le = leb-true (length is) 3 (first (nat_le (length is) 3) (nat_le (sum_by toy_weight is) 5) small) in omega arith }
  where
    first : (a b : Bool) → (a && b) ≡ true → a ≡ true
    first true b e = refl
    first false b e = cc
