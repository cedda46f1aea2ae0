-- The world after all clients joined.
use Rattle.std.proofs.Common.{◌≡◌, ℕ, ◌+◌, ◌<◌, List, [], ◌∷◌, ◌++◌, Option, None, refl, ap, map}
use Rattle.std.proofs.lemmas.Fmt.{decimal_digit}
use Rattle.std.specs.Prelude.{codes}
use Rattle.sync_model.specs.Bytes.{Name}
use Rattle.sync_model.specs.Messages.{Message, Bind, Ident}
use Rattle.sync_model.specs.Clients.{Born, Named}
use Rattle.sync_model.specs.Servers.{ServerRecord}
use Rattle.sync_model.specs.Worlds.{Event, Node, Stop, World, arm, empty_world, server_name}
use Rattle.sync_gen.specs.Clients.{id_of, name_of}
use Rattle.gen_law.specs.Generated.{after, joined, world_by}

-- a client's name, byte by byte
abbrev pub name_at : ℕ → Name
name_at c = 99 ∷ (48 + c) ∷ []

pub name_is : (c : ℕ) → c < 10 → name_of c ≡ name_at c
name_is c lt = ap (λ ds. codes "c" ++ ds) (decimal_digit c lt)

abbrev pub node : ℕ → Node
node c = record { name = name_at c; records = Born (id_of c) ∷ Named c ∷ [] }

abbrev bound : List ℕ → List Message
bound [] = []
bound (c ∷ cs) = Bind (id_of c) ∷ Ident (id_of c) c ∷ bound cs

-- three calls were made
abbrev pub disarmed : ℕ → (Name → Option Stop) → Name → Option Stop
disarmed c stops = arm (name_at c) None (arm server_name None (arm (name_at c) None stops))

abbrev pub stops_of : List ℕ → (Name → Option Stop) → Name → Option Stop
stops_of [] stops = stops
stops_of (c ∷ cs) stops = stops_of cs (disarmed c stops)

-- these clients joined, one after another
abbrev pub with_clients : List ℕ → World
with_clients cs = record { server = map (λ c. ServerRecord.Client (id_of c)) cs; clients = map node cs; messages = bound cs; injected = []; stops = stops_of cs (λ name. None) }

abbrev pub join : ℕ → World → World
join c w = world_by w (joined (name_at c) (Event.Joins (name_at c) (id_of c)) w)

pub join1 : join 1 empty_world ≡ with_clients (1 ∷ [])
unfolding after
join1 = refl

pub join2 : join 2 (with_clients (1 ∷ [])) ≡ with_clients (1 ∷ 2 ∷ [])
unfolding after
join2 = refl

pub join3 : join 3 (with_clients (1 ∷ 2 ∷ [])) ≡ with_clients (1 ∷ 2 ∷ 3 ∷ [])
unfolding after
join3 = refl

pub join4 : join 4 (with_clients (1 ∷ 2 ∷ 3 ∷ [])) ≡ with_clients (1 ∷ 2 ∷ 3 ∷ 4 ∷ [])
unfolding after
join4 = refl

pub join5 : join 5 (with_clients (1 ∷ 2 ∷ 3 ∷ 4 ∷ [])) ≡ with_clients (1 ∷ 2 ∷ 3 ∷ 4 ∷ 5 ∷ [])
unfolding after
join5 = refl

pub join6 : join 6 (with_clients (1 ∷ 2 ∷ 3 ∷ 4 ∷ 5 ∷ [])) ≡ with_clients (1 ∷ 2 ∷ 3 ∷ 4 ∷ 5 ∷ 6 ∷ [])
unfolding after
join6 = refl

pub join7 : join 7 (with_clients (1 ∷ 2 ∷ 3 ∷ 4 ∷ 5 ∷ 6 ∷ [])) ≡ with_clients (1 ∷ 2 ∷ 3 ∷ 4 ∷ 5 ∷ 6 ∷ 7 ∷ [])
unfolding after
join7 = refl

pub join8 : join 8 (with_clients (1 ∷ 2 ∷ 3 ∷ 4 ∷ 5 ∷ 6 ∷ 7 ∷ [])) ≡ with_clients (1 ∷ 2 ∷ 3 ∷ 4 ∷ 5 ∷ 6 ∷ 7 ∷ 8 ∷ [])
unfolding after
join8 = refl
