-- The plan of a generated exchange: what its clients do, in order.
use Rattle.std.specs.Prelude.{◌≤◌, ℕ, zero, suc, List, [], ◌∷◌, ◌++◌, map}
use Rattle.gen_law.specs.declared.plan.Move.{Move}
use Rattle.gen_law.specs.declared.plan.Move.TheVariants as moves

-- all clients, by their numbers
abbrev pub clients : List ℕ
clients = 1 ∷ 2 ∷ 3 ∷ 4 ∷ 5 ∷ 6 ∷ 7 ∷ 8 ∷ []

-- the turns from 1 to this number
abbrev pub turns : ℕ → List Move
turns zero = []
turns (suc n) = turns n ++ moves.Turn (suc n) ∷ []

-- each of these clients pushes, and then pulls
abbrev pub round : List ℕ → List Move
round [] = []
round (c ∷ cs) = moves.Push c ∷ moves.Pull c ∷ round cs

-- so many rounds of all clients
unfoldable pub rounds : ℕ → List Move
rounds zero = []
rounds (suc n) = rounds n ++ round clients

-- all clients join; the first makes the table and pushes it, and all pull it; then come the turns, and in the end every
-- client pushes and pulls 64 times
unfoldable pub plan : ℕ → List Move
plan count = map moves.Join clients ++ moves.Found ∷ [] ++ moves.Push 1 ∷ [] ++ map moves.Pull clients ++ turns count ++ rounds 64

-- ---- the clients of a plan are there
abbrev pub IsClient : ℕ → Type 0
IsClient client = (1 ≤ client) × (client ≤ 8)

abbrev pub AreClients : List ℕ → Type 0
AreClients [] = Unit {0}
AreClients (c ∷ cs) = IsClient c × AreClients cs

abbrev pub IsMove : Move → Type 0
IsMove (moves.Join client) = IsClient client
IsMove moves.Found = Unit {0}
IsMove (moves.Push client) = IsClient client
IsMove (moves.Pull client) = IsClient client
IsMove (moves.Turn number) = Unit {0}

abbrev pub AreMoves : List Move → Type 0
AreMoves [] = Unit {0}
AreMoves (m ∷ ms) = IsMove m × AreMoves ms
