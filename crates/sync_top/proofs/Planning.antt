-- The plan: its clients are there, and it has few parts.
use Rattle.std.proofs.Common.{◌≡◌, ◌+◌, ◌*◌, ℕ, zero, suc, List, [], ◌∷◌, ◌++◌, length, length-append, map, refl, arith}
use Rattle.gen_law.specs.declared.plan.Move.{Move}
use Rattle.gen_law.specs.declared.plan.Move.TheVariants as moves
use Rattle.gen_law.specs.Plans.{AreClients, AreMoves, clients, plan, round, rounds, turns}

pub all_clients : AreClients clients
all_clients =
    ((omega arith, omega arith), ((omega arith, omega arith), ((omega arith, omega arith), ((omega arith, omega arith), ((omega arith, omega arith), ((omega arith, omega arith), ((omega arith, omega arith), ((omega arith, omega arith), tt))))))))

append_moves : (ms ns : List Move) → AreMoves ms → AreMoves ns → AreMoves (ms ++ ns)
append_moves [] ns first second = second
append_moves (m ∷ ms) ns first second = (first.0, append_moves ms ns first.1 second)

join_moves : (cs : List ℕ) → AreClients cs → AreMoves (map moves.Join cs)
join_moves [] are = tt
join_moves (c ∷ cs) are = (are.0, join_moves cs are.1)

pull_moves : (cs : List ℕ) → AreClients cs → AreMoves (map moves.Pull cs)
pull_moves [] are = tt
pull_moves (c ∷ cs) are = (are.0, pull_moves cs are.1)

turn_moves : (n : ℕ) → AreMoves (turns n)
turn_moves zero = tt
turn_moves (suc n) = append_moves (turns n) (moves.Turn (suc n) ∷ []) (turn_moves n) (tt, tt)

round_moves : (cs : List ℕ) → AreClients cs → AreMoves (round cs)
round_moves [] are = tt
round_moves (c ∷ cs) are = (are.0, (are.0, round_moves cs are.1))

rounds_moves : (n : ℕ) → AreMoves (rounds n)
unfolding rounds
rounds_moves zero = tt
rounds_moves (suc n) = append_moves (rounds n) (round clients) (rounds_moves n) (round_moves clients all_clients)

pub plan_moves : (count : ℕ) → AreMoves (plan count)
unfolding plan
plan_moves count =
    let a : List Move = map moves.Join clients in
    let b : List Move = moves.Found ∷ [] in
    let c : List Move = moves.Push 1 ∷ [] in
    let d : List Move = map moves.Pull clients in
    let joined = append_moves a b (join_moves clients all_clients) (tt, tt) in
    let pushed = append_moves (a ++ b) c joined (all_clients.0, tt) in
    let pulled = append_moves (a ++ b ++ c) d pushed (pull_moves clients all_clients) in
    let turned = append_moves (a ++ b ++ c ++ d) (turns count) pulled (turn_moves count) in
    append_moves (a ++ b ++ c ++ d ++ turns count) (rounds 64) turned (rounds_moves 64)

turns_length : (n : ℕ) → length (turns n) ≡ n
turns_length zero = refl
turns_length (suc n) = let so_far = turns_length n in omega (arith, length-append (turns n) (moves.Turn (suc n) ∷ []))

rounds_length : (n : ℕ) → length (rounds n) ≡ 16 * n
unfolding rounds
rounds_length zero = refl
rounds_length (suc n) = let so_far = rounds_length n in omega (arith, length-append (rounds n) (round clients))

pub plan_length : (count : ℕ) → length (plan count) ≡ 1042 + count
unfolding plan
plan_length count =
    let a : List Move = map moves.Join clients in
    let b : List Move = moves.Found ∷ [] in
    let c : List Move = moves.Push 1 ∷ [] in
    let d : List Move = map moves.Pull clients in
    omega (arith, length-append a b, length-append (a ++ b) c, length-append (a ++ b ++ c) d, length-append (a ++ b ++ c ++ d) (turns count), length-append (a ++ b ++ c ++ d ++ turns count) (rounds 64), turns_length count, rounds_length 64)
