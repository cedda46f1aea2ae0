-- How far back what is unsent reaches.
use Rattle.std.proofs.Common.{◌≡◌, ℕ, ◌+◌, ◌<◌, ◌≤◌, Bool, true, false, ◌&&◌, List, [], ◌∷◌, length, drop, get_or, refl, ap, ◌∙◌, sym, nat_le, arith}
use Rattle.std.proofs.lemmas.Bool.{le-leb, lt-leb}
use Rattle.std.proofs.Math.ListN.{drop_of_length-le}
use Rattle.sync_data.specs.declared.instr.Instr.{Instr}
use Rattle.sync_model.specs.Clients.{Unsent}
use Rattle.sync_model.specs.Files.{all_behind}
use Rattle.sync_client.proofs.Uploads.{drop_at}

-- so it is from a place on
abbrev pub BehindSoFar : ℕ → List (Unsent Instr) → ℕ → Type 0
BehindSoFar version us place = all_behind version us ≡ all_behind version (drop place us)

pub behind_next : (version : ℕ) (us : List (Unsent Instr)) (place : ℕ) (u : Unsent Instr) → BehindSoFar version us place → place < length us → u ≡ get_or us place u → u.original.base ≤ version → BehindSoFar version us (place + 1)
behind_next version us place u s there is low = s ∙ ap (all_behind version) (drop_at us place u there is) ∙ ap (λ b. b && all_behind version (drop (place + 1) us)) (le-leb u.original.base version low)

pub behind_not : (version : ℕ) (us : List (Unsent Instr)) (place : ℕ) (u : Unsent Instr) → BehindSoFar version us place → place < length us → u ≡ get_or us place u → version < u.original.base → all_behind version us ≡ false
behind_not version us place u s there is high = s ∙ ap (all_behind version) (drop_at us place u there is) ∙ ap (λ b. b && all_behind version (drop (place + 1) us)) (lt-leb u.original.base version high)

pub behind_end : (version : ℕ) (us : List (Unsent Instr)) (place : ℕ) → BehindSoFar version us place → length us ≤ place → all_behind version us ≡ true
behind_end version us place s end_ = s ∙ ap (all_behind version) (drop_of_length-le us end_)
