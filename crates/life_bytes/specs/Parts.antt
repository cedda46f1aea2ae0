-- What notes and messages with lives are made of, and their limits.
use Rattle.std.specs.Prelude.{ℕ, ◌≤◌, List, length}
use Rattle.life_bytes.specs.Runs.{Lives}

-- the most tokens of a frontier, and of all frontiers of a Says together; the most saves of a Says
abbrev pub most_tokens : ℕ
most_tokens = 4096

abbrev pub most_tokens_together : ℕ
most_tokens_together = 65536

abbrev pub most_saves : ℕ
most_saves = 4096

-- the most uuids and lives of a GiveUp, and numbers of a GivenUp
abbrev pub most_uuids : ℕ
most_uuids = 4096

abbrev pub most_lives : ℕ
most_lives = 65536

-- a transaction by the life and the number in the file that made it
pub record TokenParts : Type 0 where
  pub life : List ℕ
  pub number : ℕ

-- the original of a saved transaction, and what must stand before it
pub record SavesParts : Type 0 where
  pub token : TokenParts
  pub frontier : List TokenParts

-- the life from which on entries of an ident are
pub record NumbersParts : Type 0 where
  pub ident : ℕ
  pub life : List ℕ

-- what a client gives up: the clients of these uuids, and the lives whose numbers it asks for
pub record GiveUpParts : Type 0 where
  pub by : ℕ
  pub uuids : List (List ℕ)
  pub lives : Lives

-- the answer: a number for each of the lives
pub record GivenUpParts : Type 0 where
  pub by : ℕ
  pub numbers : List ℕ

pub record IsToken (token : TokenParts) : Type 0 where
  pub numbered : 1 ≤ token.number

pub record IsSaves (saves : SavesParts) : Type 0 where
  pub few : length saves.frontier ≤ most_tokens

pub record IsNumbers (numbers : NumbersParts) : Type 0 where
  pub named : 1 ≤ numbers.ident

pub record IsGiveUp (given : GiveUpParts) : Type 0 where
  pub named : 1 ≤ given.by
  pub few_uuids : length given.uuids ≤ most_uuids
  pub few_lives : length given.lives ≤ most_lives

pub record IsGivenUp (given : GivenUpParts) : Type 0 where
  pub named : 1 ≤ given.by
  pub few : length given.numbers ≤ most_lives
