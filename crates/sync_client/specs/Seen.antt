-- A client by what it keeps in memory.
use Rattle.std.specs.Prelude.{ℕ, List, [], ◌∷◌, ◌++◌, Option, None}
use Rattle.sync_data.specs.declared.instr.Instr.{Instr}
use Rattle.sync_base.specs.States.{State}
use Rattle.sync_model.specs.Clients.{Client, Original}
use Rattle.sync_client.specs.declared.replica.Replica.{Replica}

-- what its records stand for and it doesn't keep: the changesets that it made, the parts of the state with which its
-- file begins, and what is still to come in the front of a short file that is being read
pub record Past : Type 0 where
  pub made : List (Original Instr)
  pub parts : List (List Instr)
  pub front : Option ℕ

abbrev pub no_past : Past
no_past = record { made = []; parts = []; front = None }

-- a changeset more
abbrev pub and_made : Past → Original Instr → Past
and_made past o = record past { made = past.made ++ o ∷ [] }

-- all that its records stand for, where this is past
abbrev pub seen : Past → Replica → Client Instr State
seen past r = record { id = r.id; ident = r.ident; second = r.second; subset = r.subset; parts = past.parts; floor = r.floor; front = past.front; cursor = r.cursor; made = past.made; unsent = r.unsent; objects = r.objects }
