-- What an instruction asks of a column, a value and a length.
use Rattle.std.specs.Prelude.{ℕ, Bool, true, not, ◌==◌, Option, None, Some}
use Rattle.sync_data.specs.declared.column.Shape.{Shape}
use Rattle.sync_base.specs.Effects.{Edit, Replace, Insert, Remove}
use Rattle.sync_base.specs.States.{shape_rank}
use Rattle.sync_app.specs.declared.wanted.Wanted.{Wanted}
use Rattle.sync_app.specs.declared.wanted.Wanted.TheVariants as wanted

abbrev pub is_wanted : Wanted → Shape → Bool
is_wanted wanted.One found = shape_rank found == 0
is_wanted wanted.List found = shape_rank found == 1
is_wanted wanted.Set found = shape_rank found == 2
is_wanted wanted.Dict found = shape_rank found == 3
is_wanted wanted.Collection found = not (shape_rank found == 0)

-- a length that is given is the list's
abbrev pub is_length : Option ℕ → ℕ → Bool
is_length None n = true
is_length (Some m) n = m == n

-- the length that an edit gives
abbrev pub prior_of : Edit → Option ℕ
prior_of (Replace s v) = Some s.prior
prior_of (Insert s v) = Some s.prior
prior_of (Remove s) = Some s.prior
prior_of e = None
