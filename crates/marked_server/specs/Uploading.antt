-- What a Says tells of the changes of an Upload.
use Rattle.std.specs.Prelude.{ℕ, ◌+◌, ◌==◌, if◌then◌else◌, List, [], ◌∷◌, Option, Some, None, slice_get}
use Rattle.std.specs.Option.{unwrap_or}
use Rattle.life_bytes.specs.declared.saves.Saving.{Saving}
use Rattle.life_bytes.specs.Parts.{SavesParts}
use Rattle.life_bytes.specs.Runs.{Lives}
use Rattle.life_marks.specs.ServerMarks.{no_life}

-- what is saved as this number
abbrev pub saves_at : List Saving → ℕ → Option SavesParts
saves_at [] number = None
saves_at (saving ∷ saves) number = if saving.number == number then Some saving.saves else saves_at saves number

-- the life of the change at this place; the first one is that of the number before
abbrev pub life_at : Lives → ℕ → List ℕ
life_at lives place = unwrap_or (slice_get lives (place + 1)) no_life
