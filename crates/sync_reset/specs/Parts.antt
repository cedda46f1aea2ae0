-- A part of a state: all of its tables, and some of its objects.
use Rattle.std.specs.Prelude.{◌≡◌, true, List, [], ◌∷◌, Option, None, Some}
use Rattle.std.specs.FinMap as map
use Rattle.sync_data.specs.declared.instr.Instr.{Instr}
use Rattle.sync_base.specs.Effects.{ObjectName, effect_of}
use Rattle.sync_base.specs.Objects.{object_of}
use Rattle.sync_base.specs.States.{State, has}

-- both have that object alike, or both don't have it
abbrev pub IsAlike : State → State → ObjectName → Type 0
IsAlike part whole o = map.get part.objects o ≡ map.get whole.objects o

-- the object, where there is one
abbrev pub IsAlikeFor : State → State → Option ObjectName → Type 0
IsAlikeFor part whole None = Unit {0}
IsAlikeFor part whole (Some o) = IsAlike part whole o

-- each object that an instruction names
abbrev pub AreAlikeFor : State → State → List Instr → Type 0
AreAlikeFor part whole [] = Unit {0}
AreAlikeFor part whole (i ∷ is) = IsAlikeFor part whole (object_of (effect_of i)) × AreAlikeFor part whole is

-- what was alike stays so
abbrev pub StaysAlike : State → State → State → Type 0
StaysAlike old new whole = (o : ObjectName) → IsAlike old whole o → IsAlike new whole o

pub record IsPartOf (part whole : State) : Type 0 where
  pub tables : part.tables ≡ whole.tables
  pub objects : (o : ObjectName) → has part o ≡ true → IsAlike part whole o
