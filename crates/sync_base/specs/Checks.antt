-- When an instruction acts: the first of its checks that fails is its break.
use Rattle.std.specs.Prelude.{◌≡◌, ℕ, suc, Bool, true, false, not, if◌then◌else◌, List, [], ◌∷◌, ◌++◌, length, ◌==◌, is_some, Option, None, Some}
use Rattle.std.specs.Option.{option_map_or, option_map, option_and_then}
use Rattle.std.specs.FinMap as map
use Rattle.sync_data.specs.declared.column.Kind.{Kind}
use Rattle.sync_data.specs.declared.column.Kind.TheVariants as kinds
use Rattle.sync_data.specs.declared.column.Column.{Column}
use Rattle.sync_data.specs.declared.instr.Instr.{Instr}
use Rattle.sync_base.specs.declared.answers.Break.{Break}
use Rattle.sync_base.specs.declared.answers.Break.TheVariants as breaks
use Rattle.sync_base.specs.Effects.{ObjectName, Edit, Effect, Set, Add, Replace, Insert, Remove, Include, Exclude, Bind, Empty, NewTable, NewColumn, Create, Erase, Change, effect_of, is_effect}
use Rattle.sync_base.specs.States.{State, Tables, Cell, Many, column_in, has, cell_at, is_key_of, fits, shape_rank, is_sound_column, has_target}
use Rattle.sync_base.specs.After.{after}

-- ---- what an edit asks of its column
abbrev pub has_shape : Edit → ℕ → Bool
has_shape (Set v) r = r == 0
has_shape (Add n) r = r == 0
has_shape (Replace s v) r = r == 1
has_shape (Insert s v) r = r == 1
has_shape (Remove s) r = r == 1
has_shape (Include v) r = r == 2
has_shape (Exclude v) r = r == 2
has_shape (Bind k v) r = r == 3
has_shape Empty r = not (r == 0)

abbrev pub is_int : Kind → Bool
is_int kinds.Int = true
is_int k = false

abbrev pub edit_fits : Tables → Column → Edit → Bool
edit_fits ts col (Set v) = fits ts col v
edit_fits ts col (Add n) = is_int col.kind
edit_fits ts col (Replace s v) = fits ts col v
edit_fits ts col (Insert s v) = fits ts col v
edit_fits ts col (Remove s) = true
edit_fits ts col (Include v) = fits ts col v
edit_fits ts col (Exclude v) = fits ts col v
edit_fits ts col (Bind k (Some v)) = fits ts col v
edit_fits ts col (Bind k None) = true
edit_fits ts col Empty = true

-- ---- and of its cell
abbrev pub size : Cell → ℕ
size (Many xs) = length xs
size x = 0

abbrev pub is_prior : Edit → Cell → Bool
is_prior (Replace s v) x = s.prior == size x
is_prior (Insert s v) x = s.prior == size x
is_prior (Remove s) x = s.prior == size x
is_prior e x = true

-- ---- the checks, each with its break, in order
abbrev pub object_checks : Tables → ObjectName → List (Bool × Break)
object_checks ts o = (is_some (map.get ts o.0), breaks.NoTable) ∷ (is_key_of ts o.0 o.1, breaks.WrongKeyKind) ∷ []

abbrev pub column_check : (Column → Bool) → Option Column → Bool
column_check p col = option_map_or p col false

abbrev pub checks : State → Effect → List (Bool × Break)
checks s (NewTable t k) = (not (is_some (map.get s.tables t)), breaks.TableExists) ∷ []
checks s (NewColumn t c def) =
    (is_some (map.get s.tables t), breaks.NoTable) ∷ (not (is_some (column_in s.tables t c)), breaks.ColumnExists)
    ∷ (is_sound_column def, breaks.BadColumn) ∷ (has_target s.tables def.kind, breaks.NoTable) ∷ []
checks s (Create o) = object_checks s.tables o
checks s (Erase o) = object_checks s.tables o ++ (has s o, breaks.NoObject) ∷ []
checks s (Change p e) =
    let col = column_in s.tables p.0.0 p.1 in
    object_checks s.tables p.0 ++ (has s p.0, breaks.NoObject) ∷ (is_some col, breaks.NoColumn)
    ∷ (column_check (λ c. has_shape e (shape_rank c.shape)) col, breaks.WrongShape)
    ∷ (column_check (λ c. edit_fits s.tables c e) col, breaks.WrongKind)
    ∷ (option_map_or (is_prior e) (cell_at s p.0 p.1) false, breaks.BadPrior) ∷ []

abbrev pub first_failed : List (Bool × Break) → Option Break
first_failed [] = None
first_failed (c ∷ cs) = if c.0 then first_failed cs else Some c.1

abbrev pub break_of : State → Effect → Option Break
break_of s d = first_failed (checks s d)

abbrev pub Acts : State → Effect → Type 0
Acts s d = break_of s d ≡ None

-- ---- the state after an instruction: none where a place lies outside its list, or a check fails
abbrev pub unbroken : Option Break → State → Option State
unbroken None t = Some t
unbroken (Some b) t = None

abbrev pub act_effect : Effect → State → Option State
act_effect d s = if is_effect d then unbroken (break_of s d) (after s d) else None

abbrev pub act : Instr → State → Option State
act i s = act_effect (effect_of i) s

-- ---- a list of instructions acts one after the other; its break has the place of the first that meets one
abbrev pub act_all : List Instr → State → Option State
act_all [] s = Some s
act_all (i ∷ is) s = option_and_then (act_all is) (act i s)

abbrev pub break_at : List Instr → State → Option (ℕ × Break)
break_at [] s = None
break_at (i ∷ is) s = elim (break_of s (effect_of i)) [ Some b ↦ Some (0, b) | None ↦ option_map (λ p. (suc p.0, p.1)) (break_at is (after s (effect_of i))) ]

-- each place lies within its list, as it does in every instruction that is made
abbrev pub AllPlaced : List Instr → Type 0
AllPlaced [] = Unit {0}
AllPlaced (i ∷ is) = (is_effect (effect_of i) ≡ true) × AllPlaced is
