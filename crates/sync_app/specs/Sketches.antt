-- What instructions change of objects, as far as it decides whether a further one acts: the tables, which objects stand, and
-- how long lists are.
use Rattle.std.specs.Prelude.{◌≡◌, ◌≤◌, ◌==◌, ◌+◌, ◌-◌, ℕ, Bool, true, false, cond, if◌then◌else◌, Option, None, Some}
use Rattle.std.specs.Option.{option_map_or, unwrap_or}
use Rattle.std.specs.BTreeMap as tree
use Rattle.sync_base.specs.After.{tables_after}
use Rattle.sync_base.specs.Effects.{ObjectName, CellPath, Edit, Effect, Insert, Remove, Empty, NewTable, NewColumn, Create, Erase, Change}
use Rattle.sync_base.specs.Merged.{path_cmp}
use Rattle.sync_base.specs.States.{State, Tables, IsState, object_cmp, has}
use Rattle.sync_app.specs.Sizes.{size_at}
use Rattle.sync_app.specs.declared.sketch.Sketch.{Sketch}
use Rattle.sync_app.specs.declared.sketch.Standing.{Standing}
use Rattle.sync_app.specs.declared.sketch.Length.{Length}
use Rattle.sync_app.specs.Notes.{Note}
use Rattle.sync_app.specs.Notes as notes

-- ---- what a sketch shows

-- the objects before all
abbrev pub base_of : Sketch → State
base_of k = k.objects.now

abbrev pub tables_in : Sketch → Tables
tables_in k = unwrap_or k.schema (base_of k).tables

abbrev pub standing_in : Sketch → ObjectName → Option Standing
standing_in k o = tree.get object_cmp k.standings o

abbrev pub stands_by : Bool → Option Standing → Bool
stands_by b x = option_map_or (λ (y : Standing). y.stands) x b

abbrev pub stands_in : Sketch → ObjectName → Bool
stands_in k o = stands_by (has (base_of k) o) (standing_in k o)

-- since which instruction an object has its cells, 0 where from before all
abbrev pub life_by : Option Standing → ℕ
life_by x = option_map_or (λ (y : Standing). y.life) x 0

abbrev pub life_in : Sketch → ObjectName → ℕ
life_in k o = life_by (standing_in k o)

-- the length of a list in the beginning of that life
abbrev pub first_size : State → CellPath → ℕ → ℕ
first_size s p life = if life == 0 then size_at s p else 0

abbrev pub length_in : Sketch → CellPath → Option Length
length_in k p = tree.get path_cmp k.lengths p

-- a length that was noted counts in its life
abbrev pub size_by : State → CellPath → ℕ → Option Length → ℕ
size_by s p life None = first_size s p life
size_by s p life (Some e) = if e.life == life then e.len else first_size s p life

abbrev pub size_in : Sketch → CellPath → ℕ
size_in k p = size_by (base_of k) p (life_in k p.0) (length_in k p)

-- it shows a state that so many instructions have made
pub record IsSketchOf (k : Sketch) (s : State) (n : ℕ) : Type 0 where
  pub state : IsState s
  pub tables : tables_in k ≡ s.tables
  pub standing : (o : ObjectName) → stands_in k o ≡ has s o
  pub sizes : (p : CellPath) → size_in k p ≡ size_at s p
  -- no life is younger than the last instruction
  pub lives : (o : ObjectName) → life_in k o ≤ n
  pub noted : (p : CellPath) (e : Length) → length_in k p ≡ Some e → e.life ≤ n

-- ---- what it notes of an instruction

-- of a length, in the life that the object has
abbrev pub size_note : Sketch → CellPath → ℕ → Note
size_note k p n = notes.List p (record { life = life_in k p.0; len = n })

abbrev pub note_of_edit : Sketch → CellPath → Edit → Note
note_of_edit k p (Insert s v) = size_note k p (s.prior + 1)
note_of_edit k p (Remove s) = size_note k p (s.prior - 1)
note_of_edit k p Empty = size_note k p 0
note_of_edit k p e = notes.Nothing

-- of an object that is created: where it stands, it stays as it is
abbrev pub birth : Sketch → ObjectName → ℕ → Note
birth k o life = if stands_in k o then notes.Nothing else notes.Object o (record { stands = true; life = life })

-- of the one that comes after so many others
abbrev pub note_of : Sketch → ℕ → Effect → Note
note_of k n (NewTable t key) = notes.Table (record { table = t; key = key })
note_of k n (NewColumn t c def) = notes.Column (record { table = t; column = c; def = def })
note_of k n (Create o) = birth k o (n + 1)
note_of k n (Erase o) = notes.Object o (record { stands = false; life = n + 1 })
note_of k n (Change p e) = note_of_edit k p e

-- a note is taken
abbrev pub Takes : Note → Sketch → Sketch → Type 0
Takes notes.Nothing old new = new ≡ old
Takes (notes.Table add) old new = new ≡ record old { schema = Some (tables_after (NewTable add.table add.key) (tables_in old)) }
Takes (notes.Column add) old new = new ≡ record old { schema = Some (tables_after (NewColumn add.table add.column add.def) (tables_in old)) }
Takes (notes.Object o x) old new = ((q : ObjectName) → standing_in new q ≡ cond (tree.is_at (object_cmp o) q) (Some x) (standing_in old q)) × (new ≡ record old { standings = new.standings })
Takes (notes.List p e) old new = ((q : CellPath) → length_in new q ≡ cond (tree.is_at (path_cmp p) q) (Some e) (length_in old q)) × (new ≡ record old { lengths = new.lengths })

-- two sketches show the same
pub record ShowsSame (old new : Sketch) : Type 0 where
  pub base : base_of new ≡ base_of old
  pub tables : tables_in new ≡ tables_in old
  pub standing : (o : ObjectName) → standing_in new o ≡ standing_in old o
  pub lengths : (p : CellPath) → length_in new p ≡ length_in old p
