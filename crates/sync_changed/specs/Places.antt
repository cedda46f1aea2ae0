-- The places that instructions may change, and the parts of a state that they cover.
use Rattle.std.specs.Prelude.{ℕ, ◌-◌, Bool, true, false, ◌&&◌, ◌||◌, List, [], ◌∷◌, map}
use Rattle.std.specs.List.{flat_map}
use Rattle.std.specs.Ordering.{eq_by_cmp}
use Rattle.sync_data.specs.Orders.{name_cmp}
use Rattle.sync_data.specs.declared.instr.Instr.{Instr}
use Rattle.sync_base.specs.Effects.{CellPath, Edit, Effect, Insert, Remove, Replace, NewTable, NewColumn, Create, Erase, Change, cell_name, effect_of, path_of}
use Rattle.sync_base.specs.Footprints.{Part, TableAt, ColumnAt, ObjectAt, CellAt}
use Rattle.sync_base.specs.Merged.{path_cmp}
use Rattle.sync_base.specs.States.{object_cmp}
use Rattle.sync_exchange.specs.Profile.{the_profile}
use Rattle.sync_model.specs.Clients.{ok_list}
use Rattle.sync_model.specs.Messages.{Message, Sent, Download}
use Rattle.sync_changed.specs.declared.place.Place.{Place}
use Rattle.sync_changed.specs.declared.place.Place.TheVariants as places

-- a column covers its cells, and an object covers its own
abbrev pub covers : Place → Part → Bool
covers (places.Table t) (TableAt u) = eq_by_cmp name_cmp u t
covers (places.Column t c) (ColumnAt u d) = eq_by_cmp name_cmp u t && eq_by_cmp name_cmp d c
covers (places.Column t c) (CellAt q) = eq_by_cmp name_cmp q.0.0 t && eq_by_cmp name_cmp q.1 c
covers (places.Object t k) (ObjectAt o) = eq_by_cmp object_cmp o (t, k)
covers (places.Object t k) (CellAt q) = eq_by_cmp object_cmp q.0 (t, k)
covers (places.Cell c) (CellAt q) = eq_by_cmp path_cmp q (path_of c)
covers (places.Elements c front back) (CellAt q) = eq_by_cmp path_cmp q (path_of c)
covers place x = false

-- a part is told by one of the places
abbrev pub is_told : List Place → Part → Bool
is_told [] x = false
is_told (place ∷ ps) x = covers place x || is_told ps x

-- ---- the places of instructions
abbrev pub place_of : Effect → Place
place_of (NewTable t k) = places.Table t
place_of (NewColumn t c def) = places.Column t c
place_of (Create o) = places.Object o.0 o.1
place_of (Erase o) = places.Object o.0 o.1
place_of (Change p e) = places.Cell (cell_name p)

-- of an edit of a list the elements, beside which all are as they were
abbrev pub edit_place : CellPath → Edit → Place
edit_place p (Replace s v) = places.Elements (cell_name p) s.place (s.prior - s.place - 1)
edit_place p (Insert s v) = places.Elements (cell_name p) s.place (s.prior - s.place)
edit_place p (Remove s) = places.Elements (cell_name p) s.place (s.prior - s.place - 1)
edit_place p e = places.Cell (cell_name p)

-- of lists the elements, or only the cell
abbrev pub told_place : Bool → Effect → Place
told_place true (Change p e) = edit_place p e
told_place exact d = place_of d

abbrev pub places_in : Bool → List Instr → List Place
places_in exact is = map (λ i. told_place exact (effect_of i)) is

-- of bytes that spell instructions, else none
abbrev pub body_places : Bool → List ℕ → List Place
body_places exact body = places_in exact (ok_list (the_profile.unspell body))

abbrev pub entry_places : Bool → List Sent → List Place
entry_places exact es = flat_map (λ e. body_places exact e.body) es

abbrev pub message_places : Bool → Message → List Place
message_places exact (Download ident from entries) = entry_places exact entries
message_places exact m = []
