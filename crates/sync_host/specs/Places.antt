-- Places as lines of JSON: a table, a column, an object, a cell or the elements of a list.
use Rattle.std.specs.Prelude.{ℕ, List, codes, flat_map}
use Rattle.serde_json.specs.Data.{Data, number, unsigned, string, object, member, no_members}
use Rattle.sync_changed.specs.declared.place.Place.{Place}
use Rattle.sync_changed.specs.declared.place.Place.TheVariants as places
use Rattle.sync_dump.specs.Dump.{line}
use Rattle.sync_value_text.specs.Printed.{data_of_key}

abbrev pub data_of_place : Place → Data
data_of_place (places.Table t) = object (member (codes "table") (string t) no_members)
data_of_place (places.Column t c) = object (member (codes "column") (string c) (member (codes "table") (string t) no_members))
data_of_place (places.Object t k) = object (member (codes "key") (data_of_key k) (member (codes "table") (string t) no_members))
data_of_place (places.Cell c) = object (member (codes "column") (string c.column) (member (codes "key") (data_of_key c.key) (member (codes "table") (string c.table) no_members)))
data_of_place (places.Elements c front back) =
    object (member (codes "back") (number (unsigned back)) (member (codes "column") (string c.column) (member (codes "front") (number (unsigned front)) (member (codes "key") (data_of_key c.key) (member (codes "table") (string c.table) no_members)))))

abbrev pub place_lines : List Place → List ℕ
place_lines ps = flat_map (λ p. line (data_of_place p)) ps
