-- What the content of a cell stands for.
use Rattle.std.specs.FinMap as map
use Rattle.std.specs.FinSet as set
use Rattle.sync_base.specs.States.{Cell, One, Many, Members, Dict}
use Rattle.sync_cells.specs.declared.content.Content.{Content}
use Rattle.sync_cells.specs.declared.content.Content.TheVariants as contents

abbrev pub content_seen : Content → Cell
content_seen (contents.One v) = One v
content_seen (contents.List l) = Many l
content_seen (contents.Set s) = Members (set.from_list s.keys)
content_seen (contents.Dict d) = Dict (map.from_entries d.entries)
