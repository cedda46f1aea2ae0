-- The tables that a client names, in a list.
use Rattle.std.specs.Prelude.{◌==◌, ◌&&◌, Bool, not, nat_le, codes, length, List, ℕ, Option, Some, None}
use Rattle.serde_json.specs.Data.{Data}
use Rattle.serde_json.specs.Find.{get, as_array, as_str}
use Rattle.sync_value_text.specs.Forms.{◌>>=◌, provided}
use Rattle.sync_value_text.specs.Fields.{name_of_text}
use Rattle.sync_subset.specs.Tables.{Tables, rises}
use Rattle.sync_edits.specs.Items.{all_items}

-- a name of a table
unfoldable pub table_form : Data → Option (List ℕ)
table_form d = do
  text ← as_str d
  name_of_text text

-- 1 to 64 names in strictly rising order
unfoldable pub is_subset : Tables → Bool
is_subset names = not (length names == 0) && (nat_le (length names) 64 && rises names)

unfoldable pub tables_form : Data → Option Tables
tables_form d = do
  found ← get (codes "tables") d
  items ← as_array found
  names ← all_items table_form items
  provided (is_subset names) names
