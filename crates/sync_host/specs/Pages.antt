-- A page of the objects of a table.
use Rattle.std.specs.Prelude.{◌≡◌, ℕ, List, [], ◌∷◌, take, codes, flat_map, Bool, true, false, if◌then◌else◌, Option, None, Some}
use Rattle.std.specs.declared.cmp.Ordering.{Ordering}
use Rattle.std.specs.FinMap as map
use Rattle.serde_json.specs.Data.{Data}
use Rattle.sync_data.specs.Orders.{key_cmp}
use Rattle.sync_data.specs.declared.key.Key.{Key}
use Rattle.sync_base.specs.States.{State}
use Rattle.sync_maps.specs.Next.{is_above}
use Rattle.sync_edits.specs.Lines.{line_data}
use Rattle.sync_value_text.specs.Forms.{◌>>=◌}
use Rattle.sync_value_text.specs.Fields.{exactly_form, has, name_form}
use Rattle.sync_changed.specs.declared.place.Place.TheVariants as places
use Rattle.sync_dump.specs.Dump.{data_of_object, line, objects_in}
use Rattle.sync_dump.specs.Walks.{columns_in}
use Rattle.sync_host.specs.Objects.{object_form}
use Rattle.sync_host.specs.Places.{data_of_place}
use Rattle.sync_host.specs.Replies.{reply_bytes}
use Rattle.sync_host.specs.declared.page.PageStart.{PageStart}
use Rattle.sync_host.specs.declared.reply.Reply.{Reply}
use Rattle.sync_host.specs.declared.reply.Reply.TheVariants as replies

-- ---- where a page begins
-- behind an object of the table
unfoldable pub behind_form : Data → Option PageStart
behind_form d = do
  object ← object_form d
  Some (record { table = object.table; behind = Some object.key })

-- with its first object
unfoldable pub first_form : Data → Option PageStart
first_form d = do
  all ← exactly_form 1 d
  table ← name_form d (codes "table")
  Some (record { table = table; behind = None })

unfoldable pub page_form : Data → Option PageStart
page_form d = if has d (codes "key") then behind_form d else first_form d

unfoldable pub page_form_of_line : List ℕ → Option PageStart
page_form_of_line line = do
  data' ← line_data line
  page_form data'

-- ---- the page
-- of entries in the order of their keys those from the first on that is above a key; all of them where there is none
module _ {K X : Type 0} (R : K → K → Ordering) where
  abbrev pub behind : Option K → List (K × X) → List (K × X)
  behind after [] = []
  behind after (e ∷ es) = if is_above R after e.0 then e ∷ es else behind after es

-- the line of an object, as in the dump, or of its key alone, as of a place
abbrev pub page_line : State → Bool → List ℕ → Key → List ℕ
page_line s false table key = line (data_of_object s (columns_in s.tables table) (table, key))
page_line s true table key = line (data_of_place (places.Object table key))

-- those of the first so many of them
abbrev pub page_lines : State → Bool → List ℕ → Option Key → ℕ → List ℕ
page_lines s keys table after count = flat_map (λ e. page_line s keys table e.0) (take count (behind key_cmp after (objects_in table (map.entries s.objects))))

-- ---- the reply
abbrev pub PageTold : Bool → Option PageStart → ℕ → State → Reply → Type 0
PageTold keys None count s reply = reply ≡ replies.BadRequest
PageTold keys (Some start) count s reply = reply_bytes reply ≡ 0 ∷ page_lines s keys start.table start.behind count

-- how many objects at most, and a line that says where the page begins
abbrev pub PageAsked : Bool → Option (ℕ × List ℕ) → State → Reply → Type 0
PageAsked keys None s reply = reply ≡ replies.BadRequest
PageAsked keys (Some asked) s reply = PageTold keys (page_form_of_line asked.1) asked.0 s reply
