-- A list whose items all have one form.
use Rattle.std.specs.Prelude.{List, [], ◌∷◌, Option, Some}
use Rattle.serde_json.specs.Data.{Data, Items, no_items, item}
use Rattle.sync_value_text.specs.Forms.{◌>>=◌}

module _ {A : Type 0} (form : Data → Option A) where
  -- what each item stands for, in order
  unfoldable pub all_items : Items → Option (List A)
  all_items no_items = Some []
  all_items (item d more) = do
    first ← form d
    others ← all_items more
    Some (first ∷ others)
