-- A list that is read item by item.
use Rattle.std.proofs.Common.{◌≡◌, ℕ, ◌+◌, ◌<◌, ◌≤◌, List, [], ◌∷◌, ◌++◌, length, get_or, drop, Option, Some, None, refl, sym, ap, ◌∙◌, suc, append_assoc, add-one, drop-cons}
use Rattle.std.proofs.lemmas.List.{append-nil, drop_all}
use Rattle.serde_json.specs.Data.{Data, Items, item}
use Rattle.serde_json.specs.View.{view, items_view}
use Rattle.serde_json.specs.declared.value.Value.{Value}
use Rattle.sync_value_text.specs.declared.refusal.TextRefusal.{TextRefusal}
use Rattle.sync_value_text.specs.declared.refusal.TextRefusal.TheVariants as refusals
use Rattle.sync_value_text.specs.Forms.{◌>>=◌, Refuses}
use Rattle.sync_edits.specs.Items.{all_items}

-- these in front of those, where there are any
abbrev pub with_front : {A : Type 0} → List A → Option (List A) → Option (List A)
with_front front rest = rest >>= (λ more. Some (front ++ more))

moved : {A : Type 0} (front : List A) (edit : A) (rest : Option (List A)) → with_front front (rest >>= (λ others. Some (edit ∷ others))) ≡ with_front (front ++ edit ∷ []) rest
moved front edit (Some others) = ap Some (sym (append_assoc front (edit ∷ []) others))
moved front edit None = refl

next_item : (vs : List Value) (i : ℕ) (v : Value) → i < length vs → v ≡ get_or vs i v → items_view (drop i vs) ≡ item (view v) (items_view (drop (i + 1) vs))
next_item vs i v within is =
    let e : drop i vs ≡ v ∷ drop (i + 1) vs = rw add-one (drop-cons vs i v within ∙ ap (λ (x : Value). x ∷ drop (suc i) vs) (sym is)) in
    ap items_view e

module _ {A : Type 0} (form : Data → Option A) where
  one_more : (front : List A) (d : Data) (more : Items) (edit : A) (all : Option (List A)) → form d ≡ Some edit
      → with_front front (all_items form (item d more)) ≡ all → with_front (front ++ edit ∷ []) (all_items form more) ≡ all
  unfolding all_items
  one_more front d more edit all is so_far = sym (moved front edit (all_items form more)) ∙ (rw is at so_far)

  -- another item was read
  pub goes_on : (front : List A) (vs : List Value) (i : ℕ) (v : Value) (edit : A) (all : Option (List A)) → i < length vs → v ≡ get_or vs i v → form (view v) ≡ Some edit
      → with_front front (all_items form (items_view (drop i vs))) ≡ all → with_front (front ++ edit ∷ []) (all_items form (items_view (drop (i + 1) vs))) ≡ all
  goes_on front vs i v edit all within at is so_far =
      one_more front (view v) _ edit all is (sym (ap (λ (items : Items). with_front front (all_items form items)) (next_item vs i v within at)) ∙ so_far)

  stops : (e : TextRefusal) (front : List A) (d : Data) (more : Items) (all : Option (List A)) → Refuses e (form d)
      → with_front front (all_items form (item d more)) ≡ all → Refuses e all
  unfolding all_items
  stops refusals.BadValue front d more all refused so_far = sym (rw refused at so_far)
  stops refusals.NoMemory front d more all refused so_far = tt

  -- an item was refused
  pub ends : (e : TextRefusal) (front : List A) (vs : List Value) (i : ℕ) (v : Value) (all : Option (List A)) → i < length vs → v ≡ get_or vs i v → Refuses e (form (view v))
      → with_front front (all_items form (items_view (drop i vs))) ≡ all → Refuses e all
  ends e front vs i v all within at refused so_far =
      stops e front (view v) _ all refused (sym (ap (λ (items : Items). with_front front (all_items form items)) (next_item vs i v within at)) ∙ so_far)

  -- all items were read
  pub is_done : (front : List A) (vs : List Value) (i : ℕ) (all : Option (List A)) → length vs ≤ i → with_front front (all_items form (items_view (drop i vs))) ≡ all → all ≡ Some front
  unfolding all_items
  is_done front vs i all past so_far =
      let none : drop i vs ≡ [] = drop_all i vs past in
      sym (rw none at so_far) ∙ ap Some (append-nil front)
