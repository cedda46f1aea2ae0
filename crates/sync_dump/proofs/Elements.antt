-- The tokens of values, one behind the other.
use Rattle.std.proofs.Common.{◌≡◌, ℕ, ◌+◌, ◌<◌, List, [], ◌∷◌, ◌++◌, length, get_or, drop, refl, sym, ap, ◌∙◌, append_assoc}
use Rattle.std.proofs.lemmas.List.{drop_more}
use Rattle.sync_data.specs.declared.value.Value.{Value}
use Rattle.sync_base.specs.States.{State}
use Rattle.sync_dump.specs.Dump.{data_of}
use Rattle.sync_dump.specs.Tokens.{tokens_of, tokens_of_items, tokens_of_values}

-- those of an array begin with those of its first values
pub items_append : (s : State) (vs ws : List Value) → tokens_of_items s (vs ++ ws) ≡ tokens_of_values s vs ++ tokens_of_items s ws
items_append s [] ws = refl
items_append s (v ∷ vs) ws =
    ap (λ ts. tokens_of (data_of s v) ++ ts) (items_append s vs ws) ∙ sym (append_assoc (tokens_of (data_of s v)) (tokens_of_values s vs) (tokens_of_items s ws))

pub next_value : (s : State) (vs : List Value) (i : ℕ) (v : Value) → i < length vs → v ≡ get_or vs i v → tokens_of_values s (drop i vs) ≡ tokens_of (data_of s v) ++ tokens_of_values s (drop (i + 1) vs)
next_value s vs i v low is = ap (tokens_of_values s) (drop_more vs i v low ∙ ap (λ w. w ∷ drop (i + 1) vs) (sym is))
