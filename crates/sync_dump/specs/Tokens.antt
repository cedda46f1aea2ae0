-- What is written of a line so far: the tokens of its data.
use Rattle.std.specs.Prelude.{◌≡◌, List, [], ◌∷◌, ◌++◌}
use Rattle.json.specs.Token.{Token}
use Rattle.json.specs.Tree.{json_tokens, items_tokens}
use Rattle.json.specs.Written.{Written}
use Rattle.serde_json.specs.Data.{Data}
use Rattle.serde_json.specs.Written.{outline, items_outline}
use Rattle.sync_data.specs.declared.value.Value.{Value}
use Rattle.sync_base.specs.States.{State}
use Rattle.sync_dump.specs.Dump.{data_of, items_of}

abbrev pub tokens_of : Data → List Token
tokens_of d = json_tokens (outline d)

-- the tokens are appended, and what stood before the line stays
abbrev pub Adds : Written → Written → List Token → Type 0
Adds old new ts = (new.tokens ≡ old.tokens ++ ts) × (new.before ≡ old.before)

-- those of values, one behind the other
abbrev pub tokens_of_values : State → List Value → List Token
tokens_of_values s [] = []
tokens_of_values s (v ∷ vs) = tokens_of (data_of s v) ++ tokens_of_values s vs

-- the same with the end of their array
abbrev pub tokens_of_items : State → List Value → List Token
tokens_of_items s vs = items_tokens (items_outline (items_of s vs))
