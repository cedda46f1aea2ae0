-- Instructions that stay as they are when they meet, wherever those of lists stand.
use Rattle.std.specs.Prelude.{◌≡◌, Bool, true, false, List, Option, Ok}
use Rattle.sync_data.specs.declared.instr.Instr.{Instr}
use Rattle.sync_base.specs.Effects.{Effect, Create}
use Rattle.sync_theory.specs.Lists.{cross}
use Rattle.sync_law.specs.Instrs.{meet}
use Rattle.list_places.specs.Moves.{shown}
use Rattle.list_places.specs.declared.moves.ListAction.{ListAction}

abbrev pub StayAnywhere : List Instr → List Instr → Type 0
StayAnywhere is js = (x y : Option ListAction) (later : Bool) → cross (λ a b. meet a b later) (shown x is) (shown y js) ≡ Ok (shown x is, shown y js)

-- it creates an object
abbrev pub creates : Effect → Bool
creates (Create o) = true
creates e = false
