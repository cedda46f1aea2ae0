-- Names that compare alike are one.
use Rattle.std.specs.Prelude.{◌≡◌, ℕ, List, true}
use Rattle.std.specs.Ordering.{eq_by_cmp}
use Rattle.std.proofs.Common.{sym}
use Rattle.sync_base.specs.Effects.{ObjectName, CellPath}
use Rattle.sync_base.specs.Lemmas.Looks.{path_exact, object_exact, name_exact}
use Rattle.sync_base.specs.Lemmas.Maps.{tied_is}
use Rattle.sync_base.specs.Merged.{path_cmp}
use Rattle.sync_base.specs.States.{object_cmp}
use Rattle.sync_data.specs.Orders.{name_cmp}

pub one_path : (p q : CellPath) → true ≡ eq_by_cmp path_cmp p q → p ≡ q
one_path p q h = tied_is path_exact p q (sym h)

pub one_object : (p q : ObjectName) → true ≡ eq_by_cmp object_cmp p q → p ≡ q
one_object p q h = tied_is object_exact p q (sym h)

pub one_name : (p q : List ℕ) → true ≡ eq_by_cmp name_cmp p q → p ≡ q
one_name p q h = tied_is name_exact p q (sym h)
