-- What is adapted can be spelled where it could be before, and carries as much.
use Rattle.std.specs.Prelude.{◌≡◌, ℕ, ◌≤◌, Bool, true, false, not, if◌then◌else◌, nat_le, ◌++◌, length, Option, None, Some, refl}
use Rattle.std.proofs.Common.{ap, arith, le_refl}
use Rattle.std.proofs.lemmas.Bool.{leb-true, le-ltb}
use Rattle.sync_data.specs.Payload.{payload}
use Rattle.sync_data.specs.Spot.{Spot}
use Rattle.sync_data.specs.declared.value.Value.{Value}
use Rattle.sync_data.specs.declared.instr.CellName.{CellName}
use Rattle.sync_data.specs.declared.instr.Instr.{Instr}
use Rattle.sync_data.specs.declared.instr.Instr.TheVariants as instrs
use Rattle.sync_base.specs.Effects.{path_of}
use Rattle.sync_base.specs.States.{State, Cell, One, Many, Members, Dict, cell_at}
use Rattle.sync_codec.specs.Spelling.{cell_fields, instr_fields, spot_fields, value_fields, needs_second}
use Rattle.sync_codec.specs.Valid.{IsGap}
use Rattle.sync_subset.specs.Tables.{Tables, admits}
use Rattle.sync_exchange.specs.Adapting.{least, spot_in, spot_at, adapt}
use Rattle.sync_exchange.specs.Profile.{weight}
use Rattle.sync_exchange.specs.Lemmas.Whole.{IsWhole}
use Rattle.sync_exchange.specs.Lemmas.Weights.{light_whole, carried}
use Rattle.sync_exchange.specs.Lemmas.Left.{same_strings}

-- ---- the spot

least_within : (m n : ℕ) → least m n ≤ n
least_within m n = go (nat_le m n) refl
  where
    go : (b : Bool) → nat_le m n ≡ b → (if b then m else n) ≤ n
    go true is = leb-true m n is
    go false is = le_refl n

gap_in : (s : Spot) (n : ℕ) → IsGap s → IsGap (spot_in s n)
gap_in s n g = go (nat_le n 4294967295) refl
  where
    go : (b : Bool) → nat_le n 4294967295 ≡ b → IsGap (if b then record { place = least s.place n; prior = n } else s)
    go true is =
        let small = leb-true n 4294967295 is in
        let within = least_within s.place n in
        (omega (arith, small, within), omega (arith, small), ap not (le-ltb n (least s.place n) within))
    go false is = g

gap_at : (s : Spot) (x : Option Cell) → IsGap s → IsGap (spot_at s x)
gap_at s (Some (Many xs)) g = gap_in s (length xs) g
gap_at s (Some (One v)) g = g
gap_at s (Some (Members vs)) g = g
gap_at s (Some (Dict m)) g = g
gap_at s None g = g

-- ---- an insertion elsewhere

placed : (c : CellName) (s t : Spot) (v : Value) → IsGap t → IsWhole (instrs.ListInsert (record { cell = c; spot = s; value = v })) → IsWhole (instrs.ListInsert (record { cell = c; spot = t; value = v }))
unfolding instr_fields
placed c s t v g h = record { fields = (h.fields.0, g, h.fields.2); strings = same_strings (cell_fields c) (spot_fields s ++ value_fields v) (spot_fields t ++ value_fields v) refl h.strings }

whole : (s : State) (i : Instr) → IsWhole i → IsWhole (adapt s i)
whole s (instrs.AddTable i) h = h
whole s (instrs.AddColumn i) h = h
whole s (instrs.CreateObject i) h = h
whole s (instrs.EraseObject i) h = h
whole s (instrs.Update i) h = h
whole s (instrs.AddInteger i) h = h
whole s (instrs.ListUpdate i) h = h
whole s (instrs.ListInsert i) h = placed i.cell i.spot (spot_at i.spot (cell_at s (path_of i.cell).0 i.cell.column)) i.value (gap_at i.spot (cell_at s (path_of i.cell).0 i.cell.column) h.fields.1) h
whole s (instrs.ListErase i) h = h
whole s (instrs.SetInsert i) h = h
whole s (instrs.SetErase i) h = h
whole s (instrs.DictUpdate i) h = h
whole s (instrs.Clear i) h = h

same_payload : (s : State) (i : Instr) → payload (adapt s i) ≡ payload i
same_payload s (instrs.AddTable i) = refl
same_payload s (instrs.AddColumn i) = refl
same_payload s (instrs.CreateObject i) = refl
same_payload s (instrs.EraseObject i) = refl
same_payload s (instrs.Update i) = refl
same_payload s (instrs.AddInteger i) = refl
same_payload s (instrs.ListUpdate i) = refl
same_payload s (instrs.ListInsert i) = refl
same_payload s (instrs.ListErase i) = refl
same_payload s (instrs.SetInsert i) = refl
same_payload s (instrs.SetErase i) = refl
same_payload s (instrs.DictUpdate i) = refl
same_payload s (instrs.Clear i) = refl

pub same_form : (s : State) (i : Instr) → needs_second (adapt s i) ≡ needs_second i
same_form s (instrs.AddTable i) = refl
same_form s (instrs.AddColumn i) = refl
same_form s (instrs.CreateObject i) = refl
same_form s (instrs.EraseObject i) = refl
same_form s (instrs.Update i) = refl
same_form s (instrs.AddInteger i) = refl
same_form s (instrs.ListUpdate i) = refl
same_form s (instrs.ListInsert i) = refl
same_form s (instrs.ListErase i) = refl
same_form s (instrs.SetInsert i) = refl
same_form s (instrs.SetErase i) = refl
same_form s (instrs.DictUpdate i) = refl
same_form s (instrs.Clear i) = refl

pub same_tables : (tables : Tables) (s : State) (i : Instr) → admits tables (adapt s i) ≡ admits tables i
same_tables tables s (instrs.AddTable i) = refl
same_tables tables s (instrs.AddColumn i) = refl
same_tables tables s (instrs.CreateObject i) = refl
same_tables tables s (instrs.EraseObject i) = refl
same_tables tables s (instrs.Update i) = refl
same_tables tables s (instrs.AddInteger i) = refl
same_tables tables s (instrs.ListUpdate i) = refl
same_tables tables s (instrs.ListInsert i) = refl
same_tables tables s (instrs.ListErase i) = refl
same_tables tables s (instrs.SetInsert i) = refl
same_tables tables s (instrs.SetErase i) = refl
same_tables tables s (instrs.DictUpdate i) = refl
same_tables tables s (instrs.Clear i) = refl

-- ---- the weight

pub lighter : (s : State) (i : Instr) → weight i ≤ 4194304 → weight (adapt s i) ≤ weight i
lighter s i h =
    let w = light_whole i h in
    let a = carried i w in
    let b = carried (adapt s i) (whole s i w) in
    let c = same_payload s i in
    omega (arith, a, b, c)
