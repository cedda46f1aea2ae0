-- The first changes act where nothing stands, and then the table stands with its columns.
use Rattle.std.proofs.Common.{◌≡◌, ℕ, Bool, true, false, List, [], ◌∷◌, Option, Some, None, Result, Ok, Err, refl, ap, ◌∙◌, cond, is_some, if◌then◌else◌}
use Rattle.std.specs.Option.{option_and_then, option_map_or}
use Rattle.std.specs.Ordering.{eq_by_cmp}
use Rattle.std.specs.Prelude.{codes}
use Rattle.std.specs.FinMap as map
use Rattle.sync_data.specs.Orders.{name_cmp}
use Rattle.sync_data.specs.declared.column.Column.{Column}
use Rattle.sync_data.specs.declared.column.Kind.TheVariants as kinds
use Rattle.sync_data.specs.declared.column.Shape.TheVariants as shapes
use Rattle.sync_data.specs.declared.instr.Instr.{Instr}
use Rattle.sync_data.specs.declared.instr.Instr.TheVariants as instrs
use Rattle.sync_data.specs.declared.key.KeyKind.TheVariants as key_kinds
use Rattle.sync_base.specs.After.{after}
use Rattle.sync_base.specs.Checks.{break_of}
use Rattle.sync_base.specs.Codes.{break_code}
use Rattle.sync_base.specs.declared.answers.Break.{Break}
use Rattle.sync_base.specs.declared.answers.Break.TheVariants as breaks
use Rattle.sync_base.specs.Effects.{NewTable, NewColumn, effect_of, is_effect}
use Rattle.sync_base.specs.Lemmas.Cells.{column-after}
use Rattle.sync_base.specs.Lemmas.Looks.{name_total}
use Rattle.sync_base.specs.Lemmas.Stays.{key_stays}
use Rattle.sync_base.specs.Lemmas.Steps.{FoundColumn, FoundTable, acts, column_stays, table_stays}
use Rattle.sync_base.specs.States.{State, Table, column_in, is_key_of, is_of_kind, no_state}
use Rattle.sync_law.specs.Coded.{apply, state_or_code}
use Rattle.sync_model.specs.Profile.{apply_all, apply_then, one_more}
use Rattle.sync_exchange.specs.Profile.{the_profile}
use Rattle.sync_gen.specs.Clients.{add_column, first_edits_of}
use Rattle.sync_gen.specs.Edits.{key_of, table}
use Rattle.gen_law.proofs.Tables.{Goes, Tabled, column}

-- ---- an instruction that passes its checks

pub goes_ok : (s : State) (i : Instr) → Goes s i → apply i s ≡ Ok (after s (effect_of i))
goes_ok s i g = on (is_effect (effect_of i)) (break_of s (effect_of i)) g.1 g.0
  where
    on : (b : Bool) (o : Option Break) → b ≡ true → o ≡ None → ◌≡◌ {A = Result State ℕ} (if b then state_or_code o (after s (effect_of i)) else Err (break_code breaks.BadPrior)) (Ok (after s (effect_of i)))
    on true None b_is o_is = refl
    on true (Some k) b_is o_is = cc
    on false o b_is o_is = cc

-- ---- one after another

others : (s : State) → is_some (map.get s.tables table) ≡ true → (c d : List ℕ) (def : Column) → eq_by_cmp name_cmp d c ≡ false → column_in s.tables table d ≡ None → column_in (after s (NewColumn table c def)).tables table d ≡ None
others s there c d def apart none = column-after s.tables table c def table d there ∙ ap (λ b. cond b (Some def) (column_in s.tables table d)) apart ∙ none

made : (s : State) → is_some (map.get s.tables table) ≡ true → (c : List ℕ) (def : Column) → eq_by_cmp name_cmp c c ≡ true → column_in (after s (NewColumn table c def)).tables table c ≡ Some def
made s there c def same = column-after s.tables table c def table c there ∙ ap (λ b. cond b (Some def) (column_in s.tables table c)) same

stands : (s : State) → is_some (map.get s.tables table) ≡ true → (c : List ℕ) (def : Column) → is_some (map.get (after s (NewColumn table c def)).tables table) ≡ true
stands s there c def = table_stays s.tables (NewColumn table c def) table there

-- the states after the first instructions
abbrev s1 : State
s1 = after no_state (NewTable table key_kinds.Int)

abbrev s2 : State
s2 = after s1 (NewColumn table (codes "n") (column kinds.Int false shapes.One))

abbrev s3 : State
s3 = after s2 (NewColumn table (codes "m") (column kinds.Int true shapes.One))

abbrev s4 : State
s4 = after s3 (NewColumn table (codes "s") (column kinds.Text true shapes.One))

abbrev s5 : State
s5 = after s4 (NewColumn table (codes "l") (column kinds.Text false shapes.List))

abbrev s6 : State
s6 = after s5 (NewColumn table (codes "u") (column kinds.Int false shapes.Set))

abbrev pub s7 : State
s7 = after s6 (NewColumn table (codes "k") (column (kinds.Link table) true shapes.One))

new_table : map.get s1.tables table ≡ Some (record { key = key_kinds.Int; columns = map.empty })
new_table = map.get-insert name_total map.empty table (record { key = key_kinds.Int; columns = map.empty }) table

there1 : is_some (map.get s1.tables table) ≡ true
there1 = ap is_some new_table

there2 : is_some (map.get s2.tables table) ≡ true
there2 = stands s1 there1 (codes "n") (column kinds.Int false shapes.One)

there3 : is_some (map.get s3.tables table) ≡ true
there3 = stands s2 there2 (codes "m") (column kinds.Int true shapes.One)

there4 : is_some (map.get s4.tables table) ≡ true
there4 = stands s3 there3 (codes "s") (column kinds.Text true shapes.One)

there5 : is_some (map.get s5.tables table) ≡ true
there5 = stands s4 there4 (codes "l") (column kinds.Text false shapes.List)

there6 : is_some (map.get s6.tables table) ≡ true
there6 = stands s5 there5 (codes "u") (column kinds.Int false shapes.Set)

none1 : (d : List ℕ) → column_in s1.tables table d ≡ None
none1 d = ap (option_and_then (λ (t : Table). map.get t.columns d)) new_table ∙ map.get-empty name_cmp d

none2 : (d : List ℕ) → eq_by_cmp name_cmp d (codes "n") ≡ false → column_in s2.tables table d ≡ None
none2 d e1 = others s1 there1 (codes "n") d (column kinds.Int false shapes.One) e1 (none1 d)

none3 : (d : List ℕ) → eq_by_cmp name_cmp d (codes "n") ≡ false → eq_by_cmp name_cmp d (codes "m") ≡ false → column_in s3.tables table d ≡ None
none3 d e1 e2 = others s2 there2 (codes "m") d (column kinds.Int true shapes.One) e2 (none2 d e1)

none4 : (d : List ℕ) → eq_by_cmp name_cmp d (codes "n") ≡ false → eq_by_cmp name_cmp d (codes "m") ≡ false → eq_by_cmp name_cmp d (codes "s") ≡ false → column_in s4.tables table d ≡ None
none4 d e1 e2 e3 = others s3 there3 (codes "s") d (column kinds.Text true shapes.One) e3 (none3 d e1 e2)

none5 : (d : List ℕ) → eq_by_cmp name_cmp d (codes "n") ≡ false → eq_by_cmp name_cmp d (codes "m") ≡ false → eq_by_cmp name_cmp d (codes "s") ≡ false → eq_by_cmp name_cmp d (codes "l") ≡ false → column_in s5.tables table d ≡ None
none5 d e1 e2 e3 e4 = others s4 there4 (codes "l") d (column kinds.Text false shapes.List) e4 (none4 d e1 e2 e3)

none6 : (d : List ℕ) → eq_by_cmp name_cmp d (codes "n") ≡ false → eq_by_cmp name_cmp d (codes "m") ≡ false → eq_by_cmp name_cmp d (codes "s") ≡ false → eq_by_cmp name_cmp d (codes "l") ≡ false → eq_by_cmp name_cmp d (codes "u") ≡ false → column_in s6.tables table d ≡ None
none6 d e1 e2 e3 e4 e5 = others s5 there5 (codes "u") d (column kinds.Int false shapes.Set) e5 (none5 d e1 e2 e3 e4)

-- each of them acts
found1 : FoundTable no_state table
found1 = record { new = ap is_some (map.get-empty name_cmp table) }

found2 : FoundColumn s1 table (codes "n") (column kinds.Int false shapes.One)
found2 = record { there = there1; new = ap is_some (none1 (codes "n")); sound = refl; target = refl }

found3 : FoundColumn s2 table (codes "m") (column kinds.Int true shapes.One)
found3 = record { there = there2; new = ap is_some (none2 (codes "m") refl); sound = refl; target = refl }

found4 : FoundColumn s3 table (codes "s") (column kinds.Text true shapes.One)
found4 = record { there = there3; new = ap is_some (none3 (codes "s") refl refl); sound = refl; target = refl }

found5 : FoundColumn s4 table (codes "l") (column kinds.Text false shapes.List)
found5 = record { there = there4; new = ap is_some (none4 (codes "l") refl refl refl); sound = refl; target = refl }

found6 : FoundColumn s5 table (codes "u") (column kinds.Int false shapes.Set)
found6 = record { there = there5; new = ap is_some (none5 (codes "u") refl refl refl refl); sound = refl; target = refl }

found7 : FoundColumn s6 table (codes "k") (column (kinds.Link table) true shapes.One)
found7 = record { there = there6; new = ap is_some (none6 (codes "k") refl refl refl refl refl); sound = refl; target = there6 }

keyed1 : (n : ℕ) → is_key_of s1.tables table (key_of n) ≡ true
keyed1 n = ap (λ o. option_map_or (λ (t : Table). is_of_kind t.key (key_of n)) o false) new_table

pub tabled_first : Tabled s7
tabled_first = record {
  keyed = λ n. key_stays s6 (NewColumn table (codes "k") (column (kinds.Link table) true shapes.One)) found7 table (key_of n) (key_stays s5 (NewColumn table (codes "u") (column kinds.Int false shapes.Set)) found6 table (key_of n) (key_stays s4 (NewColumn table (codes "l") (column kinds.Text false shapes.List)) found5 table (key_of n) (key_stays s3 (NewColumn table (codes "s") (column kinds.Text true shapes.One)) found4 table (key_of n) (key_stays s2 (NewColumn table (codes "m") (column kinds.Int true shapes.One)) found3 table (key_of n) (key_stays s1 (NewColumn table (codes "n") (column kinds.Int false shapes.One)) found2 table (key_of n) (keyed1 n))))));
  numbers = column_stays s6 (NewColumn table (codes "k") (column (kinds.Link table) true shapes.One)) found7 table (codes "n") (column kinds.Int false shapes.One) (column_stays s5 (NewColumn table (codes "u") (column kinds.Int false shapes.Set)) found6 table (codes "n") (column kinds.Int false shapes.One) (column_stays s4 (NewColumn table (codes "l") (column kinds.Text false shapes.List)) found5 table (codes "n") (column kinds.Int false shapes.One) (column_stays s3 (NewColumn table (codes "s") (column kinds.Text true shapes.One)) found4 table (codes "n") (column kinds.Int false shapes.One) (column_stays s2 (NewColumn table (codes "m") (column kinds.Int true shapes.One)) found3 table (codes "n") (column kinds.Int false shapes.One) (made s1 there1 (codes "n") (column kinds.Int false shapes.One) refl)))));
  texts = column_stays s6 (NewColumn table (codes "k") (column (kinds.Link table) true shapes.One)) found7 table (codes "s") (column kinds.Text true shapes.One) (column_stays s5 (NewColumn table (codes "u") (column kinds.Int false shapes.Set)) found6 table (codes "s") (column kinds.Text true shapes.One) (column_stays s4 (NewColumn table (codes "l") (column kinds.Text false shapes.List)) found5 table (codes "s") (column kinds.Text true shapes.One) (made s3 there3 (codes "s") (column kinds.Text true shapes.One) refl)));
  elements = column_stays s6 (NewColumn table (codes "k") (column (kinds.Link table) true shapes.One)) found7 table (codes "l") (column kinds.Text false shapes.List) (column_stays s5 (NewColumn table (codes "u") (column kinds.Int false shapes.Set)) found6 table (codes "l") (column kinds.Text false shapes.List) (made s4 there4 (codes "l") (column kinds.Text false shapes.List) refl));
  members = column_stays s6 (NewColumn table (codes "k") (column (kinds.Link table) true shapes.One)) found7 table (codes "u") (column kinds.Int false shapes.Set) (made s5 there5 (codes "u") (column kinds.Int false shapes.Set) refl);
  links = made s6 there6 (codes "k") (column (kinds.Link table) true shapes.One) refl;
}

-- ---- together

pub one_acts : (i : Instr) (is : List Instr) (s u : State) (v : State) → apply i s ≡ Ok u → apply_all the_profile is u ≡ Ok v → apply_all the_profile (i ∷ is) s ≡ Ok v
one_acts i is s u v first rest = ap (λ r. apply_then r (apply_all the_profile is)) first ∙ ap one_more rest

pub first_acts : apply_all the_profile first_edits_of no_state ≡ Ok s7
first_acts =
    one_acts (instrs.AddTable (record { table = table; key = key_kinds.Int })) ((add_column (codes "n") kinds.Int false shapes.One) ∷ (add_column (codes "m") kinds.Int true shapes.One) ∷ (add_column (codes "s") kinds.Text true shapes.One) ∷ (add_column (codes "l") kinds.Text false shapes.List) ∷ (add_column (codes "u") kinds.Int false shapes.Set) ∷ (add_column (codes "k") (kinds.Link table) true shapes.One) ∷ []) no_state s1 s7 (goes_ok no_state (instrs.AddTable (record { table = table; key = key_kinds.Int })) (acts no_state (NewTable table key_kinds.Int) found1, refl))
    (one_acts (add_column (codes "n") kinds.Int false shapes.One) ((add_column (codes "m") kinds.Int true shapes.One) ∷ (add_column (codes "s") kinds.Text true shapes.One) ∷ (add_column (codes "l") kinds.Text false shapes.List) ∷ (add_column (codes "u") kinds.Int false shapes.Set) ∷ (add_column (codes "k") (kinds.Link table) true shapes.One) ∷ []) s1 s2 s7 (goes_ok s1 (add_column (codes "n") kinds.Int false shapes.One) (acts s1 (NewColumn table (codes "n") (column kinds.Int false shapes.One)) found2, refl))
    (one_acts (add_column (codes "m") kinds.Int true shapes.One) ((add_column (codes "s") kinds.Text true shapes.One) ∷ (add_column (codes "l") kinds.Text false shapes.List) ∷ (add_column (codes "u") kinds.Int false shapes.Set) ∷ (add_column (codes "k") (kinds.Link table) true shapes.One) ∷ []) s2 s3 s7 (goes_ok s2 (add_column (codes "m") kinds.Int true shapes.One) (acts s2 (NewColumn table (codes "m") (column kinds.Int true shapes.One)) found3, refl))
    (one_acts (add_column (codes "s") kinds.Text true shapes.One) ((add_column (codes "l") kinds.Text false shapes.List) ∷ (add_column (codes "u") kinds.Int false shapes.Set) ∷ (add_column (codes "k") (kinds.Link table) true shapes.One) ∷ []) s3 s4 s7 (goes_ok s3 (add_column (codes "s") kinds.Text true shapes.One) (acts s3 (NewColumn table (codes "s") (column kinds.Text true shapes.One)) found4, refl))
    (one_acts (add_column (codes "l") kinds.Text false shapes.List) ((add_column (codes "u") kinds.Int false shapes.Set) ∷ (add_column (codes "k") (kinds.Link table) true shapes.One) ∷ []) s4 s5 s7 (goes_ok s4 (add_column (codes "l") kinds.Text false shapes.List) (acts s4 (NewColumn table (codes "l") (column kinds.Text false shapes.List)) found5, refl))
    (one_acts (add_column (codes "u") kinds.Int false shapes.Set) ((add_column (codes "k") (kinds.Link table) true shapes.One) ∷ []) s5 s6 s7 (goes_ok s5 (add_column (codes "u") kinds.Int false shapes.Set) (acts s5 (NewColumn table (codes "u") (column kinds.Int false shapes.Set)) found6, refl))
    (one_acts (add_column (codes "k") (kinds.Link table) true shapes.One) [] s6 s7 s7 (goes_ok s6 (add_column (codes "k") (kinds.Link table) true shapes.One) (acts s6 (NewColumn table (codes "k") (column (kinds.Link table) true shapes.One)) found7, refl)) refl))))))
