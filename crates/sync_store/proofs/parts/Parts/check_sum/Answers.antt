use Rattle.std.proofs.Common.{Bool, false, Option, None, sym, ◌∙◌, ap, [], ◌∷◌}
use Rattle.std.specs.Option.{option_and_then, option_map_or}
use Rattle.std.specs.FinMap as map
use Rattle.sync_data.specs.declared.column.Column.{Column}
use Rattle.sync_base.specs.declared.answers.Break.TheVariants as breaks
use Rattle.sync_base.specs.Effects.{path_of}
use Rattle.sync_base.specs.States.{Cells}
use Rattle.sync_base.specs.Checks.{first_failed, column_check, is_int}
use Rattle.sync_store.specs.Asking.{verdict, column_checks, is_wanted, has_size}
use Rattle.sync_store.specs.declared.wanted.Wanted.TheVariants as wanted
use Rattle.sync_store.proofs.Standing.{has_cell}
use Rattle.sync_store.proofs.parts.Parts.check_sum.Goals as goal

pub has_size-has_size-requires : goal.has_size-has_size-requires
has_size-has_size-requires c = has_cell c.requires (path_of c.args.cell.now).0 c.args.cell.now.column c.in-Ok.ensures.object c.in-Ok.ensures.there

pub returns-in-Err : goal.returns-in-Err
returns-in-Err c = sym (ap verdict (c.in-Err.ensures.cause (column_checks c.args.self.now (path_of c.args.cell.now) (is_wanted wanted.One) (λ (col : Column). is_int col.kind) (has_size None))))

pub returns : goal.returns
returns c =
    let there = sym c.in-Ok.ensures.there in
    let sized : Option Cells → Bool = λ cells. option_map_or (has_size None) (option_and_then (λ held. map.get held c.args.cell.now.column) cells) false in
    c.judge.ensures
    ∙ (λ i. verdict (first_failed (((c.is_wanted-has_shape.ensures ∙ ap (column_check (λ (col : Column). is_wanted wanted.One col.shape)) there) i, breaks.WrongShape) ∷ ((c.is_int-fits.ensures ∙ ap (column_check (λ (col : Column). is_int col.kind)) there) i, breaks.WrongKind) ∷ ((c.has_size-has_size.ensures ∙ ap sized (sym c.in-Ok.ensures.object)) i, breaks.BadPrior) ∷ [])))
    ∙ sym (ap verdict (c.in-Ok.ensures.passed (column_checks c.args.self.now (path_of c.args.cell.now) (is_wanted wanted.One) (λ (col : Column). is_int col.kind) (has_size None))))
