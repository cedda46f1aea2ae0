use Rattle.std.proofs.Common.{true, sym, ◌∙◌, ap, [], ◌∷◌}
use Rattle.sync_data.specs.declared.column.Column.{Column}
use Rattle.sync_base.specs.declared.answers.Break.TheVariants as breaks
use Rattle.sync_base.specs.Checks.{first_failed, column_check, is_int}
use Rattle.sync_store.specs.Asking.{verdict}
use Rattle.sync_app.specs.Wants.{is_wanted}
use Rattle.sync_app.specs.declared.wanted.Wanted.TheVariants as wanted
use Rattle.sync_app.proofs.sketch.Sketch.judge_sum.Goals as goal

pub returns-in-Err : goal.returns-in-Err
returns-in-Err c = sym (ap verdict (c.in-Err.ensures.cause (is_wanted wanted.One) (λ (col : Column). is_int col.kind) true))

pub returns : goal.returns
returns c =
    let there = sym c.in-Ok.ensures.there in
    c.judge.ensures
    ∙ (λ i. verdict (first_failed (((c.is-has_shape.ensures ∙ ap (column_check (λ (col : Column). is_wanted wanted.One col.shape)) there) i, breaks.WrongShape) ∷ ((c.is_int-fits.ensures ∙ ap (column_check (λ (col : Column). is_int col.kind)) there) i, breaks.WrongKind) ∷ (true, breaks.BadPrior) ∷ [])))
    ∙ sym (ap verdict (c.in-Ok.ensures.passed (is_wanted wanted.One) (λ (col : Column). is_int col.kind) true))
