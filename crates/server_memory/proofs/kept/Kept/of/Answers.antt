use Rattle.std.proofs.Common.{drop, refl}
use Rattle.std.proofs.lemmas.Result.{err_from_is_err_and}
use Rattle.server_memory.proofs.Reading.{all_fails, all_read, front_fails}
use Rattle.server_memory.proofs.kept.Kept.of.Goals as goal

pub returns : goal.returns
returns c =
    let size = c.in_ok-kept.size in
    all_read c.args.files.now size c.in_ok-kept.kept c.admit_all.new.self (drop size c.args.files.now) c.in_ok-kept.ensures refl c.in_ok-admit_all.ensures

pub returns-in_err-admit_all : goal.returns-in_err-admit_all
returns-in_err-admit_all c =
    let size = c.in_ok-kept.size in
    let p = err_from_is_err_and c.from_residual-in_err-admit_all.result c.from_residual-in_err-admit_all.ensures.1 in
    rw (p.1, p.2) (all_fails c.args.files.now size c.in_ok-kept.kept c.admit_all.new.self (drop size c.args.files.now) c.in_err-admit_all.field-0.0 c.in_ok-kept.ensures refl c.in_err-admit_all.ensures)

pub returns-in_err-kept : goal.returns-in_err-kept
returns-in_err-kept c =
    let p = err_from_is_err_and c.from_residual.result c.from_residual.ensures.1 in
    rw (p.1, p.2) (front_fails c.args.files.now c.in_err-kept.field-0.0 c.in_err-kept.ensures)
