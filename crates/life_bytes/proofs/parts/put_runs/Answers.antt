use Rattle.std.proofs.Common.{Result, Ok, Err, OnOk}
use Rattle.life_bytes.specs.Runs.{AreWholeLives}
use Rattle.life_bytes.proofs.Formats.{put_whole}
use Rattle.life_bytes.proofs.parts.put_runs.Goals as goal

on_ok : {T E : Type 0} (r : Result T E) (A C : Type 0) → OnOk r A → (A → C) → OnOk r C
on_ok (Ok u) A C a f = f a
on_ok (Err m) A C a f = tt

pub returns-clause-are : goal.returns-clause-are
returns-clause-are c = on_ok c.put_listed.result _ (AreWholeLives c.args.runs.now) c.put_listed.ensures.are (λ are. put_whole c.args.runs.now c.runs.result.now c.runs.ensures.lives c.runs.ensures.are are)
