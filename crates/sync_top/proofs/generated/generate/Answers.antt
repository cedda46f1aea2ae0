use Rattle.std.proofs.Common.{◌≡◌, Result, Ok, Err, IfErr, OnOk}
use Rattle.sync_io.specs.declared.status.Status.{Status}
use Rattle.sync_io.specs.declared.status.Status.TheVariants as statuses
use Rattle.sync_top.specs.Summaries.{summary_of}
use Rattle.sync_top.proofs.Plays.{summary_writes}
use Rattle.sync_top.proofs.generated.generate.Goals as goal

made : {A E : Type 0} (r : Result A E) (status : Status) (Fact : Type 0) → OnOk r Fact → IfErr r (λ e. status ≡ statuses.NoMemory) → (status ≡ statuses.NoMemory → ⊥) → Fact
made (Ok a) status Fact fact unmade fine = fact
made (Err e) status Fact fact unmade fine = absurd (fine unmade)

pub returns-clause-generated : goal.returns-clause-generated
returns-clause-generated g c =
    let text = summary_of c.args.seed c.args.count in
    summary_writes c.write_text.result text (g.K.Sink.taken c.args.sink.now) (g.K.Sink.taken c.write_text.new.sink) c.write_text.ensures.only (c.write_text.ensures.writes text c.generated-made.ensures.summary)

pub returns-clause-generates : goal.returns-clause-generates
returns-clause-generates g c = λ fine. made c.generated-made.result c.write_text.result _ c.generated-made.ensures.world c.write_text.ensures.made fine
