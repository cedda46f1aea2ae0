use Rattle.std.proofs.Common.{inl, map}
use Rattle.std.specs.Prelude.{string_bytes}
use Rattle.sync_cli.proofs.NoJob.{or_shrinks}
use Rattle.sync_cli.proofs.replacing.path_to_replace.Goals as goal

pub returns-in-Some : goal.returns-in-Some
returns-in-Some c = record { some = (c.in-Some.path.now, inl c.in-Some.ensures.some) }

pub returns-in-None : goal.returns-in-None
returns-in-None c = record { some = or_shrinks c.path_behind-in-None.result (λ path. path.now) (map string_bytes c.args.words.now) c.path_behind-in-None.ensures.some }
