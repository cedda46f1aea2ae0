use Rattle.std.proofs.Common.{sym, ◌∙◌}
use Rattle.life_marks.specs.ServerMarks.{seen, ended}
use Rattle.life_marks.proofs.Lines.{put_as, no_line}
use Rattle.life_marks.proofs.server_marks.ServerMarks.end_line.Goals as goal

pub returns-in-Some : goal.returns-in-Some
returns-in-Some c = put_as (seen c.args.self.now) (seen c.put_line.new.self) c.args.ident ended c.in-Some.line c.ended.result (sym c.line.ensures ∙ c.in-Some.is) c.ended.ensures c.put_line.ensures

pub returns-in-None : goal.returns-in-None
returns-in-None c = no_line (seen c.args.self.now) c.args.ident ended (sym c.line.ensures ∙ c.in-None.is)
