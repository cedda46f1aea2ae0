use Rattle.std.proofs.Common.{sym, ◌∙◌}
use Rattle.life_marks.specs.ServerMarks.{seen, as_member}
use Rattle.life_marks.proofs.Lines.{put_as, no_line}
use Rattle.life_marks.proofs.server_marks.ServerMarks.take_member.Goals as goal

pub returns-in-Some : goal.returns-in-Some
returns-in-Some c = put_as (seen c.args.self.now) (seen c.put_line.new.self) c.args.ident as_member c.in-Some.line c.member.result (sym c.line.ensures ∙ c.in-Some.is) c.member.ensures c.put_line.ensures

pub returns-in-None : goal.returns-in-None
returns-in-None c = no_line (seen c.args.self.now) c.args.ident as_member (sym c.line.ensures ∙ c.in-None.is)
