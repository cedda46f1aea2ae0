use Rattle.server_memory.proofs.Reading.{read_says}
use Rattle.server_memory.proofs.kept.Kept.read.Goals as goal

pub returns-in-Ok : goal.returns-in-Ok
returns-in-Ok c = read_says c.args.self.now c.admit-admitted.new.self c.args.bytes.now c.in-Ok.found c.admit-admitted.result c.in-Ok.ensures.exact c.in-Ok.ensures.found c.admit-admitted.ensures
