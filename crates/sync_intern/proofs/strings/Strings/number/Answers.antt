use Rattle.std.proofs.Common.{◌≡◌, rules, false}
use Rattle.sync_intern.specs.FirstUses.{has_string}
use Rattle.sync_intern.proofs.Fresh.{placed_last}
use Rattle.sync_intern.proofs.strings.Strings.number.Goals as goal

pub returns-clause-number : goal.returns-clause-number
returns-clause-number c =
    let fresh : has_string c.args.self.now c.args.text.now ≡ false = search rules in
    placed_last c.args.self.now c.add.new.self c.args.text.now c.add.result fresh c.add.ensures.number c.add.ensures.strings
