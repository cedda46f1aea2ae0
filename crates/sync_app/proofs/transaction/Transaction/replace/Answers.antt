use Rattle.std.specs.Prelude.{nat_lt, Some}
use Rattle.sync_data.specs.Spot.{Spot}
use Rattle.sync_data.specs.declared.instr.Instr.TheVariants as instrs
use Rattle.sync_app.specs.Drafts.{length_of}
use Rattle.sync_app.specs.Placing.{list_break}
use Rattle.sync_app.proofs.Placing.{replace_break, put_spot, refused_at}
use Rattle.sync_app.proofs.transaction.Transaction.replace.Goals as goal

pub returns-in-Err : goal.returns-in-Err
returns-in-Err c =
    let d = c.args.self.now in
    let n = length_of d c.args.cell in
    refused_at c.in-Err.refusal (nat_lt c.args.place n) c.args.place n (list_break d c.args.cell (Some c.args.value)) _ d c.in-Err.ensures (replace_break d c.args.cell c.args.place c.args.value)

pub returns : goal.returns
returns c =
    let d = c.args.self.now in
    let n = length_of d c.args.cell in
    put_spot (λ (spot : Spot). instrs.ListUpdate (record { cell = c.args.cell; spot = spot; value = c.args.value })) c.in-Ok.ensures c.put.result (nat_lt c.args.place n) c.args.place n d c.put.new.self c.put.ensures
