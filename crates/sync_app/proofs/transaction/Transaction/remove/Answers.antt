use Rattle.std.specs.Prelude.{nat_lt, None}
use Rattle.sync_data.specs.Spot.{Spot}
use Rattle.sync_data.specs.declared.instr.Instr.TheVariants as instrs
use Rattle.sync_app.specs.Drafts.{length_of}
use Rattle.sync_app.specs.Placing.{list_break}
use Rattle.sync_app.proofs.Placing.{remove_break, put_spot, refused_at}
use Rattle.sync_app.proofs.transaction.Transaction.remove.Goals as goal

pub returns-in-Err : goal.returns-in-Err
returns-in-Err c =
    let d = c.args.self.now in
    let n = length_of d c.args.cell in
    refused_at c.in-Err.refusal (nat_lt c.args.place n) c.args.place n (list_break d c.args.cell None) _ d c.in-Err.ensures (remove_break d c.args.cell c.args.place)

pub returns : goal.returns
returns c =
    let d = c.args.self.now in
    let n = length_of d c.args.cell in
    put_spot (λ (spot : Spot). instrs.ListErase (record { cell = c.args.cell; spot = spot })) c.in-Ok.ensures c.put.result (nat_lt c.args.place n) c.args.place n d c.put.new.self c.put.ensures
