use Rattle.std.proofs.Common.{sym, ◌∙◌, arith}
use Rattle.sync_model.specs.Fronts.{uuid_is}
use Rattle.server_memory.proofs.Walking.{pass_begins, pass_done, pass_next, pass_other}
use Rattle.server_memory.proofs.uuids.skip_clients.Goals as goal

pub loop-place-init : goal.loop-place-init
loop-place-init c = pass_begins uuid_is c.args.records.now c.args.first c.requires

pub returns-in-None-clause-value : goal.returns-in-None-clause-value
returns-in-None-clause-value c = pass_other uuid_is c.args.records.now c.args.first c.requires c.loop-place.place c.loop-place.auto.place c.loop-place.invariant c.loop-place-test.true c.index-records-place.result c.index-records-place.is (sym c.as_client.ensures ∙ c.in-None.is)

pub loop-place-preserved : goal.loop-place-preserved
loop-place-preserved c = pass_next uuid_is c.args.records.now c.args.first c.requires c.loop-place.place c.loop-place.auto.place c.loop-place.invariant c.loop-place-test.true c.index-records-place.result c.index-records-place.is c.in-Some.field-0 (sym c.as_client.ensures ∙ c.in-Some.is)

pub returns-clause-value : goal.returns-clause-value
returns-clause-value c =
    let done = pass_done uuid_is c.args.records.now c.args.first c.requires c.loop-place.place c.loop-place.auto.place c.loop-place.invariant c.loop-place-test.false in
    omega (arith, done, c.loop-place.auto.place-end, c.loop-place-test.false)
