use Rattle.std.proofs.Common.{◌≡◌, ◌+◌, ◌∷◌, [], length, sym, ap, ◌∙◌, subst, arith, length-append}
use Rattle.std.specs.Option.{is_some}
use Rattle.sync_model.specs.Fronts.{uuid_is, uuid_step}
use Rattle.server_memory.specs.Fronting.{uuids_of}
use Rattle.server_memory.proofs.Fronted.{uuid_known, uuid_new}
use Rattle.server_memory.proofs.Walking.{KeptSoFar, keep_begins, keep_done, keep_next, keep_other, keep_refuses}
use Rattle.server_memory.proofs.uuids.read_idents.Goals as goal

pub loop-place-init : goal.loop-place-init
loop-place-init c = subst (λ l. KeptSoFar uuid_is uuid_step c.args.records.now c.args.first c.args.first [] (uuids_of l) (length l)) (sym c.new-idents.ensures.items) (keep_begins uuid_is uuid_step c.args.records.now c.args.first c.requires [])

pub returns-in-None : goal.returns-in-None
returns-in-None c =
    let gs = c.loop-place.idents.items in
    keep_other uuid_is uuid_step c.args.records.now c.args.first c.requires c.loop-place.place [] (uuids_of gs) (length gs) c.index-records-place.result c.loop-place.invariant c.loop-place-test.true c.index-records-place.is (sym c.as_client.ensures ∙ c.in-None.is)

pub returns-then-is_some : goal.returns-then-is_some
returns-then-is_some c =
    let gs = c.loop-place.idents.items in
    keep_refuses uuid_is uuid_step c.args.records.now c.args.first c.requires c.loop-place.place [] (uuids_of gs) (length gs) c.index-records-place.result c.in-Some.id c.loop-place.invariant c.loop-place-test.true c.index-records-place.is (sym c.as_client.ensures ∙ c.in-Some.is)
    (uuid_known c.as_slice.result.now gs c.in-Some.id c.as_slice.ensures.value (sym (ap is_some c.ident_in.ensures) ∙ sym c.is_some.ensures ∙ c.if-is_some.true))

pub loop-place-preserved : goal.loop-place-preserved
loop-place-preserved c =
    let gs = c.loop-place.idents.items in
    let now = c.keep.new.items.items in
    let size : length gs + 1 ≡ length now = omega (arith, ap length c.in-Ok.ensures.ok, length-append gs (c.new-in-Some.result ∷ [])) in
    let more = keep_next uuid_is uuid_step c.args.records.now c.args.first c.requires c.loop-place.place [] (uuids_of gs) (uuids_of now) (length gs) c.index-records-place.result c.in-Some.id c.loop-place.invariant c.loop-place-test.true c.index-records-place.is (sym c.as_client.ensures ∙ c.in-Some.is)
    (uuid_new c.as_slice.result.now gs now c.in-Some.id c.new-in-Some.result c.as_slice.ensures.value (sym (ap is_some c.ident_in.ensures) ∙ sym c.is_some.ensures ∙ c.if-is_some.false) (ap (λ g. g.uuid) c.new-in-Some.ensures) c.in-Ok.ensures.ok) in
    subst (KeptSoFar uuid_is uuid_step c.args.records.now c.args.first (c.loop-place.place + 1) [] (uuids_of now)) size more

pub returns : goal.returns
returns c =
    let gs = c.loop-place.idents.items in
    keep_done uuid_is uuid_step c.args.records.now c.args.first c.requires c.loop-place.place [] (uuids_of gs) (length gs) c.loop-place.invariant c.loop-place-test.false
