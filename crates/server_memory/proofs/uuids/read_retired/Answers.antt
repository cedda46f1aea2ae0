use Rattle.std.proofs.Common.{◌≡◌, ℕ, ◌+◌, ◌∷◌, [], length, sym, ap, ◌∙◌, subst, arith, length-append}
use Rattle.sync_model.specs.Fronts.{retired_is, retired_step}
use Rattle.server_memory.proofs.Fronted.{retires, retires_not}
use Rattle.server_memory.proofs.Walking.{KeptSoFar, keep_begins, keep_done, keep_next, keep_other, keep_refuses}
use Rattle.server_memory.proofs.uuids.read_retired.Goals as goal

pub loop-place-init : goal.loop-place-init
loop-place-init c = subst (λ l. KeptSoFar retired_is (retired_step c.args.given) c.args.records.now c.args.first c.args.first [] l (length l)) (sym c.new-retired.ensures.items) (keep_begins retired_is (retired_step c.args.given) c.args.records.now c.args.first c.requires [])

pub returns-in-None : goal.returns-in-None
returns-in-None c =
    let qs = c.loop-place.retired.items in
    keep_other retired_is (retired_step c.args.given) c.args.records.now c.args.first c.requires c.loop-place.place [] qs (length qs) c.index-records-place.result c.loop-place.invariant c.loop-place-test.true c.index-records-place.is (sym c.as_retired.ensures ∙ c.in-None.is)

pub returns-then-not-can_retire : goal.returns-then-not-can_retire
returns-then-not-can_retire c =
    let qs = c.loop-place.retired.items in
    keep_refuses retired_is (retired_step c.args.given) c.args.records.now c.args.first c.requires c.loop-place.place [] qs (length qs) c.index-records-place.result (c.in-Some.ident, c.in-Some.by) c.loop-place.invariant c.loop-place-test.true c.index-records-place.is (sym c.as_retired.ensures ∙ c.in-Some.is)
    (retires_not c.args.given c.as_slice.result.now qs c.in-Some.ident c.in-Some.by c.as_slice.ensures.value c.can_retire.result c.can_retire.ensures c.if-not-can_retire.true)

pub loop-place-preserved : goal.loop-place-preserved
loop-place-preserved c =
    let qs = c.loop-place.retired.items in
    let q : ℕ × ℕ = (c.in-Some.ident, c.in-Some.by) in
    let now = c.keep.new.items.items in
    let size : length qs + 1 ≡ length now = omega (arith, ap length c.in-Ok.ensures.ok, length-append qs (q ∷ [])) in
    let more = keep_next retired_is (retired_step c.args.given) c.args.records.now c.args.first c.requires c.loop-place.place [] qs now (length qs) c.index-records-place.result q c.loop-place.invariant c.loop-place-test.true c.index-records-place.is (sym c.as_retired.ensures ∙ c.in-Some.is)
    (retires c.args.given c.as_slice.result.now qs now c.in-Some.ident c.in-Some.by c.as_slice.ensures.value c.can_retire.result c.can_retire.ensures c.if-not-can_retire.false c.in-Ok.ensures.ok) in
    subst (KeptSoFar retired_is (retired_step c.args.given) c.args.records.now c.args.first (c.loop-place.place + 1) [] now) size more

pub returns : goal.returns
returns c =
    let qs = c.loop-place.retired.items in
    keep_done retired_is (retired_step c.args.given) c.args.records.now c.args.first c.requires c.loop-place.place [] qs (length qs) c.loop-place.invariant c.loop-place-test.false
