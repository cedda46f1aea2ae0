use Rattle.std.proofs.Common.{◌≡◌, ◌+◌, suc, Some, sym, ap, ◌∙◌, subst, arith}
use Rattle.sync_exchange.specs.Profile.{the_profile}
use Rattle.sync_model.specs.Fronts.{front_behind, front_floor, front_uuids, of_kind, taking_all, uuid_is}
use Rattle.server_memory.specs.Fronting.{Fronts, seen_from}
use Rattle.server_memory.proofs.Walking.{from_next}
use Rattle.server_memory.proofs.kept.Kept.front_floor.Goals as goal

pub returns-in-None : goal.returns-in-None
returns-in-None c =
    let place = c.args.place in
    let records = c.args.records.now in
    let r = c.index-records-place.result in
    let here = from_next records place r (omega (arith, c.if-place-records.false, c.requires.within)) c.index-records-place.is in
    ap (front_behind the_profile c.args.second c.args.below place) here
    ∙ ap (λ o. front_floor the_profile c.args.second c.args.below place o (seen_from (place + 1) records)) (sym c.as_floor.ensures ∙ c.in-None.is)

pub returns-in-Some : goal.returns-in-Some
returns-in-Some c =
    let place = c.args.place in
    let records = c.args.records.now in
    let floor = c.in-Some.floor in
    let r = c.index-records-place.result in
    let here = from_next records place r (omega (arith, c.if-place-records.false, c.requires.within)) c.index-records-place.is in
    let is : c.as_floor.result ≡ Some floor = c.in-Some.is in
    let next : suc place ≡ place + 1 = omega arith in
    let told : front_floor the_profile c.args.second c.args.below place (Some floor) (seen_from (place + 1) records) ≡ taking_all (of_kind uuid_is) (seen_from (place + 1) records) (front_uuids the_profile c.args.second c.args.below floor (place + 1)) =
    ap (λ n. taking_all (of_kind uuid_is) (seen_from (place + 1) records) (front_uuids the_profile c.args.second c.args.below floor n)) next
    in
    let same = ap (front_behind the_profile c.args.second c.args.below place) here
    ∙ ap (λ o. front_floor the_profile c.args.second c.args.below place o (seen_from (place + 1) records)) (sym c.as_floor.ensures ∙ is)
    ∙ told in
    subst (Fronts c.front_idents.result) (sym same) c.front_idents.ensures
