use Rattle.std.proofs.Common.{◌≡◌, ◌+◌, ℕ, List, length, Some, inl, inr, sym, ◌∙◌, ap, subst, arith}
use Rattle.sync_disk.specs.Disk.{Only, put, is_untold}
use Rattle.gathered_disk.specs.Gathered.{gathered}
use Rattle.gathered_disk.proofs.Bringing.{joins_one, at_start, as_behind, as_before, as_gate, then, told_or_not}
use Rattle.gathered_disk.proofs.Writing.{length_put}
use Rattle.gathered_disk.proofs.landing.land_bytes.Goals as goal

pub returns-in_err-sync-clause-few : goal.returns-in_err-sync-clause-few
returns-in_err-sync-clause-few g c b told =
    let n1 = joins_one _ _ _ _ _ (c.write_at.ensures.asked b told) in
    let e1 = (c.write_at.ensures.written b told).told in
    let n2 = joins_one _ _ _ _ _ (c.sync.ensures.asked e1.0 e1.1) in
    omega (arith, n1, n2)

pub write_at-requires-then-opened-clause-within : goal.write_at-requires-then-opened-clause-within
write_at-requires-then-opened-clause-within g c f told = elim (told_or_not (g.D.Disk.content c.args.disk.now)) [
  | inl none ↦ absurd (is_untold f (sym (c.sync.ensures.untold (c.write_at.ensures.untold none)) ∙ told))
  | inr was ↦
      let told1 = (c.in_ok-write_at.ensures.written was.0 was.1).done in
      let same : Some f ≡ Some (put was.0 (c.args.gate + 1) c.args.behind.now) = sym told ∙ (c.in_ok-sync.ensures.content _ told1).done in
      let is : f ≡ put was.0 (c.args.gate + 1) c.args.behind.now = cc in
      omega (arith, ap length is, c.requires.within was.0 was.1, length_put was.0 (c.args.gate + 1) c.args.behind.now (omega (arith, c.requires.within was.0 was.1)))
]

pub returns-in_err-write_at-2-clause-any_moment : goal.returns-in_err-write_at-2-clause-any_moment
returns-in_err-write_at-2-clause-any_moment g c b told only =
    let D = g.D.Disk in
    let here0 = at_start D.images D.moment D.images_since g.met.D.Disk.only_now b c.args.gate c.args.behind.now c.args.opened (c.requires.within b told) c.args.disk.now only in
    let as1 = as_behind D.images D.moment D.images_since g.met.D.Disk.only_now b c.args.gate c.args.behind.now c.args.opened (c.requires.within b told) c.args.disk.now only c.write_at.new.self c.write_at.ensures.crash in
    let here1 = then D.images D.moment D.images_since g.met.D.Disk.only_now b c.args.gate c.args.behind.now c.args.opened (c.requires.within b told) c.args.disk.now only c.args.disk.now c.write_at.new.self here0 as1 c.write_at.ensures.time in
    let as2 = as_before D.images D.moment D.images_since g.met.D.Disk.only_now b c.args.gate c.args.behind.now c.args.opened (c.requires.within b told) c.args.disk.now only c.write_at.new.self c.sync.new.self as1 c.sync.ensures.crash in
    let here2 = then D.images D.moment D.images_since g.met.D.Disk.only_now b c.args.gate c.args.behind.now c.args.opened (c.requires.within b told) c.args.disk.now only c.write_at.new.self c.sync.new.self here1 as2 c.sync.ensures.time in
    let told1 = (c.in_ok-write_at.ensures.written b told).done in
    let staged = c.in_ok-sync.ensures.durable _ told1 in
    let as3 = as_gate D.images D.moment D.images_since g.met.D.Disk.only_now b c.args.gate c.args.behind.now c.args.opened (c.requires.within b told) c.args.disk.now only c.sync.new.self c.write_at-then-opened.new.self c.if-opened.true staged c.write_at-then-opened.ensures.crash in
    let here3 = then D.images D.moment D.images_since g.met.D.Disk.only_now b c.args.gate c.args.behind.now c.args.opened (c.requires.within b told) c.args.disk.now only c.sync.new.self c.write_at-then-opened.new.self here2 as3 c.write_at-then-opened.ensures.time in
    here3

pub returns-in_err-write_at-2-clause-few : goal.returns-in_err-write_at-2-clause-few
returns-in_err-write_at-2-clause-few g c b told =
    let n1 = joins_one _ _ _ _ _ (c.write_at.ensures.asked b told) in
    let e1 = (c.write_at.ensures.written b told).told in
    let n2 = joins_one _ _ _ _ _ (c.sync.ensures.asked e1.0 e1.1) in
    let e2 = (c.sync.ensures.content e1.0 e1.1).told in
    let n3 = joins_one _ _ _ _ _ (c.write_at-then-opened.ensures.asked e2.0 e2.1) in
    omega (arith, n1, n2, n3)

pub returns-in_err-sync-2-clause-any_moment : goal.returns-in_err-sync-2-clause-any_moment
returns-in_err-sync-2-clause-any_moment g c b told only =
    let D = g.D.Disk in
    let here0 = at_start D.images D.moment D.images_since g.met.D.Disk.only_now b c.args.gate c.args.behind.now c.args.opened (c.requires.within b told) c.args.disk.now only in
    let as1 = as_behind D.images D.moment D.images_since g.met.D.Disk.only_now b c.args.gate c.args.behind.now c.args.opened (c.requires.within b told) c.args.disk.now only c.write_at.new.self c.write_at.ensures.crash in
    let here1 = then D.images D.moment D.images_since g.met.D.Disk.only_now b c.args.gate c.args.behind.now c.args.opened (c.requires.within b told) c.args.disk.now only c.args.disk.now c.write_at.new.self here0 as1 c.write_at.ensures.time in
    let as2 = as_before D.images D.moment D.images_since g.met.D.Disk.only_now b c.args.gate c.args.behind.now c.args.opened (c.requires.within b told) c.args.disk.now only c.write_at.new.self c.sync.new.self as1 c.sync.ensures.crash in
    let here2 = then D.images D.moment D.images_since g.met.D.Disk.only_now b c.args.gate c.args.behind.now c.args.opened (c.requires.within b told) c.args.disk.now only c.write_at.new.self c.sync.new.self here1 as2 c.sync.ensures.time in
    let told1 = (c.in_ok-write_at.ensures.written b told).done in
    let staged = c.in_ok-sync.ensures.durable _ told1 in
    let as3 = as_gate D.images D.moment D.images_since g.met.D.Disk.only_now b c.args.gate c.args.behind.now c.args.opened (c.requires.within b told) c.args.disk.now only c.sync.new.self c.write_at-then-opened.new.self c.if-opened.true staged c.write_at-then-opened.ensures.crash in
    let here3 = then D.images D.moment D.images_since g.met.D.Disk.only_now b c.args.gate c.args.behind.now c.args.opened (c.requires.within b told) c.args.disk.now only c.sync.new.self c.write_at-then-opened.new.self here2 as3 c.write_at-then-opened.ensures.time in
    let as4 = as_before D.images D.moment D.images_since g.met.D.Disk.only_now b c.args.gate c.args.behind.now c.args.opened (c.requires.within b told) c.args.disk.now only c.write_at-then-opened.new.self c.sync-then-opened.new.self as3 c.sync-then-opened.ensures.crash in
    then D.images D.moment D.images_since g.met.D.Disk.only_now b c.args.gate c.args.behind.now c.args.opened (c.requires.within b told) c.args.disk.now only c.write_at-then-opened.new.self c.sync-then-opened.new.self here3 as4 c.sync-then-opened.ensures.time

pub returns-in_err-sync-2-clause-few : goal.returns-in_err-sync-2-clause-few
returns-in_err-sync-2-clause-few g c b told =
    let n1 = joins_one _ _ _ _ _ (c.write_at.ensures.asked b told) in
    let e1 = (c.write_at.ensures.written b told).told in
    let n2 = joins_one _ _ _ _ _ (c.sync.ensures.asked e1.0 e1.1) in
    let e2 = (c.sync.ensures.content e1.0 e1.1).told in
    let n3 = joins_one _ _ _ _ _ (c.write_at-then-opened.ensures.asked e2.0 e2.1) in
    let e3 = (c.write_at-then-opened.ensures.written e2.0 e2.1).told in
    let n4 = joins_one _ _ _ _ _ (c.sync-then-opened.ensures.asked e3.0 e3.1) in
    omega (arith, n1, n2, n3, n4)

pub returns-in_ok-sync-2-clause-durable : goal.returns-in_ok-sync-2-clause-durable
returns-in_ok-sync-2-clause-durable g c b told =
    let D = g.D.Disk in
    let told1 = (c.in_ok-write_at.ensures.written b told).done in
    let told2 = (c.in_ok-sync.ensures.content _ told1).done in
    let told3 = (c.in_ok-write_at-2.ensures.written _ told2).done in
    let is = ap (gathered b c.args.gate c.args.behind.now) c.if-opened.true in
    subst (λ (f : List ℕ). Only f (D.images c.sync-then-opened.new.self)) (sym is) (c.in_ok-sync-2.ensures.durable _ told3)

pub returns-in_ok-sync-2-clause-any_moment : goal.returns-in_ok-sync-2-clause-any_moment
returns-in_ok-sync-2-clause-any_moment g c b told only =
    let D = g.D.Disk in
    let here0 = at_start D.images D.moment D.images_since g.met.D.Disk.only_now b c.args.gate c.args.behind.now c.args.opened (c.requires.within b told) c.args.disk.now only in
    let as1 = as_behind D.images D.moment D.images_since g.met.D.Disk.only_now b c.args.gate c.args.behind.now c.args.opened (c.requires.within b told) c.args.disk.now only c.write_at.new.self c.write_at.ensures.crash in
    let here1 = then D.images D.moment D.images_since g.met.D.Disk.only_now b c.args.gate c.args.behind.now c.args.opened (c.requires.within b told) c.args.disk.now only c.args.disk.now c.write_at.new.self here0 as1 c.write_at.ensures.time in
    let as2 = as_before D.images D.moment D.images_since g.met.D.Disk.only_now b c.args.gate c.args.behind.now c.args.opened (c.requires.within b told) c.args.disk.now only c.write_at.new.self c.sync.new.self as1 c.sync.ensures.crash in
    let here2 = then D.images D.moment D.images_since g.met.D.Disk.only_now b c.args.gate c.args.behind.now c.args.opened (c.requires.within b told) c.args.disk.now only c.write_at.new.self c.sync.new.self here1 as2 c.sync.ensures.time in
    let told1 = (c.in_ok-write_at.ensures.written b told).done in
    let staged = c.in_ok-sync.ensures.durable _ told1 in
    let as3 = as_gate D.images D.moment D.images_since g.met.D.Disk.only_now b c.args.gate c.args.behind.now c.args.opened (c.requires.within b told) c.args.disk.now only c.sync.new.self c.write_at-then-opened.new.self c.if-opened.true staged c.write_at-then-opened.ensures.crash in
    let here3 = then D.images D.moment D.images_since g.met.D.Disk.only_now b c.args.gate c.args.behind.now c.args.opened (c.requires.within b told) c.args.disk.now only c.sync.new.self c.write_at-then-opened.new.self here2 as3 c.write_at-then-opened.ensures.time in
    let as4 = as_before D.images D.moment D.images_since g.met.D.Disk.only_now b c.args.gate c.args.behind.now c.args.opened (c.requires.within b told) c.args.disk.now only c.write_at-then-opened.new.self c.sync-then-opened.new.self as3 c.sync-then-opened.ensures.crash in
    then D.images D.moment D.images_since g.met.D.Disk.only_now b c.args.gate c.args.behind.now c.args.opened (c.requires.within b told) c.args.disk.now only c.write_at-then-opened.new.self c.sync-then-opened.new.self here3 as4 c.sync-then-opened.ensures.time

pub returns-in_ok-sync-2-clause-few : goal.returns-in_ok-sync-2-clause-few
returns-in_ok-sync-2-clause-few g c b told =
    let n1 = joins_one _ _ _ _ _ (c.write_at.ensures.asked b told) in
    let e1 = (c.write_at.ensures.written b told).told in
    let n2 = joins_one _ _ _ _ _ (c.sync.ensures.asked e1.0 e1.1) in
    let e2 = (c.sync.ensures.content e1.0 e1.1).told in
    let n3 = joins_one _ _ _ _ _ (c.write_at-then-opened.ensures.asked e2.0 e2.1) in
    let e3 = (c.write_at-then-opened.ensures.written e2.0 e2.1).told in
    let n4 = joins_one _ _ _ _ _ (c.sync-then-opened.ensures.asked e3.0 e3.1) in
    omega (arith, n1, n2, n3, n4)

pub returns-else-opened-clause-any_moment : goal.returns-else-opened-clause-any_moment
returns-else-opened-clause-any_moment g c b told only =
    let D = g.D.Disk in
    let here0 = at_start D.images D.moment D.images_since g.met.D.Disk.only_now b c.args.gate c.args.behind.now c.args.opened (c.requires.within b told) c.args.disk.now only in
    let as1 = as_behind D.images D.moment D.images_since g.met.D.Disk.only_now b c.args.gate c.args.behind.now c.args.opened (c.requires.within b told) c.args.disk.now only c.write_at.new.self c.write_at.ensures.crash in
    let here1 = then D.images D.moment D.images_since g.met.D.Disk.only_now b c.args.gate c.args.behind.now c.args.opened (c.requires.within b told) c.args.disk.now only c.args.disk.now c.write_at.new.self here0 as1 c.write_at.ensures.time in
    let as2 = as_before D.images D.moment D.images_since g.met.D.Disk.only_now b c.args.gate c.args.behind.now c.args.opened (c.requires.within b told) c.args.disk.now only c.write_at.new.self c.sync.new.self as1 c.sync.ensures.crash in
    let here2 = then D.images D.moment D.images_since g.met.D.Disk.only_now b c.args.gate c.args.behind.now c.args.opened (c.requires.within b told) c.args.disk.now only c.write_at.new.self c.sync.new.self here1 as2 c.sync.ensures.time in
    here2

pub returns-else-opened-clause-few : goal.returns-else-opened-clause-few
returns-else-opened-clause-few g c b told =
    let n1 = joins_one _ _ _ _ _ (c.write_at.ensures.asked b told) in
    let e1 = (c.write_at.ensures.written b told).told in
    let n2 = joins_one _ _ _ _ _ (c.sync.ensures.asked e1.0 e1.1) in
    omega (arith, n1, n2)
