use Rattle.std.proofs.Common.{◌≡◌, ◌+◌, ◌∙◌, inl, ℕ, List, take, false, sym, ap, subst, rules}
use Rattle.sync_disk.specs.Disk.{LeavesOnly}
use Rattle.sync_disk.proofs.Moments.{started}
use Rattle.gathered_disk.specs.Gathered.{NoneOrAll, gathered}
use Rattle.gathered_disk.specs.Strokes.{strokes_of}
use Rattle.gathered_disk.proofs.Gathering.{shows}
use Rattle.gathered_disk.proofs.gathered.GatheredDisk.land.Goals as goal

pub returns-then-is_empty-clause-any_moment : goal.returns-then-is_empty-clause-any_moment
returns-then-is_empty-clause-any_moment g c b is_b all told =
    let D = g.D.Disk in
    let m = c.args.self.now in
    let still : m.closed ≡ false = search rules in
    let P = NoneOrAll b m.gate all in
    let here : LeavesOnly D.moment D.images_since m.disk m.disk P = started D.moment D.images_since m.disk P (λ f left. inl (ap (take (m.gate + 1)) (m.durable still b is_b f (g.met.D.Disk.only_now m.disk f left)))) in
    subst (λ d. LeavesOnly D.moment D.images_since m.disk d P) (sym c.begin.ensures.below) here

pub returns-clause-any_moment : goal.returns-clause-any_moment
returns-clause-any_moment g c b is_b all told =
    let D = g.D.Disk in
    let m = c.args.self.now in
    let still : m.closed ≡ false = search rules in
    let behind : c.deref.result.now ≡ m.behind.items = search rules in
    let is : gathered b m.gate c.deref.result.now m.opened ≡ all =
    ap (λ (l : List ℕ). gathered b m.gate l m.opened) behind ∙ sym (m.in_step still b is_b) ∙ shows m.closed (D.content m.disk) (strokes_of m.asked.items) b all still is_b told in
    let landed = c.land_bytes.ensures.any_moment b is_b (m.durable still b is_b) in
    subst (λ d. LeavesOnly D.moment D.images_since m.disk d (NoneOrAll b m.gate all)) (sym c.begin-2.ensures.below)
    (subst (λ (l : List ℕ). LeavesOnly D.moment D.images_since m.disk c.land_bytes.new.disk (NoneOrAll b m.gate l)) is landed)
