use Rattle.std.proofs.Common.{◌≡◌, ◌-◌, ◌∷◌, [], ℕ, List, sym, ◌∙◌, ap, arith, rules}
use Rattle.sync_disk.specs.Disk.{put}
use Rattle.sync_disk.proofs.Tearing.{content_push}
use Rattle.gathered_disk.specs.Gathered.{gathered}
use Rattle.gathered_disk.specs.Strokes.{strokes_of}
use Rattle.gathered_disk.proofs.Gathering.{pushed, more_behind, gate_opened}
use Rattle.gathered_disk.proofs.gathered.GatheredDisk.keep.Goals as goal

pub invariant_of-self-then-eq-clause-in_step : goal.invariant_of-self-then-eq-clause-in_step
invariant_of-self-then-eq-clause-in_step g c still b told =
    let m = c.args.self.now in
    let copy = c.in_ok-copy.copy.items in
    let is_one : c.args.bytes.now ≡ 1 ∷ [] = search rules in
    let one : copy ≡ 1 ∷ [] = c.in_ok-copy.ensures.items_if_clones_equal (λ x y e. e) ∙ is_one in
    let here : c.args.place ≡ m.gate = search rules in
    content_push b (strokes_of m.asked.items) _ (strokes_of c.push.new.self.items) (pushed m.asked.items c.push.new.self.items _ c.in_ok-push.ensures.items)
    ∙ ap (λ (l : List ℕ). put l c.args.place copy) (m.in_step still b told)
    ∙ ap (λ (l : List ℕ). put (gathered b m.gate m.behind.items m.opened) c.args.place l) one
    ∙ ap (λ (n : ℕ). put (gathered b m.gate m.behind.items m.opened) n (1 ∷ [])) here
    ∙ gate_opened b m.gate m.behind.items m.opened (m.inside still b told)

pub invariant_of-self-2-clause-in_step : goal.invariant_of-self-2-clause-in_step
invariant_of-self-2-clause-in_step g c still b told =
    let m = c.args.self.now in
    let copied = c.in_ok-copy.ensures.items_if_clones_equal (λ x y e. e) in
    let behind : c.put_bytes.new.content.items ≡ put m.behind.items (c.args.place - m.gate - 1) c.args.bytes.now = search rules in
    content_push b (strokes_of m.asked.items) _ (strokes_of c.push-2.new.self.items) (pushed m.asked.items c.push-2.new.self.items _ c.in_ok-push-2.ensures.items)
    ∙ ap (λ (l : List ℕ). put l c.args.place c.in_ok-copy.copy.items) (m.in_step still b told)
    ∙ ap (λ (l : List ℕ). put (gathered b m.gate m.behind.items m.opened) c.args.place l) copied
    ∙ more_behind b m.gate m.behind.items m.opened c.args.place (c.args.place - m.gate - 1) c.args.bytes.now (m.inside still b told) (omega (arith, c.if-place-self-2.false)) (omega (arith, c.if-place-self-3.false, c.len.ensures))
    ∙ ap (λ (l : List ℕ). gathered b m.gate l m.opened) (sym behind)
