-- A call that would append records, over a disk that may be armed.
use Rattle.std.proofs.Common.{◌≡◌, ℕ, zero, suc, ◌+◌, ◌-◌, ◌*◌, ◌/◌, ◌%◌, ◌<◌, ◌≤◌, Bool, true, false, nat_le, nat_lt, ◌&&◌, if◌then◌else◌, List, [], ◌∷◌, ◌++◌, length, take, map, Option, None, Some, refl, sym, ◌∙◌, ap, arith}
use Rattle.std.proofs.lemmas.Bool.Decides.{nat_tests}
use Rattle.std.proofs.lemmas.List.{length-map, map-append}
use Rattle.sync_disk.specs.Disk.{Told}
use Rattle.sync_disk.specs.Faults.{has_stopped}
use Rattle.sync_disk.specs.Images.{state}
use Rattle.sync_disk.specs.Leaving.{left_by}
use Rattle.sync_disk.specs.Origin.{Origin}
use Rattle.sync_disk.specs.declared.disk.Disk.{Ghosts}
use Rattle.sync_disk.specs.declared.leaves.Leaves.{Leaves as CodeLeaves}
use Rattle.sync_disk.specs.declared.leaves.Leaves.TheVariants as leavings
use Rattle.sync_journal.specs.Journal.{IsSettled}
use Rattle.sync_journal.specs.Records.{records_of}
use Rattle.sync_journal.specs.Records.Reading.{Good}
use Rattle.sync_journal.specs.Several.{AsksAll, AsksPart}
use Rattle.sync_journal.specs.Stopping as journal
use Rattle.sync_model.specs.Worlds.{Stop, is_keep, standing, stopped}
use Rattle.sync_world.specs.Events.{leaves_seen}
use Rattle.sync_world.specs.Nodes.{IsArmed}

-- the rule for a stop, as the journal has it
pub record StopsTell {D : Type 0} (G : Ghosts D) : Type 0 where
  pub never : (next : List (List ℕ)) (end : ℕ) (old new : D) (b : List ℕ) → G.content new ≡ Some b → (G.origin new).listed ≡ 0 → (G.origin new).stop ≡ None → AsksPart next end (G.strokes old) (G.strokes new) → ⊥
  pub passed : (next : List (List ℕ)) (end now at : ℕ) (old new : D) (b : List ℕ) → G.content new ≡ Some b → (G.origin new).listed ≡ 0 → (G.origin new).stop ≡ Some (length (G.strokes old) + at) → AsksAll next end now (G.strokes old) (G.strokes new)
      → (4 * length next ≤ at) × (length (G.strokes new) ≡ length (G.strokes old) + 4 * length next)
  pub stopped : (records next : List (List ℕ)) (end at : ℕ) (old new : D) (b : List ℕ) → IsSettled G.content G.images records end old → G.content new ≡ Some b → G.origin new ≡ G.origin old → (G.origin old).listed ≡ 0
      → (G.origin old).stop ≡ Some (length (G.strokes old) + at) → AsksPart next end (G.strokes old) (G.strokes new)
      → (at < 4 * length next) × (records_of (left_by (G.origin old).leaves (state (G.origin old).start (G.strokes new))) ≡ Good (records ++ take (journal.standing (G.origin old).leaves at) next))

keep_seen : (l : CodeLeaves) → journal.is_keep l ≡ is_keep (leaves_seen l)
keep_seen leavings.Drop = refl
keep_seen leavings.Keep = refl
keep_seen leavings.Torn = refl

standing_seen : (l : CodeLeaves) (s : Stop) → leaves_seen l ≡ s.leaves → journal.standing l (s.at - 1) ≡ standing s
standing_seen l s same = ap (λ (b : Bool). (s.at - 1) / 4 + (if nat_le 2 ((s.at - 1) % 4) && b then 1 else 0)) (keep_seen l ∙ ap is_keep same)

map_take : {A B : Type 0} (f : A → B) (n : ℕ) (xs : List A) → map f (take n xs) ≡ take n (map f xs)
map_take f zero xs = refl
map_take f (suc n) [] = refl
map_take f (suc n) (x ∷ xs) = ap (λ ys. f x ∷ ys) (map_take f n xs)

pub stops_behind : {R : Type 0} (s : Stop) (rs : List R) → 4 * length rs < s.at → stopped (Some s) rs ≡ None
stops_behind s rs lt = let e : nat_le s.at (4 * length rs) ≡ false = grind (arith, nat_tests) in ap (λ (b : Bool). if b then Some (take (standing s) rs) else None) e

stops_within : {R : Type 0} (s : Stop) (rs : List R) → s.at ≤ 4 * length rs → stopped (Some s) rs ≡ Some (take (standing s) rs)
stops_within s rs le = let e : nat_le s.at (4 * length rs) ≡ true = grind (arith, nat_tests) in ap (λ (b : Bool). if b then Some (take (standing s) rs) else None) e

not_past : (n k m : ℕ) → m ≤ k → nat_lt (n + k) (n + m) ≡ false
not_past n k m le = grind (arith, nat_tests)

module _ {D R : Type 0} (G : Ghosts D) (tell : StopsTell G) (bytes : R → List ℕ) (records next : List R) (end : ℕ) (old new : D) (settled : IsSettled G.content G.images (map bytes records) end old)
    (told : Told (G.content old) (λ b. (c : List ℕ) × (G.content new ≡ Some c))) (same : G.origin new ≡ G.origin old) where
  still : (c : List ℕ) × (G.content new ≡ Some c)
  still = told settled.file settled.told

  -- all was asked for: the stop lies behind the call
  pub goes : (s : Option Stop) → IsArmed s (G.origin old) (length (G.strokes old)) → (now : ℕ) → AsksAll (map bytes next) end now (G.strokes old) (G.strokes new)
      → (stopped s next ≡ None) × (has_stopped (G.origin new).stop (length (G.strokes new)) ≡ false)
  unfolding still
  goes None armed now all = (refl, ap (λ (stop : Option ℕ). has_stopped stop (length (G.strokes new))) (ap (λ (o : Origin). o.stop) same ∙ armed.stop))
  goes (Some s) armed now all =
      let none : (G.origin new).listed ≡ 0 = ap (λ (o : Origin). o.listed) same ∙ armed.listed in
      let stop : (G.origin new).stop ≡ Some (length (G.strokes old) + (s.at - 1)) = ap (λ (o : Origin). o.stop) same ∙ armed.stop in
      let p = tell.passed (map bytes next) end now (s.at - 1) old new still.0 still.1 none stop all in
      let many = length-map next bytes in
      let counted : 1 ≤ s.at = armed.counted in
      let far : 4 * length next ≤ s.at - 1 = omega (arith, p.0, many) in
      let count : length (G.strokes new) ≡ length (G.strokes old) + 4 * length next = omega (arith, p.1, many) in (
        stops_behind s next (omega (arith, far, counted)),
        ap (λ (o : Option ℕ). has_stopped o (length (G.strokes new))) stop ∙ ap (λ (n : ℕ). nat_lt (length (G.strokes old) + (s.at - 1)) n) count ∙ not_past (length (G.strokes old)) (s.at - 1) (4 * length next) far,
      )

  -- a part was asked for: a crash leaves the records before the stop
  pub cuts : (s : Option Stop) → IsArmed s (G.origin old) (length (G.strokes old)) → AsksPart (map bytes next) end (G.strokes old) (G.strokes new)
      → (rs : List R) × (stopped s next ≡ Some rs) × (records_of (left_by (G.origin new).leaves (state (G.origin new).start (G.strokes new))) ≡ Good (map bytes (records ++ rs)))
  unfolding still
  cuts None armed part = absurd (tell.never (map bytes next) end old new still.0 still.1 (ap (λ (o : Origin). o.listed) same ∙ armed.listed) (ap (λ (o : Origin). o.stop) same ∙ armed.stop) part)
  cuts (Some s) armed part =
      let p = tell.stopped (map bytes records) (map bytes next) end (s.at - 1) old new still.0 settled still.1 same armed.listed armed.stop part in
      let many = length-map next bytes in
      let counted : 1 ≤ s.at = armed.counted in (
        take (standing s) next,
        stops_within s next (omega (arith, p.0, many, counted)),
        ap (λ (o : Origin). records_of (left_by o.leaves (state o.start (G.strokes new)))) same
            ∙ p.1
            ∙ ap (λ (n : ℕ). Good (map bytes records ++ take n (map bytes next))) (standing_seen (G.origin old).leaves s armed.leaves)
            ∙ ap (λ (l : List (List ℕ)). Good (map bytes records ++ l)) (sym (map_take bytes (standing s) next))
            ∙ ap Good (sym (map-append bytes records (take (standing s) next))),
      )
