-- What the calls of a client ask of the disk.
use Rattle.std.proofs.Common.{◌≡◌, ℕ, List, [], ◌∷◌, ◌++◌, map, Some, sym, ap, ◌∙◌, subst, append-nil}
use Rattle.std.proofs.lemmas.List.{map-append}
use Rattle.sync_disk.specs.declared.disk.Disk.{Ghosts}
use Rattle.sync_disk.specs.Strokes.{CutByFault}
use Rattle.sync_journal.specs.Journal.{strokes_of}
use Rattle.sync_journal.specs.Several.{Asks, AsksSome}
use Rattle.sync_journal.specs.Stopping.{CanStand}
use Rattle.sync_journal.specs.declared.journal.Journal.{Journal}
use Rattle.sync_journal.proofs.Stops.{asks_none, asks_both, part_one, part_before, part_later}
use Rattle.sync_model.specs.Clients.{ClientRecord}
use Rattle.sync_exchange.specs.Seen.{client_bytes}
use Rattle.sync_client.specs.Clients.{AskedFor}
use Rattle.sync_client.specs.Refusals.{refusal_seen, IfSeen, IsPlain}
use Rattle.sync_client.specs.declared.refusal.ClientRefusal.{ClientRefusal as CodeRefusal}
use Rattle.sync_client.specs.declared.refusal.ClientRefusal.TheVariants as codes

module _ {D : Type 0} {G : Ghosts D} where
  -- ---- nothing is appended
  pub none_asked : (next : List ClientRecord) (old new : Journal D G) → next ≡ [] → new ≡ old → Asks (map client_bytes next) old new
  none_asked next old new none same =
      subst (λ (l : List ClientRecord). Asks (map client_bytes l) old new) (sym none) (subst (λ (j : Journal D G). Asks [] old j) (sym same) (asks_none old.end (G.strokes old.disk)))

  pub refused_asked : (why : CodeRefusal) (next : List ClientRecord) (old new : Journal D G) → IsPlain why → IfSeen (refusal_seen why) (λ w. next ≡ []) → IfSeen (refusal_seen why) (λ w. new ≡ old) → AskedFor next old new (Some why)
  refused_asked codes.Closed next old new plain none same = tt
  refused_asked codes.DiskFault next old new plain none same = absurd plain
  refused_asked codes.NoMemory next old new plain none same = tt
  refused_asked why next old new plain none same = none_asked next old new none same

  -- ---- one record
  pub cut_asked : (next : ClientRecord) (bytes : List ℕ) (old new : Journal D G) → bytes ≡ client_bytes next → CanStand bytes → CutByFault (strokes_of old.end bytes) (G.strokes old.disk) (G.strokes new.disk) → AsksSome (client_bytes next ∷ []) old new
  cut_asked next bytes old new is can cut = subst (λ (b : List ℕ). AsksSome (b ∷ []) old new) is (part_one bytes old.end (G.strokes old.disk) (G.strokes new.disk) can cut)

  -- ---- some records behind others
  pub both_asked : (a b : List ClientRecord) (old mid new : Journal D G) → Asks (map client_bytes a) old mid → Asks (map client_bytes b) mid new → Asks (map client_bytes (a ++ b)) old new
  both_asked a b old mid new first second =
      subst (λ (l : List (List ℕ)). Asks l old new) (sym (map-append client_bytes a b))
      (asks_both (map client_bytes a) (map client_bytes b) old.end mid.end new.end (G.strokes old.disk) (G.strokes mid.disk) (G.strokes new.disk) first second)

  some_asked : (a b rest : List ClientRecord) (old mid new : Journal D G) → Asks (map client_bytes a) old mid → AsksSome (map client_bytes b) mid new → AsksSome (map client_bytes (a ++ (b ++ rest))) old new
  some_asked a b rest old mid new first second =
      subst (λ (l : List (List ℕ)). AsksSome l old new) (sym (map-append client_bytes a (b ++ rest) ∙ ap (λ (l : List (List ℕ)). map client_bytes a ++ l) (map-append client_bytes b rest)))
      (part_later (map client_bytes a) (map client_bytes b ++ map client_bytes rest) old.end mid.end (G.strokes old.disk) (G.strokes mid.disk) (G.strokes new.disk) first
      (part_before (map client_bytes b) (map client_bytes rest) mid.end (G.strokes mid.disk) (G.strokes new.disk) second))

  -- the last of them is refused, and then the rest isn't reached
  pub stopped_asked : (why : CodeRefusal) (a b rest : List ClientRecord) (old mid new : Journal D G) → Asks (map client_bytes a) old mid → AskedFor b mid new (Some why) → IfSeen (refusal_seen why) (λ w. rest ≡ [])
      → AskedFor (a ++ (b ++ rest)) old new (Some why)
  stopped_asked codes.DiskFault a b rest old mid new first second none = some_asked a b rest old mid new first second
  stopped_asked codes.NoMemory a b rest old mid new first second none = tt
  stopped_asked codes.Closed a b rest old mid new first second none = tt
  stopped_asked why a b rest old mid new first second none =
      subst (λ (l : List ClientRecord). Asks (map client_bytes (a ++ l)) old new) (sym (ap (λ (l : List ClientRecord). b ++ l) none ∙ append-nil b)) (both_asked a b old mid new first second)
