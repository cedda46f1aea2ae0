-- Where no disk is armed, the server knows every client, their files are in form 2 and they stand above the floor, nothing but a mismatch
-- or a full history keeps them from the end.
use Rattle.std.proofs.Common.{◌≡◌, ◌⊎◌, inl, inr, ⊎_elim, ℕ, ◌<◌, ◌≤◌, true, false, List, [], ◌∷◌, Bool, arith}
use Rattle.sync_model.specs.Profile.{Profile, Lawful}
use Rattle.sync_model.specs.Snapshots.{Buildable}
use Rattle.sync_model.specs.Messages.{Message, Bind, Ident, Upload, Ask, Download, Refused, Stored, Ask2, Retire, Retired, AskTables}
use Rattle.sync_model.specs.Servers.{ServerRefusal, NumberGap, BaseBack, AheadOfHistory, HistoryFull, BadBytes, NoSuchIdent, IdentsFull, NotForServer, NeedsForm2, IdentRetired, SelfRetire, RetiredBy, Trimmed}
use Rattle.sync_model.specs.Later.{Later, IsLater}
use Rattle.sync_model.specs.Worlds.{Words, Joined, Made, Messaged, Took, Replied, Opened, Armed, Stopped, Upgraded, Current, SubscribedTo, Declined, NameTaken, UuidTaken, NoNode, NoMessage, BadMessage, OwnIdent}
use Rattle.sync_model.specs.Progress.{MayHinder, IsException, IsBelowFloor, Comes, comes_now, comes_later, AnyArmed, AnyUnnamed, AnyOld, AnyBelow, IsCalm, IsRoomy, AllCurrent, enough_for_all, all_catch_up, later_outcomes, after_events}
use Rattle.sync_model.proofs.Progress.LaterLaws.{later_all}

module _ (A U O B : Type 0) (no_a : A → ⊥) (no_u : U → ⊥) (no_o : O → ⊥) (no_b : B → ⊥) where
  hinders : (why : ServerRefusal) → MayHinder U O why → MayHinder ⊥ ⊥ why
  hinders (HistoryFull n) h = tt
  hinders (ServerRefusal.Mismatch place kind) h = h
  hinders (IdentsFull n) h = no_u h
  hinders (NeedsForm2 n) h = no_o h
  hinders (NumberGap n) h = h
  hinders (BaseBack n) h = h
  hinders (AheadOfHistory n) h = h
  hinders (BadBytes offset rule) h = h
  hinders (ServerRefusal.Break place code) h = h
  hinders (NoSuchIdent n) h = h
  hinders NotForServer h = h
  hinders (IdentRetired n) h = h
  hinders (SelfRetire c) h = h
  hinders (RetiredBy c) h = h
  hinders (Trimmed n) h = h

  replied : (place : ℕ) (m : Message) → IsException A U O (Replied place m) ⊎ IsBelowFloor B (Replied place m) → IsException ⊥ ⊥ ⊥ (Replied place m)
  replied place m (inr b) = absurd (no_b b.1)
  replied place (Refused c number code spot) (inl e) = (e.0, e.1, e.2, hinders e.0 e.3)
  replied place (Bind u) (inl e) = e
  replied place (Ident u c) (inl e) = e
  replied place (Upload c hs) (inl e) = e
  replied place (Ask c cursor settled) (inl e) = e
  replied place (Ask2 c cursor settled) (inl e) = e
  replied place (AskTables c cursor settled second tables) (inl e) = e
  replied place (Download c from es) (inl e) = e
  replied place (Stored c number) (inl e) = e
  replied place (Retire c by) (inl e) = e
  replied place (Retired c by number) (inl e) = e

  either : {P Q : Type 0} → (P → Q) → P ⊎ ⊥ → Q
  either f (inl x) = f x
  either f (inr x) = absurd x

  calmer : (x : Words) → IsException A U O x ⊎ IsBelowFloor B x → IsException ⊥ ⊥ ⊥ x
  calmer (Declined why) e = either (λ h. h) e
  calmer (Replied place m) e = replied place m e
  calmer Stopped e = either no_a e
  calmer (Joined name) e = either (λ h. h) e
  calmer (Made number) e = either (λ h. h) e
  calmer (Messaged place) e = either (λ h. h) e
  calmer (Took cursor) e = either (λ h. h) e
  calmer Opened e = either (λ h. h) e
  calmer Armed e = either (λ h. h) e
  calmer Upgraded e = either (λ h. h) e
  calmer Current e = either (λ h. h) e
  calmer SubscribedTo e = either (λ h. h) e
  calmer NameTaken e = either (λ h. h) e
  calmer UuidTaken e = either (λ h. h) e
  calmer NoNode e = either (λ h. h) e
  calmer NoMessage e = either (λ h. h) e
  calmer BadMessage e = either (λ h. h) e
  calmer OwnIdent e = either (λ h. h) e

  all_calmer : (xs : List Words) → Comes (λ x. IsException A U O x ⊎ IsBelowFloor B x) xs → Comes (IsException ⊥ ⊥ ⊥) xs
  all_calmer [] c = elim c [ ]
  all_calmer (x ∷ xs) (comes_now h) = comes_now (calmer x h)
  all_calmer (x ∷ xs) (comes_later c) = comes_later (all_calmer xs c)

module _ {I S : Type 0} (p : Profile I S) {Fits Bounded Old : S → Type 0} (law : Lawful p Fits) (built : Buildable p Fits Bounded Old) where
  pub calm_all : (l : Later I S) → IsLater p l → IsRoomy p → IsCalm p l → (k : ℕ) → enough_for_all p l.world ≤ k
      → Comes (IsException ⊥ ⊥ ⊥) (later_outcomes p l (all_catch_up l.world k)) ⊎ AllCurrent p (after_events p l (all_catch_up l.world k)).world
  calm_all l r roomy calm k le = ⊎_elim
      (λ c. inl (all_calmer (AnyArmed p l.world) (AnyUnnamed p l.world) (AnyOld p l.world) (AnyBelow p l) (λ a. a.1 (calm.unarmed a.0)) (λ u. (calm.clients u.0 u.1 u.2).0 u.3) (λ o. differ (calm.clients o.0 o.1 o.2).1 o.3) (λ b. low (calm.clients b.0 b.1 b.2).2 b.3) (later_outcomes p l (all_catch_up l.world k)) c))
      (λ done. inr done)
      (later_all p law built l r roomy k le)
    where
      differ : {b : Bool} → b ≡ true → b ≡ false → ⊥
      differ e f = cc

      low : {x y : ℕ} → x ≤ y → y < x → ⊥
      low le lt = omega (arith, le, lt)
