-- Changes that never keep a client back: lists of instructions that go on through whatever lists of others they meet.
use Rattle.std.specs.Prelude.{◌≡◌, ◌≢◌, ◌<◌, ◌≤◌, ℕ, zero, suc, Bool, true, false, List, [], ◌∷◌, ◌++◌, Some, None, length, IfOk, IfErr}
use Rattle.sync_theory.specs.Lists.{cross}
use Rattle.sync_model.specs.Bytes.{Name}
use Rattle.sync_model.specs.Clients.{client_of}
use Rattle.sync_model.specs.Each.{Each}
use Rattle.sync_model.specs.Log.{ids, subset_of}
use Rattle.sync_model.specs.Profile.{Profile, IsNamedKind, needs}
use Rattle.sync_model.specs.Progress.{asks_at, made_by_all, uploads_at}
use Rattle.sync_model.specs.Worlds.{Event, Edits, Uploads, Asks, Delivers, Restarts, Node, World, at, has_name, is_own}

-- how many changes an event may make
abbrev pub made_by_event : {I : Type 0} → Event I → ℕ
made_by_event (Edits name ms edits) = 1
made_by_event e = 0

-- each client of these names uploads and asks once; so many messages were made before
abbrev pub once : {I : Type 0} → List Name → ℕ → List (Event I)
once [] n = []
once (name ∷ names) n = uploads_at name n ++ (asks_at name (suc (suc n)) ++ once names (suc (suc (suc (suc n)))))

-- how many were made after that
abbrev pub after_once : List Name → ℕ → ℕ
after_once [] n = n
after_once (name ∷ names) n = after_once names (suc (suc (suc (suc n))))

-- so many times, in turn
abbrev pub in_turn : {I : Type 0} → List Name → ℕ → ℕ → List (Event I)
in_turn names n zero = []
in_turn names n (suc k) = once names n ++ in_turn names (after_once names n) k

module _ {I S : Type 0} (p : Profile I S) where
  -- `of c n is` says that a change of ident c may be this list after it met n changes of others. Those of two idents go on as
  -- such lists or don't act on one state, as long as the left one met fewer than the most; none needs form 2, and each is
  -- spelled in so many bytes.
  pub record AreHarmless (of : ℕ → ℕ → List I → Type 0) (most size : ℕ) : Type 0 where
    pub crosses : (c d m n : ℕ) (as_ bs : List I) (later : Bool) → c ≢ d → m < most → of c m as_ → of d n bs → IfOk (cross (λ a b. p.meet a b later) as_ bs) (λ q. of c (suc m) q.0 × of d (suc n) q.1)
    pub mismatches : (c d m n : ℕ) (as_ bs : List I) (later : Bool) → c ≢ d → m < most → of c m as_ → of d n bs → IfErr (cross (λ a b. p.meet a b later) as_ bs) (λ f. IsNamedKind f.2 → ⊥)
    pub more : (c n : ℕ) (is : List I) → of c n is → of c (suc n) is
    pub form : (c n : ℕ) (is : List I) → of c n is → needs p is ≡ false
    pub light : (c n : ℕ) (is : List I) → of c n is → length (p.spell is) ≤ size

  -- a client that has its ident and gets all tables, and made such changes alone
  pub record IsHarmlessClient (of : ℕ → ℕ → List I → Type 0) (nd : Node) : Type 0 where
    pub named : (client_of p nd.records).ident ≢ 0
    pub tables : subset_of p nd ≡ None
    pub made : Each (λ o. of (client_of p nd.records).ident 0 o.instrs) (client_of p nd.records).made

  -- no disk is armed, each ident is a client's, and these made so many changes together
  pub record IsHarmless (of : ℕ → ℕ → List I → Type 0) (most : ℕ) (w : World) : Type 0 where
    pub unarmed : (x : Name) → w.stops x ≡ None
    pub own : (c : ℕ) → c ≢ 0 → c ≤ length (ids p w) → is_own p w c ≡ true
    pub clients : (i : ℕ) (nd : Node) → at w.clients i ≡ Some nd → IsHarmlessClient of nd
    pub few : made_by_all p w.clients ≤ most

  -- a client makes such a change, sends something, gets a message or is opened anew
  abbrev pub IsHarmlessEvent : (ℕ → ℕ → List I → Type 0) → World → Event I → Type 0
  IsHarmlessEvent of w (Edits name ms edits) = (i : ℕ) (nd : Node) → at w.clients i ≡ Some nd → has_name name nd ≡ true → of (client_of p nd.records).ident 0 edits
  IsHarmlessEvent of w (Uploads name) = Unit {0}
  IsHarmlessEvent of w (Asks name) = Unit {0}
  IsHarmlessEvent of w (Delivers message to) = Unit {0}
  IsHarmlessEvent of w (Restarts node) = Unit {0}
  IsHarmlessEvent of w e = ⊥
