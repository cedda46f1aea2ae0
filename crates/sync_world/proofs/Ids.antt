-- Uuids of clients, and those that were injected.
use Rattle.std.proofs.Common.{◌≡◌, ℕ, zero, suc, Bool, true, false, ◌||◌, ◌&&◌, not, ◌==◌, if◌then◌else◌, List, [], ◌∷◌, map, Option, None, Some, refl, sym, ◌∙◌, ap, arith}
use Rattle.std.specs.List.{list_any}
use Rattle.sync_model.specs.Bytes.{Name, Uuid}
use Rattle.sync_model.specs.Clients.{client_of}
use Rattle.sync_data.specs.declared.instr.Instr.{Instr}
use Rattle.sync_model.specs.Parts.{idents_of}
use Rattle.sync_model.specs.Servers.{Server, place_of}
use Rattle.sync_model.specs.Worlds.{Node, Stop, further, has_id, id_is, ident_is, is_there, seek}
use Rattle.server_memory.specs.Integrating.{found}
use Rattle.std.proofs.lemmas.Bool.Decides.{nat_tests}
use Rattle.sync_exchange.specs.Profile.{the_profile}
use Rattle.sync_world.specs.Holding.{HoldsEach, HoldsNode, id_of}
use Rattle.sync_world.specs.declared.node.Node.{Node as CodeNode}

-- a test that a list is searched by
pub any_is_there : {A : Type 0} (test : A → Bool) (xs : List A) → list_any test xs ≡ is_there (seek test xs)
any_is_there test [] = refl
any_is_there {A} test (x ∷ xs) = on (test x) (seek test xs) (any_is_there test xs)
  where
    on : (b : Bool) (r : Option (ℕ × A)) → list_any test xs ≡ is_there r → (b || list_any test xs) ≡ is_there (if b then Some (0, x) else further r)
    on true r e = refl
    on false None e = e
    on false (Some q) e = e

-- a client's uuid is that of its records
pub same_id : (n : Node) (s : Option Stop) (c : CodeNode) → HoldsNode n s c → (client_of the_profile n.records).id ≡ id_of c
same_id n s c h = ap (λ x. x.id) h.client.client.kept.stands_for

pub any_of_each : (test : Option Uuid → Bool) (stops : Name → Option Stop) (ns : List Node) (cs : List CodeNode) → HoldsEach stops ns cs
    → list_any (λ c. test (id_of c)) cs ≡ list_any (λ (n : Node). test (client_of the_profile n.records).id) ns
any_of_each test stops [] [] h = refl
any_of_each test stops [] (c ∷ cs) h = absurd h
any_of_each test stops (n ∷ ns) [] h = absurd h
any_of_each test stops (n ∷ ns) (c ∷ cs) h =
    ap (λ (b : Bool). b || list_any (λ c. test (id_of c)) cs) (ap test (sym (same_id n (stops n.name) c h.0)))
    ∙ ap (λ (b : Bool). test (client_of the_profile n.records).id || b) (any_of_each test stops ns cs h.1)

pub id_among : (id : Uuid) (stops : Name → Option Stop) (ns : List Node) (cs : List CodeNode) → HoldsEach stops ns cs → list_any (λ c. id_is id (id_of c)) cs ≡ is_there (seek (has_id the_profile id) ns)
id_among id stops ns cs h = any_of_each (id_is id) stops ns cs h ∙ any_is_there (has_id the_profile id) ns

-- ---- idents
-- the uuids of what is kept of idents
pub uuids_back : (s : Server Instr) (c : ℕ) (us : List Uuid) → map (λ g. g.uuid) (idents_of the_profile s c us) ≡ us
uuids_back s c [] = refl
uuids_back s c (u ∷ us) = ap (λ xs. u ∷ xs) (uuids_back s (suc c) us)

pub given_is : (ids : List Uuid) (c : ℕ) (u : Uuid) (k : ℕ) → found (place_of u ids) ≡ Some k → (k == c) ≡ ident_is ids c (Some u)
given_is ids c u k e = on (place_of u ids) e
  where
    some : (a b : ℕ) → Some a ≡ Some b → a ≡ b
    some a b e = cc

    on : (n : ℕ) → found n ≡ Some k → (k == c) ≡ ((c == n) && not (c == 0))
    on zero e = absurd (cc)
    on (suc n) e = ap (λ (m : ℕ). m == c) (sym (some (suc n) k e)) ∙ swap c
      where
        swap : (c : ℕ) → (suc n == c) ≡ ((c == suc n) && not (c == 0))
        swap c = grind (arith, nat_tests)

pub not_given : (ids : List Uuid) (c : ℕ) (u : Uuid) → found (place_of u ids) ≡ None → false ≡ ident_is ids c (Some u)
not_given ids c u e = on (place_of u ids) e
  where
    on : (n : ℕ) → found n ≡ None → false ≡ ((c == n) && not (c == 0))
    on zero e = grind (arith, nat_tests)
    on (suc n) e = absurd (cc)
