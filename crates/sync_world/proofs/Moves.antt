-- Clients of an exchange beside the nodes of a world: finding one, and putting another in its place.
use Rattle.std.proofs.Common.{◌≡◌, ℕ, zero, suc, ◌+◌, ◌<◌, Bool, true, false, not, cond, nat_lt, if◌then◌else◌, ◌||◌, List, [], ◌∷◌, ◌++◌, map, length, slice_set, get_or, Option, None, Some, refl, sym, ◌∙◌, ap, subst, arith}
use Rattle.std.specs.Prelude.{bytes_eq}
use Rattle.std.specs.List.{list_any, position_or_len, position}
use Rattle.std.proofs.lemmas.Bool.Decides.{nat_tests}
use Rattle.sync_model.specs.Bytes.{Name}
use Rattle.sync_model.specs.Each.{Each, no_more, and_each}
use Rattle.sync_model.specs.Worlds.{Node, Stop, World, arm, at, further, has_name, is_node, is_there, put, seek, server_name}
use Rattle.sync_model.proofs.Lists.{seek_map}
use Rattle.sync_model.proofs.Bytes.{bytes_false, bytes_true}
use Rattle.sync_world.specs.Holding.{AreBoth, AreNames, Found, HoldsEach, HoldsNode, named}
use Rattle.sync_world.specs.declared.node.Node.{Node as CodeNode}

-- ---- names
pub other_way : (a b : Name) → bytes_eq a b ≡ false → bytes_eq b a ≡ false
other_way a b e = bytes_false b a (λ same. let t = bytes_true a b (sym same) in absurd (cc (e, t)))

pub first_not : (a b : Bool) → (a || b) ≡ false → a ≡ false
first_not true b e = cc
first_not false b e = refl

pub rest_not : (a b : Bool) → (a || b) ≡ false → b ≡ false
rest_not true b e = cc
rest_not false b e = e

-- none of these names is that of a node among them
pub name_differs : (name : Name) (ns : List Node) (i : ℕ) (n : Node) → list_any (bytes_eq name) (map (λ n. n.name) ns) ≡ false → at ns i ≡ Some n → bytes_eq name n.name ≡ false
name_differs name [] i n none here = cc
name_differs name (m ∷ ns) zero n none here = let same : m ≡ n = cc in ap (λ (x : Node). bytes_eq name x.name) (sym same) ∙ first_not (bytes_eq name m.name) (list_any (bytes_eq name) (map (λ n. n.name) ns)) none
name_differs name (m ∷ ns) (suc i) n none here = name_differs name ns i n (rest_not (bytes_eq name m.name) (list_any (bytes_eq name) (map (λ n. n.name) ns)) none) here

-- no node is named as the server
pub not_server : (ns : List Node) (i : ℕ) (n : Node) → AreNames (map (λ n. n.name) ns) → at ns i ≡ Some n → bytes_eq n.name server_name ≡ false
not_server [] i n names here = cc
not_server (m ∷ ns) zero n names here = let same : m ≡ n = cc in ap (λ (x : Node). bytes_eq x.name server_name) (sym same) ∙ names.0
not_server (m ∷ ns) (suc i) n names here = not_server ns i n names.2 here

pub armed_other : (node : Name) (s : Option Stop) (stops : Name → Option Stop) (name : Name) → bytes_eq name node ≡ false → arm node s stops name ≡ stops name
armed_other node s stops name e = ap (λ (b : Bool). if b then s else stops name) e

pub armed_here : (node : Name) (s : Option Stop) (stops : Name → Option Stop) (name : Name) → name ≡ node → arm node s stops name ≡ s
armed_here node s stops name e = ap (λ (b : Bool). if b then s else stops name) (bytes_true name node e)

-- ---- the stops of others
-- a name that is none of theirs is armed
pub holds_others : (name : Name) (s : Option Stop) (stops : Name → Option Stop) (ns : List Node) (cs : List CodeNode) → ((i : ℕ) (n : Node) → at ns i ≡ Some n → bytes_eq n.name name ≡ false)
    → HoldsEach stops ns cs → HoldsEach (arm name s stops) ns cs
holds_others name s stops [] [] other h = tt
holds_others name s stops [] (c ∷ cs) other h = h
holds_others name s stops (n ∷ ns) [] other h = h
holds_others name s stops (n ∷ ns) (c ∷ cs) other h = (subst (λ x. HoldsNode n x c) (sym (armed_other name s stops n.name (other 0 n refl))) h.0, holds_others name s stops ns cs (λ i m e. other (suc i) m e) h.1)

-- ---- one client
-- the two at a place
both_at : {A B : Type 0} (R : A → B → Type 0) (as_ : List A) (bs : List B) (i : ℕ) (a : A) (b : B) → AreBoth R as_ bs → at as_ i ≡ Some a → b ≡ get_or bs i b → i < length bs → R a b
both_at R [] bs i a b h here is lt = cc
both_at R (x ∷ as_) [] i a b h here is lt = absurd (omega arith)
both_at R (x ∷ as_) (y ∷ bs) zero a b h here is lt = let same : x ≡ a = cc in subst (λ k. R k b) same (subst (R x) (sym is) h.0)
both_at R (x ∷ as_) (y ∷ bs) (suc i) a b h here is lt = both_at R as_ bs i a b h.1 here is (omega arith)

pub held_at : (stops : Name → Option Stop) (ns : List Node) (cs : List CodeNode) (i : ℕ) (n : Node) (c : CodeNode) → HoldsEach stops ns cs → at ns i ≡ Some n → c ≡ get_or cs i c → i < length cs → HoldsNode n (stops n.name) c
held_at stops ns cs i n c h here is lt = both_at (λ n c. HoldsNode n (stops n.name) c) ns cs i n c h here is lt

-- another in its place, armed so
pub held_put : (s : Option Stop) (stops : Name → Option Stop) (ns : List Node) (cs : List CodeNode) (i : ℕ) (n new : Node) (c : CodeNode) → AreNames (map (λ n. n.name) ns) → at ns i ≡ Some n → new.name ≡ n.name
    → HoldsEach stops ns cs → HoldsNode new s c → HoldsEach (arm n.name s stops) (put ns i new) (slice_set cs i c)
held_put s stops [] cs i n new c names here same h one = cc
held_put s stops (m ∷ ns) [] i n new c names here same h one = absurd h
held_put s stops (m ∷ ns) (d ∷ cs) zero n new c names here same h one =
    let is : m ≡ n = cc in (
      subst (λ x. HoldsNode new x c) (sym (armed_here n.name s stops new.name same)) one,
      holds_others n.name s stops ns cs (λ i k e. other_way n.name k.name (name_differs n.name ns i k (subst (λ (x : Node). list_any (bytes_eq x.name) (map (λ n. n.name) ns) ≡ false) is names.1) e)) h.1,
    )
held_put s stops (m ∷ ns) (d ∷ cs) (suc i) n new c names here same h one = (
  subst (λ x. HoldsNode m x d) (sym (armed_other n.name s stops m.name (name_differs m.name ns i n names.1 here))) h.0,
  held_put s stops ns cs i n new c names.2 here same h.1 one,
)

-- one more
pub held_more : (stops : Name → Option Stop) (ns : List Node) (cs : List CodeNode) (n : Node) (c : CodeNode) → HoldsEach stops ns cs → HoldsNode n (stops n.name) c → HoldsEach stops (ns ++ n ∷ []) (cs ++ c ∷ [])
held_more stops [] [] n c h one = (one, tt)
held_more stops [] (d ∷ cs) n c h one = absurd h
held_more stops (m ∷ ns) [] n c h one = absurd h
held_more stops (m ∷ ns) (d ∷ cs) n c h one = (h.0, held_more stops ns cs n c h.1 one)

pub each_put : {X : Type 0} {P : X → Type 0} (xs : List X) (i : ℕ) (y : X) → Each P xs → P y → Each P (put xs i y)
each_put [] i y all one = no_more
each_put (x ∷ xs) zero y (and_each h all) one = and_each one all
each_put (x ∷ xs) (suc i) y (and_each h all) one = and_each h (each_put xs i y all one)

pub each_at : {X : Type 0} {P : X → Type 0} (xs : List X) (i : ℕ) (x : X) → Each P xs → at xs i ≡ Some x → P x
each_at [] i x all here = cc
each_at {X} {P} (y ∷ xs) zero x (and_each h all) here = let same : y ≡ x = cc in subst P same h
each_at (y ∷ xs) (suc i) x (and_each h all) here = each_at xs i x all here

-- ---- finding one by name
abbrev Sought : Option (ℕ × Node) → ℕ → ℕ → Type 0
Sought None place many = place ≡ many
Sought (Some q) place many = (place ≡ q.0) × (place < many)

sought : (stops : Name → Option Stop) (name : Name) (ns : List Node) (cs : List CodeNode) → HoldsEach stops ns cs → Sought (seek (has_name name) ns) (position_or_len (named name) cs) (length cs)
sought stops name [] [] h = refl
sought stops name [] (c ∷ cs) h = absurd h
sought stops name (n ∷ ns) [] h = absurd h
sought stops name (n ∷ ns) (c ∷ cs) h =
    on (bytes_eq name n.name) (bytes_eq name c.name) (ap (bytes_eq name) h.0.name) (seek (has_name name) ns) (position_or_len (named name) cs) (sought stops name ns cs h.1)
  where
    on : (a b : Bool) → b ≡ a → (r : Option (ℕ × Node)) (k : ℕ) → Sought r k (length cs) → Sought (if a then Some (0, n) else further r) (cond (not b) (1 + k) 0) (suc (length cs))
    on true true e r k s = (refl, omega arith)
    on true false e r k s = cc
    on false true e r k s = cc
    on false false e None k s = omega (arith, s)
    on false false e (Some q) k s = (omega (arith, s.0), omega (arith, s.1))

pub found_by_name : (w : World) (name : Name) (cs : List CodeNode) → HoldsEach w.stops w.clients cs → Found w name (position (named name) cs)
found_by_name w name cs h = on (seek (has_name name) w.clients) refl (position_or_len (named name) cs) (sought w.stops name w.clients cs h)
  where
    on : (r : Option (ℕ × Node)) → seek (has_name name) w.clients ≡ r → (k : ℕ) → Sought r k (length cs) → Found w name (cond (nat_lt k (length cs)) (Some k) None)
    on None is k s = let e : nat_lt k (length cs) ≡ false = grind (arith, nat_tests) in subst (λ (b : Bool). Found w name (cond b (Some k) None)) (sym e) is
    on (Some q) is k s = let e : nat_lt k (length cs) ≡ true = let lt = s.1 in grind (arith, nat_tests) in subst (λ (b : Bool). Found w name (cond b (Some k) None)) (sym e) (q.1, is ∙ ap (λ (i : ℕ). Some (i, q.1)) (sym s.0))

-- ---- a new name
not_any : (name : Name) (ns : List Node) → is_there (seek (has_name name) ns) ≡ false → list_any (bytes_eq name) (map (λ n. n.name) ns) ≡ false
not_any name [] e = refl
not_any name (n ∷ ns) e = on (bytes_eq name n.name) (seek (has_name name) ns) e (not_any name ns)
  where
    on : (b : Bool) (r : Option (ℕ × Node)) → is_there (if b then Some (0, n) else further r) ≡ false → (is_there r ≡ false → list_any (bytes_eq name) (map (λ n. n.name) ns) ≡ false) → (b || list_any (bytes_eq name) (map (λ n. n.name) ns)) ≡ false
    on true r e go = cc
    on false None e go = go refl
    on false (Some q) e go = cc

any_more : (a b : Name) (names : List Name) → list_any (bytes_eq a) names ≡ false → bytes_eq a b ≡ false → list_any (bytes_eq a) (names ++ b ∷ []) ≡ false
any_more a b [] none e = ap (λ (x : Bool). x || false) e
any_more a b (n ∷ names) none e = on (bytes_eq a n) none (any_more a b names)
  where
    on : (x : Bool) → (x || list_any (bytes_eq a) names) ≡ false → (list_any (bytes_eq a) names ≡ false → bytes_eq a b ≡ false → list_any (bytes_eq a) (names ++ b ∷ []) ≡ false) → (x || list_any (bytes_eq a) (names ++ b ∷ [])) ≡ false
    on true f go = cc
    on false f go = go f e

pub names_more : (names : List Name) (name : Name) → AreNames names → bytes_eq name server_name ≡ false → list_any (bytes_eq name) names ≡ false → AreNames (names ++ name ∷ [])
names_more [] name are other none = (other, refl, tt)
names_more (n ∷ names) name are other none = (
  are.0,
  any_more n name names are.1 (other_way name n (first_not (bytes_eq name n) (list_any (bytes_eq name) names) none)),
  names_more names name are.2 other (rest_not (bytes_eq name n) (list_any (bytes_eq name) names) none),
)

pub new_name : (w : World) (name : Name) → is_node w name ≡ false → (bytes_eq name server_name ≡ false) × (list_any (bytes_eq name) (map (λ n. n.name) w.clients) ≡ false)
new_name w name e = (first_not (bytes_eq name server_name) (is_there (seek (has_name name) w.clients)) e, not_any name w.clients (rest_not (bytes_eq name server_name) (is_there (seek (has_name name) w.clients)) e))

-- the same names are nodes where the clients have the same names
pub same_nodes : (name : Name) (ms ns : List Node) → map (λ n. n.name) ms ≡ map (λ n. n.name) ns → is_there (seek (has_name name) ms) ≡ is_there (seek (has_name name) ns)
same_nodes name ms ns same = sym (seek_map (λ n. n.name) (bytes_eq name) ms) ∙ ap (λ names. is_there (seek (bytes_eq name) names)) same ∙ seek_map (λ n. n.name) (bytes_eq name) ns

-- fewer were nodes before
pub fewer_nodes : (name : Name) (ns : List Node) (n : Node) → is_there (seek (has_name name) (ns ++ n ∷ [])) ≡ false → is_there (seek (has_name name) ns) ≡ false
fewer_nodes name [] n e = refl
fewer_nodes name (m ∷ ns) n e = on (bytes_eq name m.name) (seek (has_name name) (ns ++ n ∷ [])) (seek (has_name name) ns) e (fewer_nodes name ns n)
  where
    on : (b : Bool) (r s : Option (ℕ × Node)) → is_there (if b then Some (0, m) else further r) ≡ false → (is_there r ≡ false → is_there s ≡ false) → is_there (if b then Some (0, m) else further s) ≡ false
    on true r s e go = cc
    on false None None e go = refl
    on false None (Some q) e go = cc (go refl)
    on false (Some q) s e go = cc
