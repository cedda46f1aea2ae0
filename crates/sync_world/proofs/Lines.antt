-- The clients' parts of a report.
use Rattle.std.proofs.Common.{◌≡◌, ℕ, zero, suc, ◌+◌, ◌<◌, ◌≤◌, List, [], ◌∷◌, ◌++◌, Option, Some, length, map, drop, get_or, refl, sym, ◌∙◌, ap, arith, add-one, append_assoc, append-nil}
use Rattle.std.proofs.Math.ListN.{drop_of_length-le}
use Rattle.sync_model.specs.Bytes.{Name}
use Rattle.sync_model.specs.Clients.{ClientRecord}
use Rattle.sync_model.specs.Reports.{node_line}
use Rattle.sync_model.specs.Worlds.{Node, Stop, at}
use Rattle.sync_exchange.specs.Profile.{the_profile}
use Rattle.sync_client.specs.Clients.{IsClientOf}
use Rattle.sync_world.specs.Holding.{AreBoth, HoldsEach, HoldsNode}
use Rattle.sync_words.specs.Reports.{client_text, clients_text}
use Rattle.sync_world.specs.declared.node.Node.{Node as CodeNode}
use Rattle.sync_world.proofs.Moves.{held_at}

pub as_many : {A B : Type 0} (R : A → B → Type 0) (as_ : List A) (bs : List B) → AreBoth R as_ bs → length bs ≡ length as_
as_many R [] [] h = refl
as_many R [] (b ∷ bs) h = absurd h
as_many R (a ∷ as_) [] h = absurd h
as_many R (a ∷ as_) (b ∷ bs) h = ap suc (as_many R as_ bs h.1)

there : {A : Type 0} (xs : List A) (k : ℕ) → k < length xs → (x : A) × (at xs k ≡ Some x) × (drop k xs ≡ x ∷ drop (suc k) xs)
there [] k lt = absurd (omega arith)
there (x ∷ xs) zero lt = (x, refl, refl)
there (x ∷ xs) (suc k) lt = there xs k (omega arith)

-- a client's part is put
pub one_line : (stops : Name → Option Stop) (ns : List Node) (cs : List CodeNode) (k : ℕ) (c : CodeNode) (out now whole : List ℕ) → HoldsEach stops ns cs → k < length cs → c ≡ get_or cs k c
    → ((records : List ClientRecord) → IsClientOf records c.client → now ≡ out ++ client_text (node_line the_profile (record { name = c.name; records = records })))
    → out ++ clients_text (map (node_line the_profile) (drop k ns)) ≡ whole → now ++ clients_text (map (node_line the_profile) (drop (k + 1) ns)) ≡ whole
one_line stops ns cs k c out now whole h lt is put was =
    let many = as_many (λ n c. HoldsNode n (stops n.name) c) ns cs h in
    let t = there ns k (omega (arith, lt, many)) in
    let held = held_at stops ns cs k t.0 c h t.1 is lt in
    let text = put t.0.records held.client.client ∙ ap (λ (name : Name). out ++ client_text (node_line the_profile (record { name = name; records = t.0.records }))) held.name in
    ap (λ (l : List ℕ). l ++ clients_text (map (node_line the_profile) (drop (k + 1) ns))) text
    ∙ append_assoc out (client_text (node_line the_profile t.0)) (clients_text (map (node_line the_profile) (drop (k + 1) ns)))
    ∙ ap (λ (n : ℕ). out ++ (client_text (node_line the_profile t.0) ++ clients_text (map (node_line the_profile) (drop n ns)))) (add-one k)
    ∙ ap (λ (l : List Node). out ++ clients_text (map (node_line the_profile) l)) (sym t.2)
    ∙ was

-- all were put
pub all_lines : (stops : Name → Option Stop) (ns : List Node) (cs : List CodeNode) (k : ℕ) (out whole : List ℕ) → HoldsEach stops ns cs → length cs ≤ k → out ++ clients_text (map (node_line the_profile) (drop k ns)) ≡ whole → out ≡ whole
all_lines stops ns cs k out whole h le was =
    let many = as_many (λ n c. HoldsNode n (stops n.name) c) ns cs h in
    sym (append-nil out) ∙ ap (λ (l : List Node). out ++ clients_text (map (node_line the_profile) l)) (sym (drop_of_length-le ns (omega (arith, le, many)))) ∙ was
