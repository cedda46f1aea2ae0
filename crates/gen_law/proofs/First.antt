-- The world after all clients joined is such a world, and the first changes are drawn.
use Rattle.std.proofs.Common.{◌≡◌, ◌≢◌, ℕ, zero, suc, ◌<◌, ◌≤◌, Bool, true, false, List, [], ◌∷◌, Option, Some, None, refl, sym, ap, ap₂, ◌∙◌, subst, arith, if◌then◌else◌, length, map, sum_by}
use Rattle.std.specs.Prelude.{bytes_eq, codes}
use Rattle.sync_data.specs.Payload.{payload}
use Rattle.sync_data.specs.declared.key.KeyKind.TheVariants as key_kinds
use Rattle.sync_data.specs.declared.column.Kind.TheVariants as kinds
use Rattle.sync_data.specs.declared.column.Shape.TheVariants as shapes
use Rattle.sync_data.specs.declared.instr.Instr.{Instr}
use Rattle.sync_data.specs.declared.instr.Instr.TheVariants as instrs
use Rattle.sync_codec.specs.Spelling.{instr_fields}
use Rattle.sync_model.specs.Bytes.{Name}
use Rattle.sync_model.specs.Clients.{client_of}
use Rattle.sync_model.specs.Each.{no_more}
use Rattle.sync_model.specs.Harmless.{IsHarmlessClient}
use Rattle.sync_model.specs.Log.{ids}
use Rattle.sync_model.specs.Progress.{made_by_all}
use Rattle.sync_model.specs.Worlds.{Event, IsReached, Node, Stop, World, arm, at, empty_world, has_name, is_own, server_name}
use Rattle.sync_model.proofs.Reached.{reached_first, reached_step}
use Rattle.sync_exchange.specs.Profile.{the_profile, weight}
use Rattle.sync_exchange.specs.Whole.{are_strings, has_fields, strings_in}
use Rattle.sync_gen.specs.Clients.{add_column, first_edits_of, id_of, name_of}
use Rattle.sync_gen.specs.Edits.{table}
use Rattle.gen_law.specs.declared.plan.Move.TheVariants as moves
use Rattle.gen_law.specs.Generated.{after, joined, world_by}
use Rattle.gen_law.specs.Plans.{AreClients, clients}
use Rattle.gen_law.proofs.Edits.{one_name, three_names, two_names, whole}
use Rattle.gen_law.proofs.Eight.{Good, Lasts, good_made}
use Rattle.gen_law.proofs.Harmless.{definitions_drawn, is_drawn}
use Rattle.gen_law.proofs.Joined.{disarmed, join, join1, join2, join3, join4, join5, join6, join7, join8, name_at, name_is, node, stops_of, with_clients}
use Rattle.gen_law.proofs.Parts.{step, steps}

-- ---- the first changes

abbrev add_table : Instr
add_table = instrs.AddTable (record { table = table; key = key_kinds.Int })

abbrev column_n : Instr
column_n = add_column (codes "n") kinds.Int false shapes.One

abbrev column_m : Instr
column_m = add_column (codes "m") kinds.Int true shapes.One

abbrev column_s : Instr
column_s = add_column (codes "s") kinds.Text true shapes.One

abbrev column_l : Instr
column_l = add_column (codes "l") kinds.Text false shapes.List

abbrev column_u : Instr
column_u = add_column (codes "u") kinds.Int false shapes.Set

abbrev column_k : Instr
column_k = add_column (codes "k") (kinds.Link table) true shapes.One

is_light : (i : Instr) → payload i ≤ 3 → has_fields i ≡ true → are_strings (strings_in i) ≡ true → weight i ≤ 3
is_light i le fields strings = let e = ap (λ b. if b then payload i else 4194305) (whole i fields strings) in omega (arith, le, e)

table_light : weight add_table ≤ 3
unfolding instr_fields
table_light = is_light add_table (omega arith) refl one_name

light_n : weight column_n ≤ 3
unfolding instr_fields
light_n = is_light column_n (omega arith) refl (two_names 110 (omega arith))

light_m : weight column_m ≤ 3
unfolding instr_fields
light_m = is_light column_m (omega arith) refl (two_names 109 (omega arith))

light_s : weight column_s ≤ 3
unfolding instr_fields
light_s = is_light column_s (omega arith) refl (two_names 115 (omega arith))

light_l : weight column_l ≤ 3
unfolding instr_fields
light_l = is_light column_l (omega arith) refl (two_names 108 (omega arith))

light_u : weight column_u ≤ 3
unfolding instr_fields
light_u = is_light column_u (omega arith) refl (two_names 117 (omega arith))

light_k : weight column_k ≤ 3
unfolding instr_fields
light_k = is_light column_k (omega arith) refl (three_names 107 (omega arith))

pub first_weight : sum_by weight first_edits_of ≤ 200
first_weight = omega (arith, table_light, light_n, light_m, light_s, light_l, light_u, light_k)

pub first_drawn : is_drawn 1 0 first_edits_of ≡ true
first_drawn = definitions_drawn first_edits_of (omega arith) first_weight ((tt, refl), ((tt, refl), ((tt, refl), ((tt, refl), ((tt, refl), ((tt, refl), ((tt, refl), tt)))))))

-- ---- all have joined

reached_by : (es : List (Event Instr)) (w : World) → IsReached the_profile w → IsReached the_profile (world_by w es)
unfolding after
reached_by [] w r = r
reached_by (e ∷ es) w r = reached_by es (after w e) (reached_step the_profile w e r)

reached_join : (c : ℕ) (w v : World) → join c w ≡ v → IsReached the_profile w → IsReached the_profile v
reached_join c w v e r = subst (IsReached the_profile) e (reached_by (joined (name_at c) (Event.Joins (name_at c) (id_of c)) w) w r)

reached_all : IsReached the_profile (with_clients clients)
reached_all = reached_join 8 _ _ join8 (reached_join 7 _ _ join7 (reached_join 6 _ _ join6 (reached_join 5 _ _ join5 (reached_join 4 _ _ join4 (reached_join 3 _ _ join3 (reached_join 2 _ _ join2 (reached_join 1 _ _ join1 (reached_first the_profile))))))))

arm_none : (name : Name) (stops : Name → Option Stop) (x : Name) → stops x ≡ None → arm name None stops x ≡ None
arm_none name stops x e = on (bytes_eq x name)
  where
    on : (b : Bool) → (if b then None else stops x) ≡ None
    on true = refl
    on false = e

unarmed : (cs : List ℕ) (stops : Name → Option Stop) → ((x : Name) → stops x ≡ None) → (x : Name) → stops_of cs stops x ≡ None
unarmed [] stops none x = none x
unarmed (c ∷ cs) stops none x =
    unarmed cs (disarmed c stops) (λ y. arm_none (name_at c) (arm server_name None (arm (name_at c) None stops)) y (arm_none server_name (arm (name_at c) None stops) y (arm_none (name_at c) stops y (none y)))) x

names_are : (cs : List ℕ) → AreClients cs → map (λ (nd : Node). nd.name) (map node cs) ≡ map name_of cs
names_are [] are = refl
names_are (c ∷ cs) are = let le = are.0.1 in ap₂ (λ n ns. n ∷ ns) (sym (name_is c (omega arith))) (names_are cs are.1)

some_same : {A : Type 0} (x y : A) → Some x ≡ Some y → x ≡ y
some_same x y e = cc

-- what holds of each of the eight
each_node : (P : Node → Type 0) → ((c : ℕ) → c ≢ 0 → P (node c)) → (i : ℕ) (nd : Node) → at (with_clients clients).clients i ≡ Some nd → P nd
each_node P all zero nd here = subst P (some_same (node 1) nd here) (all 1 (λ z. absurd (omega arith)))
each_node P all (suc zero) nd here = subst P (some_same (node 2) nd here) (all 2 (λ z. absurd (omega arith)))
each_node P all (suc (suc zero)) nd here = subst P (some_same (node 3) nd here) (all 3 (λ z. absurd (omega arith)))
each_node P all (suc (suc (suc zero))) nd here = subst P (some_same (node 4) nd here) (all 4 (λ z. absurd (omega arith)))
each_node P all (suc (suc (suc (suc zero)))) nd here = subst P (some_same (node 5) nd here) (all 5 (λ z. absurd (omega arith)))
each_node P all (suc (suc (suc (suc (suc zero))))) nd here = subst P (some_same (node 6) nd here) (all 6 (λ z. absurd (omega arith)))
each_node P all (suc (suc (suc (suc (suc (suc zero)))))) nd here = subst P (some_same (node 7) nd here) (all 7 (λ z. absurd (omega arith)))
each_node P all (suc (suc (suc (suc (suc (suc (suc zero))))))) nd here = subst P (some_same (node 8) nd here) (all 8 (λ z. absurd (omega arith)))
each_node P all (suc (suc (suc (suc (suc (suc (suc (suc i)))))))) nd here = cc

-- each ident is a client's
all_own : (c : ℕ) → c ≢ 0 → c ≤ length (ids the_profile (with_clients clients)) → is_own the_profile (with_clients clients) c ≡ true
all_own zero ne le = absurd (ne refl)
all_own (suc zero) ne le = refl
all_own (suc (suc zero)) ne le = refl
all_own (suc (suc (suc zero))) ne le = refl
all_own (suc (suc (suc (suc zero)))) ne le = refl
all_own (suc (suc (suc (suc (suc zero))))) ne le = refl
all_own (suc (suc (suc (suc (suc (suc zero)))))) ne le = refl
all_own (suc (suc (suc (suc (suc (suc (suc zero))))))) ne le = refl
all_own (suc (suc (suc (suc (suc (suc (suc (suc zero)))))))) ne le = refl
all_own (suc (suc (suc (suc (suc (suc (suc (suc (suc c))))))))) ne le = let e : length (ids the_profile (with_clients clients)) ≡ 8 = refl in absurd (omega arith)

pub good_joined : AreClients clients → Good 0 (with_clients clients)
good_joined are = record {
  reached = reached_all;
  harmless = record {
    unarmed = unarmed clients (λ name. None) (λ name. refl);
    own = all_own;
    clients = each_node (IsHarmlessClient the_profile (λ c n is. is_drawn c n is ≡ true)) (λ c ne. record { named = ne; tables = refl; made = no_more });
    few = let e : made_by_all the_profile (with_clients clients).clients ≡ 0 = refl in omega arith;
  };
  names = names_are clients are;
}

-- ---- the first parts of a plan

pub join_step : (c : ℕ) → c < 10 → (w v : World) → join c w ≡ v → (x : ℕ) → step (moves.Join c) (w, x) ≡ (v, x)
join_step c lt w v e x = ap (λ n. (world_by w (joined n (Event.Joins n (id_of c)) w), x)) (name_is c lt) ∙ ap (λ u. (u, x)) e

next : (c : ℕ) → c < 10 → (cs : List ℕ) (w v : World) → join c w ≡ v → (x : ℕ) (r : World × ℕ) → steps (map moves.Join cs) (v, x) ≡ r → steps (map moves.Join (c ∷ cs)) (w, x) ≡ r
next c lt cs w v e x r f = ap (steps (map moves.Join cs)) (join_step c lt w v e x) ∙ f

pub join_steps : (x : ℕ) → steps (map moves.Join clients) (empty_world, x) ≡ (with_clients clients, x)
join_steps x =
    next 1 (omega arith) (2 ∷ 3 ∷ 4 ∷ 5 ∷ 6 ∷ 7 ∷ 8 ∷ []) _ _ join1 x _ (
    next 2 (omega arith) (3 ∷ 4 ∷ 5 ∷ 6 ∷ 7 ∷ 8 ∷ []) _ _ join2 x _ (
    next 3 (omega arith) (4 ∷ 5 ∷ 6 ∷ 7 ∷ 8 ∷ []) _ _ join3 x _ (
    next 4 (omega arith) (5 ∷ 6 ∷ 7 ∷ 8 ∷ []) _ _ join4 x _ (
    next 5 (omega arith) (6 ∷ 7 ∷ 8 ∷ []) _ _ join5 x _ (
    next 6 (omega arith) (7 ∷ 8 ∷ []) _ _ join6 x _ (
    next 7 (omega arith) (8 ∷ []) _ _ join7 x _ (
    next 8 (omega arith) [] _ _ join8 x _ (
    refl))))))))

-- only the first is called so
first_of_all : (i : ℕ) (nd : Node) → at (with_clients clients).clients i ≡ Some nd → has_name (name_at 1) nd ≡ true → is_drawn (client_of the_profile nd.records).ident 0 first_edits_of ≡ true
first_of_all zero nd here named = subst (λ (x : Node). is_drawn (client_of the_profile x.records).ident 0 first_edits_of ≡ true) (some_same (node 1) nd here) first_drawn
first_of_all (suc zero) nd here named = let no : has_name (name_at 1) (node 2) ≡ true = subst (λ x. has_name (name_at 1) x ≡ true) (sym (some_same (node 2) nd here)) named in cc
first_of_all (suc (suc zero)) nd here named = let no : has_name (name_at 1) (node 3) ≡ true = subst (λ x. has_name (name_at 1) x ≡ true) (sym (some_same (node 3) nd here)) named in cc
first_of_all (suc (suc (suc zero))) nd here named = let no : has_name (name_at 1) (node 4) ≡ true = subst (λ x. has_name (name_at 1) x ≡ true) (sym (some_same (node 4) nd here)) named in cc
first_of_all (suc (suc (suc (suc zero)))) nd here named = let no : has_name (name_at 1) (node 5) ≡ true = subst (λ x. has_name (name_at 1) x ≡ true) (sym (some_same (node 5) nd here)) named in cc
first_of_all (suc (suc (suc (suc (suc zero))))) nd here named = let no : has_name (name_at 1) (node 6) ≡ true = subst (λ x. has_name (name_at 1) x ≡ true) (sym (some_same (node 6) nd here)) named in cc
first_of_all (suc (suc (suc (suc (suc (suc zero)))))) nd here named = let no : has_name (name_at 1) (node 7) ≡ true = subst (λ x. has_name (name_at 1) x ≡ true) (sym (some_same (node 7) nd here)) named in cc
first_of_all (suc (suc (suc (suc (suc (suc (suc zero))))))) nd here named = let no : has_name (name_at 1) (node 8) ≡ true = subst (λ x. has_name (name_at 1) x ≡ true) (sym (some_same (node 8) nd here)) named in cc
first_of_all (suc (suc (suc (suc (suc (suc (suc (suc i)))))))) nd here named = cc

pub good_found : Lasts → AreClients clients → (x : ℕ) → Good 1 (step moves.Found (with_clients clients, x)).0
good_found lasts are x =
    subst (λ n. Good n (after (with_clients clients) (Event.Edits (name_of 1) 1 first_edits_of))) (omega arith)
    (good_made lasts 0 (with_clients clients) (Event.Edits (name_of 1) 1 first_edits_of) (good_joined are)
    (λ i nd here named. first_of_all i nd here (ap (λ n. has_name n nd) (sym (name_is 1 (omega arith))) ∙ named)))
