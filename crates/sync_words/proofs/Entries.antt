-- The lines of a history, entry by entry.
use Rattle.std.proofs.Common.{◌≡◌, ℕ, zero, suc, ◌+◌, ◌-◌, ◌<◌, ◌≤◌, false, nat_lt, if◌then◌else◌, ◌++◌, List, [], ◌∷◌, Some, None, drop, length, slice_get, ap, sym, ◌∙◌, arith, add-one, append_assoc, append-nil}
use Rattle.std.proofs.lemmas.Bool.Decides.{nat_tests}
use Rattle.sync_data.specs.declared.instr.Instr.{Instr}
use Rattle.sync_theory.specs.Changesets.{Changeset}
use Rattle.std.specs.Prelude.{codes}
use Rattle.sync_base.specs.States.{State}
use Rattle.sync_dump.specs.Dump.{dump}
use Rattle.sync_model.specs.Parts.{Parts, parts_of}
use Rattle.sync_model.specs.Servers.{Server, entries_from, server_objects}
use Rattle.sync_exchange.specs.Profile.{the_profile}
use Rattle.server_memory.specs.Kept.{parts}
use Rattle.server_memory.specs.Readers.{item_from}
use Rattle.server_memory.specs.declared.kept.Kept.{Kept}
use Rattle.sync_words.specs.Reports.{entries_text, entry_text, kept_text, server_text}
use Rattle.sync_words.specs.Words.{said}

some_of : {A : Type 0} {x y : A} → Some x ≡ Some y → x ≡ y
some_of e = cc

rest_from : {X : Type 0} (xs : List X) (k : ℕ) (x : X) → slice_get xs k ≡ Some x → drop k xs ≡ x ∷ drop (suc k) xs
rest_from [] k x e = cc
rest_from (y ∷ ys) zero x e = ap (λ z. z ∷ ys) (some_of e)
rest_from (y ∷ ys) (suc k) x e = rest_from ys k x e

-- each version below the length has an entry
pub no_gap : {X : Type 0} (xs : List X) (k : ℕ) → slice_get xs k ≡ None → k < length xs → ⊥
no_gap [] k e h = omega (arith, h)
no_gap (y ∷ ys) zero e h = cc
no_gap (y ∷ ys) (suc k) e h = no_gap ys k e (omega (arith, h))

-- the entry of a version is put behind those before it, where the first is of a floor
pub one_put : (all : List (Changeset Instr)) (f v : ℕ) (e : Changeset Instr) (out now whole : List ℕ) → f ≤ v → slice_get all (v - f) ≡ Some e → now ≡ out ++ entry_text v e
    → out ++ entries_text v (drop (v - f) all) ≡ whole → now ++ entries_text (v + 1) (drop (v + 1 - f) all) ≡ whole
one_put all f v e out now whole le at is was =
    let step : suc (v - f) ≡ v + 1 - f = omega (arith, le) in
    ap (λ l. l ++ entries_text (v + 1) (drop (v + 1 - f) all)) is
    ∙ append_assoc out (entry_text v e) (entries_text (v + 1) (drop (v + 1 - f) all))
    ∙ ap (λ n. out ++ (entry_text v e ++ entries_text n (drop (v + 1 - f) all))) (add-one v)
    ∙ ap (λ n. out ++ (entry_text v e ++ entries_text (suc v) (drop n all))) (sym step)
    ∙ ap (λ l. out ++ entries_text v l) (sym (rest_from all (v - f) e at))
    ∙ was

-- a version from the floor on has its place
pub item_is : {X : Type 0} (f v : ℕ) (xs : List X) → f ≤ v → item_from f xs v ≡ slice_get xs (v - f)
item_is f v xs le = ap (λ b. if b then None else slice_get xs (v - f)) (let e : nat_lt v f ≡ false = grind (arith, nat_tests) in e)

-- of a server with its whole history the report tells all entries and its objects
pub kept_is : (k : Kept) (s : Server Instr) → parts k ≡ parts_of the_profile s → kept_text (parts k) ≡ server_text (entries_from the_profile s.log (length s.log) 0) (server_objects the_profile s)
kept_is k s same =
    let es = entries_from the_profile s.log (length s.log) 0 in
    let len : (parts k).len ≡ length s.log = ap (λ (x : Parts Instr State). x.len) same in
    let floor : k.history.floor ≡ 0 = ap (λ (x : Parts Instr State). x.floor) same in
    let entries : length k.history.entries ≡ length es = ap (λ (x : Parts Instr State). length x.entries) same in
    let long : length s.log ≡ length es = omega (arith, len, floor, entries) in
    let tail = entries_text 0 es in
    let end = dump (server_objects the_profile s) in
    ap kept_text same
    ∙ ap (λ l. l ++ tail ++ end) (append-nil (said (codes "server") (length s.log ∷ []) ++ codes "\n"))
    ∙ ap (λ n. said (codes "server") (n ∷ []) ++ codes "\n" ++ tail ++ end) long
