-- Idents and the places of their uuids.
use Rattle.std.proofs.Common.{◌≡◌, ℕ, zero, suc, ◌+◌, ◌-◌, ◌<◌, true, false, List, [], ◌∷◌, length, get_or, map, drop, Some, None, if◌then◌else◌, refl, sym, ap, ◌∙◌, subst, arith, add-one, drop-cons}
use Rattle.std.specs.Prelude.{bytes_eq, slice_get}
use Rattle.sync_data.specs.declared.instr.Instr.{Instr}
use Rattle.sync_model.specs.Bytes.{Uuid}
use Rattle.std.proofs.lemmas.Bool.{ne_eqb}
use Rattle.sync_model.specs.Messages.{Message}
use Rattle.sync_model.specs.Profile.{Profile}
use Rattle.sync_model.specs.Parts.{Given, Parts, as_before, at_ident, bind_by, bound}
use Rattle.sync_model.specs.Servers.{Client, IdentsFull, place_of, one_on, refuses}
use Rattle.sync_model.specs.Worlds.{at}
use Rattle.server_memory.specs.Integrating.{found}

-- a place behind so many others
abbrev pub behind : ℕ → ℕ → ℕ
behind k zero = 0
behind k (suc n) = k + suc n

abbrev pub place_in : Uuid → List (Given Instr) → ℕ
place_in u gs = place_of u (map (λ g. g.uuid) gs)

pub behind_none : (n : ℕ) → n ≡ behind 0 n
behind_none zero = refl
behind_none (suc n) = let e : suc n ≡ 0 + suc n = omega arith in e

behind_one : (k n : ℕ) → behind k (one_on n) ≡ behind (k + 1) n
behind_one k zero = refl
behind_one k (suc n) = let e : k + suc (suc n) ≡ k + 1 + suc n = omega arith in e

-- the first isn't it
pub behind_next : (u : Uuid) (k : ℕ) (gs : List (Given Instr)) (g : Given Instr) (n : ℕ) → k < length gs → bytes_eq u (get_or gs k g).uuid ≡ false → n ≡ behind k (place_in u (drop k gs)) → n ≡ behind (k + 1) (place_in u (drop (k + 1) gs))
behind_next u k gs g n h miss was =
    let next : drop k gs ≡ get_or gs k g ∷ drop (k + 1) gs = rw (add-one, drop-cons gs k g) in
    was ∙ ap (λ l. behind k (place_in u l)) next ∙ ap (λ b. behind k (if b then 1 else one_on (place_in u (drop (k + 1) gs)))) miss ∙ behind_one k (place_in u (drop (k + 1) gs))

-- the first is it
pub behind_here : (u : Uuid) (k : ℕ) (gs : List (Given Instr)) (g : Given Instr) (n : ℕ) → k < length gs → bytes_eq u (get_or gs k g).uuid ≡ true → n ≡ behind k (place_in u (drop k gs)) → n ≡ k + 1
behind_here u k gs g n h hit was =
    let next : drop k gs ≡ get_or gs k g ∷ drop (k + 1) gs = rw (add-one, drop-cons gs k g) in
    was ∙ ap (λ l. behind k (place_in u l)) next ∙ ap (λ b. behind k (if b then 1 else one_on (place_in u (drop (k + 1) gs)))) hit

-- ---- an ident that is given
pub record IsAt (c : ℕ) (gs : List (Given Instr)) (g : Given Instr) : Type 0 where
  pub positive : c ≡ suc (c - 1)
  pub within : c - 1 < length gs
  pub here : (d : Given Instr) → g ≡ get_or gs (c - 1) d

at_is : (k : ℕ) (gs : List (Given Instr)) (g : Given Instr) → at gs k ≡ Some g → (k < length gs) × ((d : Given Instr) → g ≡ get_or gs k d)
at_is k [] g e = cc
at_is zero (a ∷ gs) g e = (omega arith, λ d. cc)
at_is (suc k) (a ∷ gs) g e = let r = at_is k gs g e in (omega (arith, r.0), r.1)

pub is_at : (c : ℕ) (gs : List (Given Instr)) (g : Given Instr) → at_ident c gs ≡ Some g → IsAt c gs g
is_at zero gs g e = cc
is_at (suc k) gs g e =
    let less : suc k - 1 ≡ k = omega arith in
    let r = at_is k gs g e in
    record {
      positive = ap suc (sym less);
      within = subst (λ n. n < length gs) (sym less) r.0;
      here = λ d. r.1 d ∙ ap (λ n. get_or gs n d) (sym less);
    }

pub at_get : {A : Type 0} (gs : List A) (k : ℕ) → slice_get gs k ≡ at gs k
at_get [] k = refl
at_get (g ∷ gs) zero = refl
at_get (g ∷ gs) (suc k) = at_get gs k

-- a new uuid has one record
pub bind_records : {S : Type 0} (p : Profile Instr S) (kept : Parts Instr S) (u : Uuid) (place : ℕ) → found place ≡ None → (length kept.idents ≡ p.full → ⊥) → (bind_by p kept u place).records ≡ Client u ∷ []
bind_records p kept u (suc n) e ne = cc
bind_records p kept u zero e ne = ap (λ b. (if b then as_before kept (refuses 0 0 (IdentsFull (length kept.idents))) else record { records = Client u ∷ []; answer = Message.Ident u (suc (length kept.idents)); parts = bound kept u }).records) (ne_eqb (length kept.idents) p.full ne)
