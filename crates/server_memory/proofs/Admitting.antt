-- Records that a server would have written next, by what it keeps.
use Rattle.std.proofs.Common.{◌≡◌, ℕ, zero, suc, Bool, true, false, not, ◌&&◌, List, [], ◌∷◌, length, map, Option, Some, None, Ok, Err, if◌then◌else◌, refl, ap, ◌∙◌, sym, ◌==◌, eqb-true, nat_lt, nat_le, arith}
use Rattle.std.proofs.lemmas.Bool.{eq-eqb}
use Rattle.std.specs.Option.{is_some}
use Rattle.sync_data.specs.declared.instr.Instr.{Instr}
use Rattle.sync_base.specs.States.{State}
use Rattle.sync_model.specs.Bytes.{Uuid}
use Rattle.sync_model.specs.Messages.{Change, Message}
use Rattle.sync_model.specs.Parts.{Given, Parts, Served, admits_entry, admits_mark, admits_part, admits_retired, after_change, after_entry, as_before, at_ident, bound, is_integrated, is_newer, merge_by, retire_as, retire_by, retired_for}
use Rattle.sync_model.specs.Servers.{Entry, RetiredBy, SelfRetire, ServerRecord, ServerRefusal, is_retired, place_of, refuses, replies}
use Rattle.sync_exchange.specs.Profile.{the_profile, unspell}
use Rattle.server_memory.specs.Integrating.{found}
use Rattle.server_memory.specs.Kept.{parts}
use Rattle.server_memory.specs.Merging.{Merges}
use Rattle.server_memory.specs.Opening.{Admits, Admitted}
use Rattle.server_memory.specs.Retiring.{Retires, RetiresAs, retiring}
use Rattle.server_memory.specs.declared.kept.Kept.{Kept}
use Rattle.server_memory.specs.declared.refusal.Refusal.{Refusal}
use Rattle.server_memory.specs.declared.retiring.Retirement.{Retirement}

pub differ : (a b : ℕ) → ¬ (a ≡ b) → (a == b) ≡ false
differ a b h = go (a == b) refl
  where
    go : (t : Bool) → (a == b) ≡ t → t ≡ false
    go true e = absurd (h (eqb-true a b e))
    go false e = refl

never : (a : Bool) → (a && false) ≡ false
never true = refl
never false = refl

-- ---- a uuid
found_some : (n : ℕ) → is_some (found n) ≡ true → (n == 0) ≡ false
found_some zero e = cc
found_some (suc n) e = differ (suc n) 0 (λ f. absurd (omega (arith, f)))

found_none : (n : ℕ) → is_some (found n) ≡ false → (n == 0) ≡ true
found_none zero e = refl
found_none (suc n) e = cc

abbrev uuids : Kept → List Uuid
uuids kept = map (λ (g : Given Instr). g.uuid) kept.history.idents

pub client_known : (kept : Kept) (id : Uuid) → is_some (found (place_of id (uuids kept))) ≡ true → admits_part the_profile (parts kept) (ServerRecord.Client id) ≡ false
client_known kept id known = ap (λ b. b && not (length kept.history.idents == 4294967295)) (found_some (place_of id (uuids kept)) known)

pub client_full : (kept : Kept) (id : Uuid) → length kept.history.idents ≡ 4294967295 → admits_part the_profile (parts kept) (ServerRecord.Client id) ≡ false
client_full kept id full = ap (λ b. (place_of id (uuids kept) == 0) && not b) (eq-eqb _ _ full) ∙ never (place_of id (uuids kept) == 0)

pub client_admitted : (old new : Kept) (id : Uuid) → is_some (found (place_of id (uuids old))) ≡ false → ¬ (length old.history.idents ≡ 4294967295) → parts new ≡ bound (parts old) id → Admitted old new (ServerRecord.Client id)
client_admitted old new id none room after = record {
  admitted = ap (λ b. b && not (length old.history.idents == 4294967295)) (found_none _ none) ∙ ap not (differ _ _ room);
  kept = after;
}

-- ---- an ident that is retired
no_record : (kept : Parts Instr State) (c by : ℕ) (o q : Option (Given Instr)) → (retire_by kept c by o q).records ≡ [] → admits_retired the_profile c by o q ≡ false
no_record kept c by None q e = refl
no_record kept c by (Some g) None e = refl
no_record kept c by (Some g) (Some h) e = on (c == by) g.heir e
  where
    on : (t : Bool) (o : Option ℕ) → (if t then as_before kept (refuses by 0 (SelfRetire c)) else retire_as kept c by g.count o).records ≡ [] → (not t && not (is_retired o)) ≡ false
    on true o f = refl
    on false None f = cc
    on false (Some other) f = refl

one_record : (kept : Parts Instr State) (c by : ℕ) (o q : Option (Given Instr)) → (retire_by kept c by o q).records ≡ ServerRecord.Retired c by ∷ [] → admits_retired the_profile c by o q ≡ true
one_record kept c by None q e = cc
one_record kept c by (Some g) None e = cc
one_record kept c by (Some g) (Some h) e = on (c == by) g.heir e
  where
    on : (t : Bool) (o : Option ℕ) → (if t then as_before kept (refuses by 0 (SelfRetire c)) else retire_as kept c by g.count o).records ≡ ServerRecord.Retired c by ∷ [] → (not t && not (is_retired o)) ≡ true
    on true o f = cc
    on false None f = refl
    on false (Some other) f = absurd (known (other == by) f)
      where
        known : (t : Bool) → (as_before kept (if t then replies (Message.Retired c by g.count) else refuses by 0 (RetiredBy other))).records ≡ ServerRecord.Retired c by ∷ [] → ⊥
        known true f = cc
        known false f = cc

-- an ident that is retired now has one record
pub retired_records : (kept : Parts Instr State) (c by : ℕ) (r : Retirement) → r.is_new ≡ true → Retires (Ok r) kept c by → (retiring kept c by).records ≡ ServerRecord.Retired c by ∷ []
retired_records kept c by r fresh e = on r.is_new fresh e
  where
    on : (t : Bool) → t ≡ true → RetiresAs t r.number kept c by → (retiring kept c by).records ≡ ServerRecord.Retired c by ∷ []
    on false f g = cc
    on true f g = ap (λ (d : Served Instr State). d.records) g

pub retired_refused : (kept : Kept) (c by : ℕ) (why : Refusal) → Retires (Err why) (parts kept) c by → admits_part the_profile (parts kept) (ServerRecord.Retired c by) ≡ false
retired_refused kept c by why e = no_record (parts kept) c by (at_ident c kept.history.idents) (at_ident by kept.history.idents) (ap (λ (d : Served Instr State). d.records) e)

pub retired_known : (kept : Kept) (c by : ℕ) (r : Retirement) → r.is_new ≡ false → Retires (Ok r) (parts kept) c by → admits_part the_profile (parts kept) (ServerRecord.Retired c by) ≡ false
retired_known kept c by r old e = on r.is_new old e
  where
    on : (t : Bool) → t ≡ false → RetiresAs t r.number (parts kept) c by → admits_part the_profile (parts kept) (ServerRecord.Retired c by) ≡ false
    on true f g = cc
    on false f g = no_record (parts kept) c by (at_ident c kept.history.idents) (at_ident by kept.history.idents) (ap (λ (d : Served Instr State). d.records) g)

pub retired_admitted : (old new : Kept) (c by : ℕ) (r : Retirement) → r.is_new ≡ true → Retires (Ok r) (parts old) c by → parts new ≡ retired_for (parts old) c by → Admitted old new (ServerRecord.Retired c by)
retired_admitted old new c by r fresh e after = on r.is_new fresh e
  where
    on : (t : Bool) → t ≡ true → RetiresAs t r.number (parts old) c by → Admitted old new (ServerRecord.Retired c by)
    on false f g = cc
    on true f g = record {
      admitted = one_record (parts old) c by (at_ident c old.history.idents) (at_ident by old.history.idents) (ap (λ (d : Served Instr State). d.records) g);
      kept = after;
    }

-- ---- a settled number
pub mark_unknown : (kept : Kept) (c n : ℕ) → at_ident c kept.history.idents ≡ None → admits_part the_profile (parts kept) (ServerRecord.Settled c n) ≡ false
mark_unknown kept c n none = ap (admits_mark the_profile (parts kept) n) none

pub mark_says : (kept : Kept) (c n : ℕ) (g : Given Instr) (a b : Bool) → at_ident c kept.history.idents ≡ Some g → nat_lt g.mark n ≡ a → nat_le n (parts kept).len ≡ b → admits_part the_profile (parts kept) (ServerRecord.Settled c n) ≡ (a && b)
mark_says kept c n g a b is ea eb = ap (admits_mark the_profile (parts kept) n) is ∙ (λ i. ea i && eb i)

-- ---- a change
pub change_unknown : (kept : Kept) (c : ℕ) (h : Change) → at_ident c kept.history.idents ≡ None → admits_part the_profile (parts kept) (Entry c h.number h.base h.ms h.body) ≡ false
change_unknown kept c h none = ap (admits_entry the_profile (parts kept) c h) none

pub change_skips : (kept : Kept) (c : ℕ) (g : Given Instr) (h : Change) → at_ident c kept.history.idents ≡ Some g → ¬ (h.number ≡ suc g.count) → admits_part the_profile (parts kept) (Entry c h.number h.base h.ms h.body) ≡ false
change_skips kept c g h is other =
    ap (admits_entry the_profile (parts kept) c h) is
    ∙ ap (λ b. b && (not (is_newer the_profile (unspell h.body) && not kept.history.second) && is_integrated (merge_by the_profile (parts kept) c g h))) (differ h.number (suc g.count) other)

pub change_says : (old new : Kept) (c : ℕ) (g : Given Instr) (h : Change) (form : Bool) → at_ident c old.history.idents ≡ Some g → h.number ≡ suc g.count
    → Merges (Ok form) (merge_by the_profile (parts old) c g h) c h (parts old) (parts new) → form ≡ (is_newer the_profile (unspell h.body) && not old.history.second)
    → Admits old new (Entry c h.number h.base h.ms h.body) (Ok (not form))
change_says old new c g h false is next merges form = record {
  admitted =
      ap (admits_entry the_profile (parts old) c h) is
      ∙ ap (λ b. b && (not (is_newer the_profile (unspell h.body) && not old.history.second) && is_integrated (merge_by the_profile (parts old) c g h))) (eq-eqb _ _ next)
      ∙ ap (λ b. not b && is_integrated (merge_by the_profile (parts old) c g h)) (sym form)
      ∙ ap is_integrated merges;
  kept = sym (ap (after_entry the_profile (parts old) c h) is ∙ ap (after_change (parts old)) merges);
}
change_says old new c g h true is next merges form =
    ap (admits_entry the_profile (parts old) c h) is
    ∙ ap (λ b. (h.number == suc g.count) && (not b && is_integrated (merge_by the_profile (parts old) c g h))) (sym form)
    ∙ never (h.number == suc g.count)

pub change_refused : (old : Kept) (c : ℕ) (g : Given Instr) (h : Change) (why : ServerRefusal) → at_ident c old.history.idents ≡ Some g → merge_by the_profile (parts old) c g h ≡ Err why → admits_part the_profile (parts old) (Entry c h.number h.base h.ms h.body) ≡ false
change_refused old c g h why is refused =
    ap (admits_entry the_profile (parts old) c h) is
    ∙ ap (λ r. (h.number == suc g.count) && (not (is_newer the_profile (unspell h.body) && not old.history.second) && is_integrated r)) refused
    ∙ ap (λ b. (h.number == suc g.count) && b) (never (not (is_newer the_profile (unspell h.body) && not old.history.second)))
    ∙ never (h.number == suc g.count)
