-- Instructions within the limits act as the model has them act, break by break.
use Rattle.std.proofs.Common.{◌≡◌, ℕ, suc, ◌<◌, Bool, true, false, not, List, [], ◌∷◌, length, Option, None, Some, Result, Ok, Err, refl, ap, subst, arith, if◌then◌else◌, nat_lt, nat_le}
use Rattle.std.proofs.lemmas.Bool.{ltb-false, le-leb}
use Rattle.std.specs.Option.{option_and_then, option_map}
use Rattle.std.specs.List.{AllByRecursion}
use Rattle.sync_data.specs.declared.instr.Instr.{Instr}
use Rattle.sync_data.specs.declared.instr.Instr.TheVariants as instrs
use Rattle.sync_base.specs.declared.answers.Break.{Break}
use Rattle.sync_base.specs.Codes.{break_code}
use Rattle.sync_base.specs.States.{State}
use Rattle.sync_base.specs.After.{after}
use Rattle.sync_base.specs.Effects.{effect_of, is_effect}
use Rattle.sync_base.specs.Checks.{AllPlaced, act_all, break_at, break_of, unbroken}
use Rattle.sync_law.specs.Coded.{state_or_code}
use Rattle.sync_codec.specs.Valid.{IsInstr}
use Rattle.sync_model.specs.Profile.{apply_all, apply_then, one_more}
use Rattle.sync_exchange.specs.Profile.{fits_changeset, the_profile}
use Rattle.sync_exchange.specs.Lemmas.Lawful.{small_instrs}

gap : (a b : ℕ) (t : Bool) → nat_lt b a ≡ t → not t ≡ true → nat_le a b ≡ true
gap a b true is e = cc
gap a b false is e = le-leb a b (ltb-false b a is)

placed : (i : Instr) → IsInstr i → is_effect (effect_of i) ≡ true
placed (instrs.AddTable i) h = refl
placed (instrs.AddColumn i) h = refl
placed (instrs.CreateObject i) h = refl
placed (instrs.EraseObject i) h = refl
placed (instrs.Update i) h = refl
placed (instrs.AddInteger i) h = refl
placed (instrs.ListUpdate i) h = h.1.2
placed (instrs.ListInsert i) h = gap i.spot.place i.spot.prior (nat_lt i.spot.prior i.spot.place) refl h.1.2
placed (instrs.ListErase i) h = h.1.2
placed (instrs.SetInsert i) h = refl
placed (instrs.SetErase i) h = refl
placed (instrs.DictUpdate i) h = refl
placed (instrs.Clear i) h = refl

all_placed : (is : List Instr) → AllByRecursion IsInstr is → AllPlaced is
all_placed [] h = tt
all_placed (i ∷ is) h = (placed i h.0, all_placed is h.1)

pub small_placed : (is : List Instr) → fits_changeset is ≡ true → AllPlaced is
small_placed is e = all_placed is (small_instrs is e).each

same_state : {x y : State} → ◌≡◌ {A = Option State} (Some x) (Some y) → x ≡ y
same_state e = cc

-- what acts is applied
pub applied : (is : List Instr) (s t : State) → AllPlaced is → act_all is s ≡ Some t → apply_all the_profile is s ≡ Ok t
applied [] s t p e = ap Ok (same_state e)
applied (i ∷ is) s t p e = on (is_effect (effect_of i)) (break_of s (effect_of i)) (after s (effect_of i)) p.0 e (λ u f. applied is u t p.1 f)
  where
    on : (b : Bool) (o : Option Break) (u : State) → b ≡ true → option_and_then (act_all is) (if b then unbroken o u else None) ≡ Some t → ((u : State) → act_all is u ≡ Some t → apply_all the_profile is u ≡ Ok t)
        → apply_then (if b then state_or_code o u else Err 23) (apply_all the_profile is) ≡ Ok t
    on false o u f e rest = cc
    on true (Some b) u f e rest = cc
    on true None u f e rest = ap one_more (rest u e)

-- what breaks, breaks there
pub record Breaks (r : Result State (ℕ × ℕ)) (n : ℕ) (q : ℕ × Break) : Type 0 where
  pub is_err : r ≡ Err (q.0, break_code q.1)
  pub within : q.0 < n

same_pair : {A : Type 0} {x y : A} → Some x ≡ Some y → x ≡ y
same_pair e = cc

pub broken : (is : List Instr) (s : State) (q : ℕ × Break) → AllPlaced is → break_at is s ≡ Some q → Breaks (apply_all the_profile is s) (length is) q
broken [] s q p e = cc
broken (i ∷ is) s q p e = on (is_effect (effect_of i)) (break_of s (effect_of i)) (after s (effect_of i)) p.0 e (λ u r f. broken is u r p.1 f)
  where
    further : (u : State) (t : Option (ℕ × Break)) → break_at is u ≡ t → option_map (λ p. (suc p.0, p.1)) t ≡ Some q → ((r : ℕ × Break) → break_at is u ≡ Some r → Breaks (apply_all the_profile is u) (length is) r)
        → Breaks (one_more (apply_all the_profile is u)) (suc (length is)) q
    further u None is_t e rest = cc
    further u (Some r) is_t e rest =
        let b = rest r is_t in
        subst (λ q. Breaks (one_more (apply_all the_profile is u)) (suc (length is)) q) (same_pair e) (record { is_err = ap one_more b.is_err; within = omega (arith, b.within) })

    on : (b : Bool) (o : Option Break) (u : State) → b ≡ true → ◌≡◌ {A = Option (ℕ × Break)} (elim o [ Some c ↦ Some (0, c) | None ↦ option_map (λ p. (suc p.0, p.1)) (break_at is u) ]) (Some q)
        → ((u : State) (r : ℕ × Break) → break_at is u ≡ Some r → Breaks (apply_all the_profile is u) (length is) r)
        → Breaks (apply_then (if b then state_or_code o u else Err 23) (apply_all the_profile is)) (suc (length is)) q
    on false o u f e rest = cc
    on true (Some c) u f e rest = subst (λ q. Breaks (Err (0, break_code c)) (suc (length is)) q) (same_pair e) (record { is_err = refl; within = omega arith })
    on true None u f e rest = further u (break_at is u) refl e (rest u)
