-- The entries at the front of a trimmed file, one after the other.
use Rattle.std.proofs.Common.{◌≡◌, ◌≢◌, ℕ, zero, suc, ◌+◌, ◌-◌, ◌<◌, ◌==◌, Bool, true, false, ◌&&◌, List, [], ◌∷◌, ◌++◌, length, map, take, drop, get_or, All, Option, Some, None, Result, Ok, Err, if◌then◌else◌, refl, sym, ap, ◌∙◌, subst, arith, length-append}
use Rattle.std.proofs.lemmas.Bool.{eq-eqb, ne_eqb}
use Rattle.std.proofs.lemmas.List.{drop_more, map-append}
use Rattle.std.proofs.lemmas.List.Elements.{All-push}
use Rattle.sync_data.specs.Payload.{Changes}
use Rattle.sync_data.specs.declared.entry.Entry.{Entry}
use Rattle.sync_data.specs.declared.instr.Instr.{Instr}
use Rattle.sync_data.specs.declared.memory.NoMemory.{NoMemory}
use Rattle.sync_base.specs.States.{State}
use Rattle.sync_recip.specs.Lists.{entry_of}
use Rattle.sync_theory.specs.Changesets.{Changeset}
use Rattle.sync_theory.specs.Lists.{ok_state}
use Rattle.sync_transform.specs.Sets.{made_by}
use Rattle.sync_exchange.specs.Profile.{fits_changeset, the_profile, unspell}
use Rattle.sync_model.specs.Files.{readable}
use Rattle.sync_model.specs.Fronts.{Grows, Kept, all_end, entry_read, entry_step, grows_on, is_last, last_of, numbers_on}
use Rattle.sync_model.specs.Parts.{Given, at_ident}
use Rattle.sync_model.specs.Profile.{act_changeset, apply_all}
use Rattle.sync_model.proofs.Stamps.{apply_is}
use Rattle.server_memory.specs.Fronting.{ActsOn, Enters, IsGrown, grown_seen}
use Rattle.server_memory.specs.History.{IsEntry}
use Rattle.server_memory.specs.declared.carried.Grown.{Grown}
use Rattle.server_memory.proofs.Numbered.{last_behind}
use Rattle.server_memory.proofs.NextRecords.{entry_acts, numbers_hold}

-- one that was looked up
pub here_as : {X : Type 0} (es : List X) (j k : ℕ) (r e : X) → e ≡ r → j ≡ k → r ≡ get_or es j r → e ≡ get_or es k e
here_as es j k r e p q is = p ∙ is ∙ ap (λ n. get_or es n r) q ∙ ap (λ d. get_or es k d) (sym p)

pub some_at : {X : Type 0} (xs : List X) (n : ℕ) → n < length xs → (x : X) × (x ≡ get_or xs n x)
some_at [] n h = absurd (omega (arith, h))
some_at (x ∷ xs) zero h = (x, refl)
some_at (x ∷ xs) (suc n) h = some_at xs n (omega (arith, h))

-- ---- the number of the last entry of an origin, looked for from the last entry on
module _ (c : ℕ) (es : List Entry) (behind : ℕ) (e : Entry) (within : behind < length es) (here : e ≡ get_or es (length es - 1 - behind) e) where
  looked : last_of c (map entry_of (take (length es - behind) es)) None ≡ (if e.origin == c then Some e.number else last_of c (map entry_of (take (length es - 1 - behind) es)) None)
  looked =
      let more : length es - behind ≡ suc (length es - 1 - behind) = omega (arith, within) in
      ap (λ n. last_of c (map entry_of (take n es)) None) more ∙ last_behind entry_of c es None (length es - 1 - behind) e (omega (arith, within)) here

  pub last_found : e.origin ≡ c → last_of c (map entry_of (take (length es - behind) es)) None ≡ Some e.number
  last_found f = looked ∙ ap (λ t. if t then Some e.number else last_of c (map entry_of (take (length es - 1 - behind) es)) None) (eq-eqb e.origin c f)

  pub last_further : e.origin ≢ c → last_of c (map entry_of (take (length es - behind) es)) None ≡ last_of c (map entry_of (take (length es - (behind + 1)) es)) None
  last_further f =
      let less : length es - 1 - behind ≡ length es - (behind + 1) = omega arith in
      looked ∙ ap (λ t. if t then Some e.number else last_of c (map entry_of (take (length es - 1 - behind) es)) None) (ne_eqb e.origin c f)
      ∙ ap (λ n. last_of c (map entry_of (take n es)) None) less

-- ---- whether the numbers of each ident end with its count
module _ (xs : List (Changeset Instr)) (gs : List (Given Instr)) (place : ℕ) (g : Given Instr) (within : place < length gs) (here : g ≡ get_or gs place g) where
  opened : all_end (suc place) xs (drop place gs) ≡ (is_last (last_of (suc place) xs None) g.count && all_end (suc (suc place)) xs (drop (place + 1) gs))
  opened = ap (all_end (suc place) xs) (drop_more gs place g within ∙ ap (λ h. h ∷ drop (place + 1) gs) (sym here))

  pub end_further : is_last (last_of (suc place) xs None) g.count ≡ true → all_end (suc place) xs (drop place gs) ≡ all_end (suc (place + 1)) xs (drop (place + 1) gs)
  end_further e =
      let more : suc (suc place) ≡ suc (place + 1) = omega arith in
      opened ∙ ap (λ t. t && all_end (suc (suc place)) xs (drop (place + 1) gs)) e ∙ ap (λ n. all_end n xs (drop (place + 1) gs)) more

-- ---- one entry more
pub grows : (old new : Grown) (e : Entry) (base : ℕ) → apply_all the_profile e.changes.instrs old.objects ≡ Ok new.objects → new.entries.items ≡ old.entries.items ++ e ∷ [] → new.bases.items ≡ old.bases.items ++ base ∷ []
    → grows_on (grown_seen old) (entry_of e) base (act_changeset the_profile (entry_of e) old.objects) ≡ Some (grown_seen new)
grows old new e base acts is based =
    ap (grows_on (grown_seen old) (entry_of e) base) (apply_is the_profile e.changes.instrs old.objects ∙ ap ok_state acts)
    ∙ (λ i. Some (record { objects = new.objects; entries = (sym (ap (map entry_of) is ∙ map-append entry_of old.entries.items (e ∷ []))) i; bases = sym based i }))

pub grows_not : (old : Grown) (x : Changeset Instr) (b : ℕ × ℕ) → apply_all the_profile x.instrs old.objects ≡ Err b → act_changeset the_profile x old.objects ≡ None
grows_not old x b breaks = apply_is the_profile x.instrs old.objects ∙ ap ok_state breaks

-- what a step leaves
pub record IsMore (old new : Grows Instr State) (x : Changeset Instr) (base : ℕ) : Type 0 where
  pub entries : new.entries ≡ old.entries ++ x ∷ []
  pub bases : new.bases ≡ old.bases ++ base ∷ []

is_more : (old new : Grows Instr State) (x : Changeset Instr) (base : ℕ) (o : Option State) → grows_on old x base o ≡ Some new → IsMore old new x base
is_more old new x base None e = cc
is_more old new x base (Some s) e = let same = got e in record { entries = sym (ap (λ (g : Grows Instr State). g.entries) same); bases = sym (ap (λ (g : Grows Instr State). g.bases) same) }
  where
    got : {a b : Grows Instr State} → Some a ≡ Some b → a ≡ b
    got e = cc

pub more_grown : (n : ℕ) (old new : Grows Instr State) (x : Changeset Instr) (base : ℕ) → IsMore old new x base → IsEntry n x → IsGrown n old → IsGrown n new
more_grown n old new x base m is g =
    let entries = ap length m.entries ∙ length-append old.entries (x ∷ []) in
    let bases = ap length m.bases ∙ length-append old.bases (base ∷ []) in
    record {
      each = subst (All (IsEntry n)) (sym m.entries) (All-push (IsEntry n) old.entries x g.each is);
      based = omega (arith, entries, bases, g.based);
    }

pub enters : (second : Bool) (gs : List (Given Instr)) (old new : Grows Instr State) (e : Kept) (v : Changes) (r : Result Bool NoMemory) → numbers_on old.entries e (at_ident e.origin gs) ≡ true → readable the_profile second (unspell e.body) ≡ Some v.instrs → v.ms ≡ e.ms → fits_changeset v.instrs ≡ true
    → ActsOn old (made_by e.origin e.number v) e.base new r → Enters (length gs) old new (entry_step the_profile second gs old e) r
enters second gs old new e v (Err why) next read timed small acts = tt
enters second gs old new e v (Ok false) next read timed small acts =
    entry_acts the_profile second gs old e next v.instrs read
    ∙ (λ i. grows_on old (record { origin = e.origin; number = e.number; ms = sym timed i; instrs = v.instrs }) e.base (act_changeset the_profile (record { origin = e.origin; number = e.number; ms = sym timed i; instrs = v.instrs }) old.objects))
    ∙ ap (grows_on old (made_by e.origin e.number v) e.base) acts
enters second gs old new e v (Ok true) next read timed small acts =
    let step : entry_step the_profile second gs old e ≡ Some new = entry_acts the_profile second gs old e next v.instrs read
    ∙ (λ i. grows_on old (record { origin = e.origin; number = e.number; ms = sym timed i; instrs = v.instrs }) e.base (act_changeset the_profile (record { origin = e.origin; number = e.number; ms = sym timed i; instrs = v.instrs }) old.objects))
    ∙ acts in
    let numbers = numbers_hold the_profile second gs old.entries e next in
    let more = is_more old new (made_by e.origin e.number v) e.base (act_changeset the_profile (made_by e.origin e.number v) old.objects) acts in
    (step, more_grown (length gs) old new (made_by e.origin e.number v) e.base more (record { made = numbers.0; within = numbers.1; numbered = numbers.2; small = small }))

pub entered : (n : ℕ) (old new : Grows Instr State) (step : Option (Grows Instr State)) (r : Result Bool NoMemory) (t : Bool) → r ≡ Ok t → t ≡ true → Enters n old new step r → (step ≡ Some new) × (IsGrown n old → IsGrown n new)
entered n old new step r t is yes_ h = subst (Enters n old new step) (is ∙ ap (λ (b : Bool). Ok b) yes_) h

pub not_entered : (n : ℕ) (old new : Grows Instr State) (step : Option (Grows Instr State)) (r : Result Bool NoMemory) (t : Bool) → r ≡ Ok t → t ≡ false → Enters n old new step r → step ≡ None
not_entered n old new step r t is no_ h = subst (Enters n old new step) (is ∙ ap (λ (b : Bool). Ok b) no_) h

-- how long they are then
pub stepped : (second : Bool) (gs : List (Given Instr)) (old new : Grows Instr State) (e : Kept) → entry_step the_profile second gs old e ≡ Some new → length new.entries ≡ length old.entries + 1
stepped second gs old new e h = on (numbers_on old.entries e (at_ident e.origin gs)) (readable the_profile second (unspell e.body)) h
  where
    on : (t : Bool) (o : Option (List Instr)) → (if t then entry_read the_profile old e o else None) ≡ Some new → length new.entries ≡ length old.entries + 1
    on false o f = cc
    on true None f = cc
    on true (Some is) f =
        let x : Changeset Instr = record { origin = e.origin; number = e.number; ms = e.ms; instrs = is } in
        let more = is_more old new x e.base (act_changeset the_profile x old.objects) f in
        omega (arith, ap length more.entries, length-append old.entries (x ∷ []))
