-- A merge, step by step.
use Rattle.std.proofs.Common.{◌≡◌, ◌≢◌, ℕ, suc, ◌+◌, ◌<◌, ◌≤◌, ◌==◌, Bool, true, false, List, [], ◌∷◌, ◌++◌, length, All, Option, None, Some, Result, Ok, Err, if◌then◌else◌, nat_lt, refl, sym, ap, ◌∙◌, subst, arith, length-append}
use Rattle.std.specs.Prelude.{◌&&◌, not}
use Rattle.std.proofs.lemmas.Bool.{ltb-false, eqb-false}
use Rattle.std.proofs.lemmas.List.Elements.{All-nil, All-cons, All-head, All-tail}
use Rattle.sync_data.specs.Payload.{Changes}
use Rattle.sync_data.specs.declared.instr.Instr.{Instr}
use Rattle.sync_base.specs.States.{State}
use Rattle.sync_theory.specs.Changesets.{Changeset, with_lists, is_later}
use Rattle.sync_theory.specs.Lists.{cross}
use Rattle.sync_theory.specs.Grid.{carry, carry_one, carry_put}
use Rattle.sync_theory.specs.Reciprocals.{from_base}
use Rattle.sync_transform.specs.Sets.{made_by}
use Rattle.sync_recip.specs.Carrying.{Carrying, Fits, entries_of}
use Rattle.sync_law.specs.Coded.{meet_by_code}
use Rattle.sync_model.specs.Messages.{Change}
use Rattle.sync_model.specs.Profile.{Stuck, apply_all, cross_changesets, needs}
use Rattle.sync_model.specs.Servers.{ServerRefusal, entry_of, is_retired}
use Rattle.sync_model.specs.Parts.{Given, Parts, Merged, at_ident, merge_by, merge_read_by, merge_carried_by, merge_applied_by, integrated}
use Rattle.sync_model.proofs.Small.{sets_small}
use Rattle.sync_exchange.specs.Profile.{fits_changeset, the_profile, unspell}
use Rattle.sync_exchange.specs.Lemmas.Lawful.{real_lawful}
use Rattle.server_memory.specs.History.{HistoryParts, IsOther, IsReciprocal, len_of, with_entry}
use Rattle.server_memory.specs.Integrating.{IsNext}
use Rattle.server_memory.specs.Kept.{parts}
use Rattle.server_memory.specs.Merging.{numbers_broken, Reads, Carries, AppliesBy, crossing, IsReady, Prepares, Merges, records_of}
use Rattle.server_memory.specs.declared.kept.Kept.{Kept}
use Rattle.server_memory.specs.declared.merging.Prepared.{Prepared}
use Rattle.server_memory.specs.declared.refusal.ChangeRefusal.{ChangeRefusal}
use Rattle.server_memory.specs.declared.refusal.ChangeRefusal.TheVariants.{Refused, NoMemory}
use Rattle.server_memory.proofs.Keeps.{others_from}

-- ---- the numbers

-- what holds where they break no rule
pub record Numbers (kept : Parts Instr State) (c : ℕ) (g : Given Instr) (h : Change) (r : Result (Merged Instr State) ServerRefusal) : Type 0 where
  pub reads : r ≡ merge_read_by the_profile kept c g h (unspell h.body)
  pub next : h.number ≤ suc g.count
  pub room : kept.len ≢ 4294967295

pub numbers_right : (kept : Parts Instr State) (c : ℕ) (g : Given Instr) (h : Change) → numbers_broken kept.len kept.floor g h.number h.base ≡ None → Numbers kept c g h (merge_by the_profile kept c g h)
numbers_right kept c g h = go (is_retired g.heir) (nat_lt (suc g.count) h.number) (nat_lt h.base g.last) (nat_lt kept.len h.base) (nat_lt h.base kept.floor) (kept.len == 4294967295) refl refl
  where
    go : (r a b d t f : Bool) → nat_lt (suc g.count) h.number ≡ a → (kept.len == 4294967295) ≡ f
        → ◌≡◌ {A = Option ServerRefusal} (if r then Some (ServerRefusal.IdentRetired g.count) else if a then Some (ServerRefusal.NumberGap (suc g.count)) else if b then Some (ServerRefusal.BaseBack g.last) else if d then Some (ServerRefusal.AheadOfHistory kept.len) else if t then Some (ServerRefusal.Trimmed kept.floor) else if f then Some (ServerRefusal.HistoryFull kept.len) else None) None
        → Numbers kept c g h (if r then Err (ServerRefusal.IdentRetired g.count) else if a then Err (ServerRefusal.NumberGap (suc g.count)) else if b then Err (ServerRefusal.BaseBack g.last) else if d then Err (ServerRefusal.AheadOfHistory kept.len) else if t then Err (ServerRefusal.Trimmed kept.floor) else if f then Err (ServerRefusal.HistoryFull kept.len) else merge_read_by the_profile kept c g h (unspell h.body))
    go true a b d t f ea ef e = cc
    go false true b d t f ea ef e = cc
    go false false true d t f ea ef e = cc
    go false false false true t f ea ef e = cc
    go false false false false true f ea ef e = cc
    go false false false false false true ea ef e = cc
    go false false false false false false ea ef e = record { reads = refl; next = ltb-false (suc g.count) h.number ea; room = eqb-false kept.len 4294967295 ef }

-- ---- what is carried stays within the limits
got : {A E : Type 0} {x y : A} → ◌≡◌ {A = Result A E} (Ok x) (Ok y) → x ≡ y
got e = cc

same_origin : (a b x y : Changeset Instr) (r : Result (List Instr × List Instr) Stuck) → with_lists a b r ≡ Ok (x, y) → y.origin ≡ b.origin
same_origin a b x y (Ok p) e = sym (ap (λ (q : Changeset Instr × Changeset Instr). q.1.origin) (got e))
same_origin a b x y (Err m) e = cc

pub carry_keeps : (c : ℕ) (x : Changeset Instr) (es : List (Changeset Instr)) (y : Changeset Instr) (fs : List (Changeset Instr)) → carry (cross_changesets the_profile) x es ≡ Ok (y, fs) → fits_changeset x.instrs ≡ true → All (IsOther c) es
    → (fits_changeset y.instrs ≡ true) × All (IsOther c) fs
carry_keeps c x [] y fs e small a =
    let both = got e in
    let first : x ≡ y = ap (λ (q : Changeset Instr × List (Changeset Instr)). q.0) both in
    let none : [] ≡ fs = ap (λ (q : Changeset Instr × List (Changeset Instr)). q.1) both in
    (subst (λ z. fits_changeset z.instrs ≡ true) first small, subst (All (IsOther c)) none (All-nil (IsOther c)))
carry_keeps c x (d ∷ es) y fs e small a = go (cross_changesets the_profile x d) refl e (λ z gs f k. carry_keeps c z es y gs f k (All-tail (IsOther c) d es a))
  where
    other : IsOther c d
    other = All-head (IsOther c) d es a

    further : (q : Changeset Instr × Changeset Instr) (r : Result (Changeset Instr × List (Changeset Instr)) Stuck) → carry (cross_changesets the_profile) q.0 es ≡ r → carry_put q.1 r ≡ Ok (y, fs) → IsOther c q.1 → fits_changeset q.0.instrs ≡ true
        → ((z : Changeset Instr) (gs : List (Changeset Instr)) → carry (cross_changesets the_profile) z es ≡ Ok (y, gs) → fits_changeset z.instrs ≡ true → (fits_changeset y.instrs ≡ true) × All (IsOther c) gs)
        → (fits_changeset y.instrs ≡ true) × All (IsOther c) fs
    further q (Err m) is f ok k rec = cc
    further q (Ok r) is f ok k rec =
        let both = got f in
        let first : r.0 ≡ y = ap (λ (q : Changeset Instr × List (Changeset Instr)). q.0) both in
        let list : q.1 ∷ r.1 ≡ fs = ap (λ (q : Changeset Instr × List (Changeset Instr)). q.1) both in
        let rest = rec q.0 r.1 (is ∙ ap (λ z. Ok (z, r.1)) first) k in
        (rest.0, subst (All (IsOther c)) list (All-cons (IsOther c) q.1 r.1 ok rest.1))

    go : (r : Result (Changeset Instr × Changeset Instr) Stuck) → cross_changesets the_profile x d ≡ r → carry_one r (λ z. carry (cross_changesets the_profile) z es) ≡ Ok (y, fs)
        → ((z : Changeset Instr) (gs : List (Changeset Instr)) → carry (cross_changesets the_profile) z es ≡ Ok (y, gs) → fits_changeset z.instrs ≡ true → (fits_changeset y.instrs ≡ true) × All (IsOther c) gs)
        → (fits_changeset y.instrs ≡ true) × All (IsOther c) fs
    go (Err m) is f rec = cc
    go (Ok q) is f rec =
        let kept = sets_small the_profile real_lawful x d q.0 q.1 is in
        let origin = same_origin x d q.0 q.1 (cross (λ u v. meet_by_code u v (is_later x d)) x.instrs d.instrs) is in
        further q (carry (cross_changesets the_profile) q.0 es) refl f (record { other = λ same. other.other (sym origin ∙ same); small = kept.right small other.small }) (kept.left small other.small) rec

-- ---- a change that is ready
stamped : (c : ℕ) (h : Change) (v : Changes) → v.ms ≡ h.ms → (entry_of c h v.instrs).change ≡ made_by c h.number v
stamped c h v e = ap (λ t. record { origin = c; number = h.number; ms = t; instrs = v.instrs }) (sym e)

module _ (kept : Parts Instr State) (c : ℕ) (found g : Given Instr) (h : Change) (v : Changes) (same : found ≡ g) (numbers : numbers_broken kept.len kept.floor found h.number h.base ≡ None) (read : Reads (Ok v) h) where
  right : Numbers kept c g h (merge_by the_profile kept c g h)
  right = numbers_right kept c g h (ap (λ d. numbers_broken kept.len kept.floor d h.number h.base) (sym same) ∙ numbers)

  carrying : merge_by the_profile kept c g h ≡ merge_carried_by the_profile kept c h v.instrs (crossing c h.number v h.base found.reciprocal)
  carrying =
      right.reads
      ∙ ap (merge_read_by the_profile kept c g h) read.1
      ∙ ap (λ x. merge_carried_by the_profile kept c h v.instrs (carry (cross_changesets the_profile) x (from_base h.base g.reciprocal))) (stamped c h v read.0)
      ∙ ap (λ d. merge_carried_by the_profile kept c h v.instrs (crossing c h.number v h.base d.reciprocal)) (sym same)

  pub ready : (carried : Carrying) (second : Bool) → Carries (Ok carried) c h.number v h.base found.reciprocal → second ≡ needs the_profile v.instrs → (len : ℕ) → All (IsReciprocal len c) found.reciprocal → g.count < h.number → kept.len ≤ 4294967295
      → IsReady (record { carried = carried; second = second }) kept c g h (merge_by the_profile kept c g h)
  ready carried second is second_is len others above room =
      let keeps = carry_keeps c (made_by c h.number v) (from_base h.base found.reciprocal) (made_by c h.number carried.changes) (entries_of carried found.reciprocal) is.0 read.2 (others_from len c h.base found.reciprocal others) in
      record {
        made = v.instrs;
        gives = carrying ∙ ap (merge_carried_by the_profile kept c h v.instrs) is.0 ∙ ap (λ d. merge_applied_by the_profile kept c h v.instrs (made_by c h.number carried.changes) (entries_of carried d.reciprocal) (apply_all the_profile carried.changes.instrs kept.objects)) same;
        second = sym second_is;
        next = omega (arith, right.next, above);
        base_is = is.1;
        fits = subst (λ d. Fits carried d.reciprocal) same is.2;
        small = keeps.0;
        others = subst (λ d. All (IsOther c) (entries_of carried d.reciprocal)) same keeps.1;
        room = omega (arith, right.room, room);
      }

  pub not_ready : (e : ChangeRefusal) → Carries (Err e) c h.number v h.base found.reciprocal → Prepares (Err e) kept c g h (merge_by the_profile kept c g h)
  not_ready NoMemory is = tt
  not_ready (Refused why) is = carrying ∙ ap (merge_carried_by the_profile kept c h v.instrs) is.1 ∙ ap Err (sym is.2)

-- ---- the whole
module _ (p : Prepared) (kept : Kept) (c : ℕ) (g : Given Instr) (h : Change) (r : Result (Merged Instr State) ServerRefusal) (is_ready : IsReady p (parts kept) c g h r) where
  pub merged : (form : Bool) (after : HistoryParts) (t : State) → apply_all the_profile p.carried.changes.instrs kept.objects ≡ Ok t → form ≡ (p.second && not kept.history.second)
      → after ≡ with_entry kept.history c h.base p.second (made_by c h.number p.carried.changes) (entries_of p.carried g.reciprocal)
      → r ≡ Ok (record { records = records_of form c h; parts = parts (record kept { history = after; objects = t }) })
  merged form after t acts form_is after_is =
      let x = made_by c h.number p.carried.changes in
      let es = entries_of p.carried g.reciprocal in
      let more : length (kept.history.entries ++ x ∷ []) ≡ suc (length kept.history.entries) = omega (arith, length-append kept.history.entries (x ∷ [])) in
      let long : suc (len_of kept.history) ≡ kept.history.floor + length (kept.history.entries ++ x ∷ []) = omega (arith, more) in
      is_ready.gives
      ∙ ap (merge_applied_by the_profile (parts kept) c h is_ready.made x es) acts
      ∙ (λ i. Ok (record { records = records_of (is_ready.second i && not kept.history.second) c h; parts = integrated (parts kept) c h.base (is_ready.second i) x es t }))
      ∙ ap (λ n. Ok (record { records = records_of (p.second && not kept.history.second) c h; parts = record (integrated (parts kept) c h.base p.second x es t) { len = n } })) long
      ∙ (λ i. Ok (record { records = records_of (sym form_is i) c h; parts = parts (record kept { history = sym after_is i; objects = t }) }))

  pub broke : (e : ChangeRefusal) (new : State) → AppliesBy (Err e) p.carried.changes.instrs kept.objects new → Merges (Err e) r c h (parts kept) (parts (record kept { objects = new }))
  broke NoMemory new is = tt
  broke (Refused why) new is = (
    is_ready.gives ∙ ap (merge_applied_by the_profile (parts kept) c h is_ready.made (made_by c h.number p.carried.changes) (entries_of p.carried g.reciprocal)) is.1 ∙ ap Err (sym is.2),
    ap (λ s. parts (record kept { objects = s })) is.3,
  )

pub next_of : (p : Prepared) (kept : Kept) (c number base : ℕ) (g : Given Instr) (h : Change) (r : Result (Merged Instr State) ServerRefusal) → IsReady p (parts kept) c g h r → number ≡ h.number → base ≡ h.base → at_ident c kept.history.idents ≡ Some g → IsNext c number base p.carried kept.history.idents
next_of p kept c number base g h r ready n b is = record {
  given = g;
  is_given = is;
  next = n ∙ ready.next;
  base_is = ready.base_is ∙ sym b;
  fits = ready.fits;
  small = ready.small;
  others = ready.others;
}
