-- A change that is integrated, and what a server keeps after it.
use Rattle.std.proofs.Common.{◌≡◌, ℕ, suc, ◌+◌, ◌-◌, ◌<◌, Bool, true, List, [], ◌∷◌, ◌++◌, length, get_or, set, map, All, refl, sym, ap, ◌∙◌, subst, arith, length-set}
use Rattle.std.specs.Prelude.{◌||◌}
use Rattle.std.proofs.lemmas.List.{length-map, map-append}
use Rattle.sync_data.specs.declared.entry.Entry.{Entry}
use Rattle.sync_data.specs.declared.instr.Instr.{Instr}
use Rattle.sync_transform.specs.Sets.{made_by}
use Rattle.sync_recip.specs.Carrying.{Carrying, entries_of}
use Rattle.sync_recip.specs.Lists.{entry_of}
use Rattle.sync_exchange.specs.Profile.{fits_changeset}
use Rattle.sync_model.specs.Parts.{Given, settled, idents_after}
use Rattle.server_memory.specs.History.{HistoryParts, IsHistory, IsEntry, IsOther, IsReciprocal, AreGiven, len_of, with_entry}
use Rattle.server_memory.specs.Extending.{first_extended}
use Rattle.server_memory.proofs.Idents.{IsAt}
use Rattle.server_memory.proofs.Keeps.{settle_keeps, given_at, given_set, given_below, given_extended, settled_history, entered_history}
use Rattle.server_memory.proofs.Others.{all_after}

last_is : (es : List Entry) (x y : Entry) → get_or (es ++ x ∷ []) (length es) y ≡ x
last_is [] x y = refl
last_is (e ∷ es) x y = last_is es x y

module _ (floor : ℕ) (es : List Entry) (bs : List ℕ) (second : Bool) (gs : List (Given Instr)) (qs : List (ℕ × ℕ)) (ident number base : ℕ) (carried : Carrying) (g : Given Instr) (is_at : IsAt ident gs g)
    (was : IsHistory (record { floor = floor; entries = map entry_of es; bases = bs; second = second; idents = gs; retired = qs })) (next : number ≡ suc g.count) (small : fits_changeset carried.changes.instrs ≡ true)
    (others : All (IsOther ident) (entries_of carried g.reciprocal)) (new : Given Instr) (new_is : new ≡ settled base (entries_of carried g.reciprocal) g) where
  abbrev h : HistoryParts
  h = record { floor = floor; entries = map entry_of es; bases = bs; second = second; idents = gs; retired = qs }

  long_is : len_of h ≡ floor + length es
  long_is = ap (λ n. floor + n) (length-map es entry_of)

  new_kept : All (IsReciprocal (len_of h) (1 + (ident - 1))) new.reciprocal
  new_kept =
      let n = len_of h in
      let place : 1 + (ident - 1) ≡ ident = omega (arith, is_at.positive) in
      let old = subst (λ d. All (IsReciprocal n (1 + (ident - 1))) d.reciprocal) (sym (is_at.here g)) (given_at n 1 (ident - 1) gs g is_at.within was.idents) in
      subst (λ k. All (IsReciprocal n k) new.reciprocal) (sym place)
      (subst (λ d. All (IsReciprocal n ident) d.reciprocal) (sym new_is) (settle_keeps n ident base g.reciprocal (entries_of carried g.reciprocal) (subst (λ k. All (IsReciprocal n k) g.reciprocal) place old) others))

  pub not_entered : (now : List Entry) (bases : List ℕ) → now ≡ es → bases ≡ bs → IsHistory (record h { entries = map entry_of now; bases = bases; idents = set gs (ident - 1) new })
  not_entered now bases e b = settled_history h (map entry_of now) bases (ident - 1) new (ap (map entry_of) e) b was new_kept

  given_new : AreGiven (len_of h) 1 (set gs (ident - 1) new)
  given_new = given_set (len_of h) 1 (ident - 1) gs new was.idents new_kept

  pub below : All (λ d. All (λ q. q.0 < floor + length es) d.reciprocal) (set gs (ident - 1) new)
  below = subst (λ n. All (λ d. All (λ q. q.0 < n) d.reciprocal) (set gs (ident - 1) new)) long_is (given_below (len_of h) 1 (set gs (ident - 1) new) given_new)

  module _ (x : Entry) (x_is : x ≡ record { origin = ident; number = number; changes = carried.changes }) (now : List Entry) (more : now ≡ es ++ x ∷ []) (bases : List ℕ) (based : bases ≡ bs ++ base ∷ []) (room : len_of h < 4294967295) (y : Entry) (y_is : y ≡ get_or now (length es) y) where
    y_same : entry_of y ≡ made_by ident number carried.changes
    y_same = ap entry_of (y_is ∙ ap (λ l. get_or l (length es) y) more ∙ last_is es x y ∙ x_is)

    now_is : map entry_of now ≡ map entry_of es ++ made_by ident number carried.changes ∷ []
    now_is = ap (map entry_of) more ∙ map-append entry_of es (x ∷ []) ∙ ap (λ z. map entry_of es ++ entry_of z ∷ []) x_is

    entry_ok : IsEntry (length gs) (made_by ident number carried.changes)
    entry_ok = record { made = omega (arith, is_at.positive); within = omega (arith, is_at.positive, is_at.within); numbered = omega (arith, next); small = small }

    pub entered : (n : ℕ) (after : Bool) (hs : List (Given Instr)) → length hs ≡ length gs → hs ≡ first_extended n (ident - 1) (floor + length es) (entry_of y) 0 (set gs (ident - 1) new) → IsHistory (record h { entries = map entry_of now; bases = bases; second = after; idents = hs })
    entered n after hs size e =
        let same : hs ≡ first_extended n (ident - 1) (len_of h) (made_by ident number carried.changes) 0 (set gs (ident - 1) new) = e ∙ (λ i. first_extended n (ident - 1) (sym long_is i) (y_same i) 0 (set gs (ident - 1) new)) in
        entered_history h (map entry_of now) bases base after hs (made_by ident number carried.changes) now_is based was room entry_ok size
        (subst (AreGiven (suc (len_of h)) 1) (sym same) (given_extended (ident - 1) (len_of h) n 0 (made_by ident number carried.changes) (set gs (ident - 1) new) is_at.positive small given_new))

    pub whole : (form : Bool) (hs : List (Given Instr)) → hs ≡ first_extended (length (set gs (ident - 1) new)) (ident - 1) (floor + length es) (entry_of y) 0 (set gs (ident - 1) new)
        → ◌≡◌ {A = HistoryParts} (record h { entries = map entry_of now; bases = bases; second = second || form; idents = hs }) (with_entry h ident base form (made_by ident number carried.changes) (entries_of carried g.reciprocal))
    whole form hs e =
        let z = made_by ident number carried.changes in
        let fs = entries_of carried g.reciprocal in
        let version = sym long_is in
        let all : hs ≡ idents_after ident base fs (len_of h) z 1 gs =
        e
        ∙ (λ i. first_extended (length-set gs (ident - 1) new i) (ident - 1) (version i) (y_same i) 0 (set gs (ident - 1) (new_is i)))
        ∙ all_after (ident - 1) (len_of h) z base fs (ident - 1) 0 gs g (omega arith) is_at.within (is_at.here g)
        ∙ ap (λ c. idents_after c base fs (len_of h) z 1 gs) (sym is_at.positive)
        in
        λ i. record h { entries = now_is i; bases = based i; second = second || form; idents = all i }
