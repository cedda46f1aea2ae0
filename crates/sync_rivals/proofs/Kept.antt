-- What a set of marks has after one was put or taken out.
use Rattle.std.specs.Prelude.{◌≡◌, ◌≢◌, ℕ, ◌+◌, ◌<◌, Bool, true, false, cond, not, ◌&&◌, List, [], ◌∷◌, refl}
use Rattle.std.specs.FinSet as set
use Rattle.std.specs.BTreeSet as tree
use Rattle.std.specs.BTreeSet.{BTreeSet}
use Rattle.std.specs.BTreeMap as map
use Rattle.std.specs.Ordering.{eq_by_cmp, is_eq}
use Rattle.std.specs.Cmp.{tied_itself}
use Rattle.std.proofs.Common.{sym, ◌∙◌, ap, subst, take, get_or, length}
use Rattle.std.proofs.lemmas.List.Elements.{All-more, All-from_recursion, recursion_from_All}
use Rattle.sync_data.specs.declared.instr.Instr.{Instr}
use Rattle.sync_maps.specs.Seen.{had, tied}
use Rattle.sync_rivals.specs.declared.mark.Mark.{Mark}
use Rattle.sync_rivals.specs.Codes.{listed_codes}
use Rattle.sync_rivals.specs.Strangers.{IsFoundBy}
use Rattle.sync_rivals.specs.Marks.{Marks, mark_cmp, mark_cmp_total, mark_cmp_exact, is_at, mark, IsListed, AreMarked, AreUnmarked, AreGone, KeepsAll, KeepsOthers, AddsNone}

-- the set of the keys
abbrev pub seen_as : BTreeSet Mark → Marks
seen_as t = set.from_list t.keys

abbrev pub Puts : Bool → Mark → BTreeSet Mark → BTreeSet Mark → Type 0
Puts b k s t = (q : Mark) → tree.contains mark_cmp t q ≡ cond (map.is_at (mark_cmp k) q) b (tree.contains mark_cmp s q)

pub put_there : (k : Mark) (s t : BTreeSet Mark) → tree.contains mark_cmp t k ≡ true → set.contains (seen_as t) k ≡ true
put_there k s t h = had mark_cmp_total t k ∙ h

pub put_keeps : (k : Mark) (s t : BTreeSet Mark) (old : Marks) → seen_as s ≡ old → Puts true k s t → KeepsAll old (seen_as t)
put_keeps k s t old e h m there =
    let was : tree.contains mark_cmp s m ≡ true = sym (had mark_cmp_total s m) ∙ ap (λ x. set.contains x m) e ∙ there in
    had mark_cmp_total t m ∙ h m ∙ ap (cond (map.is_at (mark_cmp k) m) true) was ∙ same (map.is_at (mark_cmp k) m)
  where
    same : (b : Bool) → cond b true true ≡ true
    same true = refl
    same false = refl

-- ---- of a set without one
pub removed_others : (s : Marks) (c n : ℕ) → KeepsOthers n s (set.remove s (mark c n))
removed_others s c n m other there =
    set.contains-remove mark_cmp_total s (mark c n) m
    ∙ elim (eq_by_cmp mark_cmp m (mark c n)) as (λ b. eq_by_cmp mark_cmp m (mark c n) ≡ b → (not b && set.contains s m) ≡ true) [
      | true ↦ λ same. absurd (other (ap (λ x. x.number) (tied mark_cmp_exact m (mark c n) same)))
      | false ↦ λ _. there
    ] refl

pub removed_none : (s : Marks) (k : Mark) → AddsNone s (set.remove s k)
removed_none s k m h = set.contains-remove mark_cmp_total s k m ∙ ap (λ b. not (eq_by_cmp mark_cmp m k) && b) h ∙ nothing (not (eq_by_cmp mark_cmp m k))
  where
    nothing : (b : Bool) → (b && false) ≡ false
    nothing true = refl
    nothing false = refl

pub removed_gone : (s : Marks) (k : Mark) → set.contains (set.remove s k) k ≡ false
removed_gone s k = set.contains-remove mark_cmp_total s k k ∙ ap (λ b. not b && set.contains s k) (ap is_eq (tied_itself mark_cmp_total k))

-- ---- what is gone
pub gone_more : (s t : Marks) (n : ℕ) (instrs : List Instr) → AddsNone s t → AreGone s n instrs → AreGone t n instrs
gone_more s t n [] k h = tt
gone_more s t n (i ∷ is) k h = ((k _ h.0.0, (k _ h.0.1.0, (k _ h.0.1.1.0, tt))), gone_more s t n is k h.1)

pub gone_push : (s : Marks) (n : ℕ) (instrs : List Instr) (i : ℕ) (x : Instr) → i < length instrs → x ≡ get_or instrs i x → AreGone s n (take i instrs) → AreUnmarked s n (listed_codes x) → AreGone s n (take (i + 1) instrs)
gone_push s n instrs i x l e h g =
    recursion_from_All (λ (y : Instr). AreUnmarked s n (listed_codes y)) (take (i + 1) instrs)
    (All-more (λ (y : Instr). AreUnmarked s n (listed_codes y)) instrs i x l (All-from_recursion (λ (y : Instr). AreUnmarked s n (listed_codes y)) (take i instrs) h) (subst (λ (y : Instr). AreUnmarked s n (listed_codes y)) e g))

-- ---- what is listed
pub listed_more : (s t : Marks) (n : ℕ) (instrs : List Instr) → KeepsAll s t → IsListed s n instrs → IsListed t n instrs
listed_more s t n [] k h = tt
listed_more s t n (i ∷ is) k h = ((k _ h.0.0, (k _ h.0.1.0, (k _ h.0.1.1.0, tt))), listed_more s t n is k h.1)

pub listed_push : (s : Marks) (n : ℕ) (instrs : List Instr) (i : ℕ) (x : Instr) → i < length instrs → x ≡ get_or instrs i x → IsListed s n (take i instrs) → AreMarked s n (listed_codes x) → IsListed s n (take (i + 1) instrs)
listed_push s n instrs i x l e h g =
    recursion_from_All (IsFoundBy (is_at s n)) (take (i + 1) instrs)
    (All-more (IsFoundBy (is_at s n)) instrs i x l (All-from_recursion (IsFoundBy (is_at s n)) (take i instrs) h) (subst (IsFoundBy (is_at s n)) e g))

pub listed_others : (s t : Marks) (n m : ℕ) (instrs : List Instr) → m ≢ n → KeepsOthers n s t → IsListed s m instrs → IsListed t m instrs
listed_others s t n m [] other k h = tt
listed_others s t n m (i ∷ is) other k h = ((k _ other h.0.0, (k _ other h.0.1.0, (k _ other h.0.1.1.0, tt))), listed_others s t n m is other k h.1)
