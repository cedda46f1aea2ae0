-- Stamps in their order.
use Rattle.std.proofs.Common.{◌≡◌, ℕ, Bool, true, false, not, sym, ap, ◌∙◌, ⊎_elim, arith}
use Rattle.std.specs.Prelude.{if◌then◌else◌}
use Rattle.std.proofs.lemmas.Bool.{cases_Bool, false≢true}
use Rattle.std.proofs.lemmas.Bool.Decides.{nat_tests}
use Rattle.sync_data.specs.declared.entry.Stamp.{Stamp}
use Rattle.sync_theory.specs.Changesets.{later_stamp}
use Rattle.list_lane.specs.Ops.{lane_later}
use Rattle.list_lane.specs.Bursts.{is_after, earlier_of, later_of}

numbers_in_order : (m i n j o k : ℕ) → later_stamp m i n j ≡ false → later_stamp n j o k ≡ false → later_stamp m i o k ≡ false
numbers_in_order m i n j o k f g = grind (arith, nat_tests, f, g)

numbers_one_way : (m i n j : ℕ) → later_stamp m i n j ≡ true → later_stamp n j m i ≡ false
numbers_one_way m i n j f = grind (arith, nat_tests, f)

same_number : (m i : ℕ) → later_stamp m i m i ≡ false
same_number m i = grind (arith, nat_tests)

pub none_after : (s t u : Stamp) → is_after s t ≡ false → is_after t u ≡ false → is_after s u ≡ false
none_after s t u f g = numbers_in_order s.ms s.ident t.ms t.ident u.ms u.ident f g

not_after : (s t : Stamp) → is_after s t ≡ true → is_after t s ≡ false
not_after s t f = numbers_one_way s.ms s.ident t.ms t.ident f

not_itself : (s : Stamp) → is_after s s ≡ false
not_itself s = same_number s.ms s.ident

-- ---- the earlier and the later of two
pub earlier_first : (s t : Stamp) → is_after (earlier_of s t) s ≡ false
earlier_first s t = ⊎_elim (λ e. ap (λ b. is_after (if b then s else t) s) e ∙ not_itself s) (λ e. ap (λ b. is_after (if b then s else t) s) e ∙ e) (cases_Bool (is_after t s))

pub earlier_second : (s t : Stamp) → is_after (earlier_of s t) t ≡ false
earlier_second s t = ⊎_elim (λ e. ap (λ b. is_after (if b then s else t) t) e ∙ not_after t s e) (λ e. ap (λ b. is_after (if b then s else t) t) e ∙ not_itself t) (cases_Bool (is_after t s))

pub later_first : (s t : Stamp) → is_after s (later_of s t) ≡ false
later_first s t = ⊎_elim (λ e. ap (λ b. is_after s (if b then s else t)) e ∙ not_itself s) (λ e. ap (λ b. is_after s (if b then s else t)) e ∙ e) (cases_Bool (is_after s t))

pub later_second : (s t : Stamp) → is_after t (later_of s t) ≡ false
later_second s t = ⊎_elim (λ e. ap (λ b. is_after t (if b then s else t)) e ∙ not_after s t e) (λ e. ap (λ b. is_after t (if b then s else t)) e ∙ not_itself t) (cases_Bool (is_after s t))

-- ---- what a lane's stamp is to another, a later one is, too
pub still_later : (left : Bool) (e s t : Stamp) → is_after e s ≡ false → lane_later left e t ≡ true → lane_later left s t ≡ true
still_later true e s t f h = ⊎_elim (λ g. g) (λ g. absurd (false≢true (sym (none_after e s t f g) ∙ h))) (cases_Bool (is_after s t))
still_later false e s t f h = ⊎_elim (λ g. absurd (false≢true (sym (ap not g) ∙ h))) (λ g. ap not (none_after t e s g f)) (cases_Bool (is_after t e))

pub still_earlier : (left : Bool) (s e t : Stamp) → is_after s e ≡ false → lane_later left e t ≡ false → lane_later left s t ≡ false
still_earlier left s e t f h = ⊎_elim (λ g. absurd (false≢true (sym h ∙ still_later left s e t f g))) (λ g. g) (cases_Bool (lane_later left s t))
