-- The strokes of a landing, one after the other.
use Rattle.std.proofs.Common.{◌≡◌, ◌⊎◌, inl, inr, ℕ, zero, suc, ◌+◌, ◌<◌, ◌≤◌, Option, Some, None, Bool, true, List, [], ◌∷◌, ◌++◌, length, take, drop, get_or, Result, Ok, Err, refl, sym, ◌∙◌, ap, subst, arith, length-append, length-take}
use Rattle.sync_disk.specs.Disk.{Torn, put, Only, Follows, Within, Elapses, LeavesOnly, Joins}
use Rattle.sync_disk.specs.Strokes.{Act, Stroke, done, broken}
use Rattle.sync_disk.specs.declared.refusal.DiskRefusal.{DiskRefusal}
use Rattle.sync_disk.specs.declared.refusal.DiskRefusal.TheVariants.{Failed, NoMemory}
use Rattle.sync_disk.proofs.Moments.{started, goes_on}
use Rattle.gathered_disk.specs.Gathered.{gathered, IsLetIn, NoneOrAll}
use Rattle.gathered_disk.proofs.Writing.{front, rest, split, put_byte, take_put, take_gate, drop_gate, get_gate, length_put}

take_less : (n m : ℕ) (l : List ℕ) → n ≤ m → take n (take m l) ≡ take n l
take_less zero m l le = refl
take_less (suc n) zero l le = absurd (omega (arith, le))
take_less (suc n) (suc m) [] le = refl
take_less (suc n) (suc m) (x ∷ l) le = ap (λ (t : List ℕ). x ∷ t) (take_less n m l (omega (arith, le)))

pub told_or_not : (o : Option (List ℕ)) → (o ≡ None) ⊎ ((b : List ℕ) × (o ≡ Some b))
told_or_not None = inl refl
told_or_not (Some b) = inr (b, refl)

-- a stroke more at most
pub joins_one : {T : Type 0} (act : Act) (lost : Bool) (old new : List Stroke) (r : Result T DiskRefusal) → Joins act lost old new r → length new ≤ length old + 1
joins_one act lost old new (Ok x) j = omega (arith, ap length j.done, length-append old (done act ∷ []))
joins_one act lost old new (Err Failed) j = omega (arith, ap length (j.failed refl), length-append old (broken act lost ∷ []))
joins_one act lost old new (Err NoMemory) j = omega (arith, ap length (j.refused refl))

-- a file with its gate opened differs from it in the gate alone
let_in : (b s shown : List ℕ) (gate : ℕ) (c : List ℕ) → gate < length s → shown ≡ put s gate (1 ∷ []) → take gate s ≡ take gate b → Torn gate 1 s c → IsLetIn b gate shown c
let_in b s shown gate c inside is same torn =
    let f = front s gate inside in
    let r = rest s gate inside in
    let g = get_or s gate 0 in
    let long : length f ≡ gate = omega (arith, inside, length-take gate s) in
    let whole : shown ≡ f ++ 1 ∷ r = is ∙ put_byte s gate inside 1 in
    let size : length shown ≡ length s = ap length whole ∙ omega (arith, ap length (split s gate inside), length-append f (1 ∷ r), length-append f (g ∷ r)) in
    record {
      inside = omega (arith, size, inside);
      front = ap (take gate) whole ∙ take_gate f r gate long 1 ∙ same;
      open_ = ap (λ (l : List ℕ). get_or l gate 0) whole ∙ get_gate f r gate long 1;
      torn = record {
        before = torn.before ∙ sym (ap (take gate) whole ∙ take_gate f r gate long 1);
        after = torn.after ∙ sym (ap (drop (gate + 1)) whole ∙ drop_gate f r gate long 1);
        no_shorter = omega (arith, size, torn.no_shorter);
        no_longer = omega (arith, size, torn.no_longer);
      };
    }

whole : (s : List ℕ) (gate : ℕ) → gate < length s → Torn gate 1 s (put s gate (1 ∷ []))
whole s gate inside =
    let f = front s gate inside in
    let r = rest s gate inside in
    let g = get_or s gate 0 in
    let long : length f ≡ gate = omega (arith, inside, length-take gate s) in
    let is = put_byte s gate inside 1 in
    let size : length (put s gate (1 ∷ [])) ≡ length s = ap length is ∙ omega (arith, ap length (split s gate inside), length-append f (1 ∷ r), length-append f (g ∷ r)) in
    record { before = ap (take gate) is ∙ take_gate f r gate long 1; after = ap (drop (gate + 1)) is ∙ drop_gate f r gate long 1; no_shorter = omega (arith, size); no_longer = omega (arith, size) }

module _ {D : Type 0} (images : D → List ℕ → Type 0) (moment : D → ℕ) (images_since : D → ℕ → List ℕ → Type 0)
    (only_now : (disk : D) (c : List ℕ) → images_since disk (moment disk) c → images disk c)
    (b : List ℕ) (gate : ℕ) (behind : List ℕ) (opened : Bool) (inside : gate < length b) (d0 : D) (only : Only b (images d0)) where
  abbrev pub P : List ℕ → Type 0
  P = NoneOrAll b gate (gathered b gate behind opened)

  abbrev pub Leaves : D → Type 0
  Leaves d = LeavesOnly moment images_since d0 d P

  abbrev pub As : D → Type 0
  As d = (c : List ℕ) → images d c → P c

  abbrev pub staged : List ℕ
  staged = put b (gate + 1) behind

  within : gate < length staged
  within = omega (arith, inside, length_put b (gate + 1) behind (omega arith))

  -- before the first stroke
  pub at_start : Leaves d0
  at_start = started moment images_since d0 P (λ c left. inl (ap (take (gate + 1)) (only c (only_now d0 c left))))

  -- the bytes behind the gate
  pub as_behind : (d1 : D) → Follows (Torn (gate + 1) (length behind)) (images d0) (images d1) → As d1
  as_behind d1 follows c left =
      let from = follows c left in
      inl (from.2.before ∙ ap (take (gate + 1)) (only from.0 from.1))

  pub as_before : (d1 d2 : D) → As d1 → Within (images d2) (images d1) → As d2
  as_before d1 d2 had within c left = had c (within c left)

  -- the gate
  pub as_gate : (d2 d3 : D) → opened ≡ true → Only staged (images d2) → Follows (Torn gate 1) (images d2) (images d3) → As d3
  as_gate d2 d3 is only_staged follows c left =
      let from = follows c left in
      inr (let_in b staged (gathered b gate behind opened) gate c within (ap (gathered b gate behind) is) front_same (subst (λ s. Torn gate 1 s c) (only_staged from.0 from.1) from.2))
    where
      shorter : (l : List ℕ) → take gate (take (gate + 1) l) ≡ take gate l
      shorter l = take_less gate (gate + 1) l (omega arith)

      front_same : take gate staged ≡ take gate b
      front_same = sym (shorter staged) ∙ ap (take gate) (take_put b (gate + 1) behind (omega (arith, inside))) ∙ shorter b

  pub then : (d1 d2 : D) → Leaves d1 → As d2 → Elapses (moment d1) (moment d2) (images_since d1) (images_since d2) (images d2) → Leaves d2
  then d1 d2 so_far had time = goes_on moment images_since d0 d1 d2 P (images d2) so_far time had
