-- What messages bear of a list, each as many as it may: of a list's end no more messages are needed, and of its beginning a message
-- bears all or as much as of the whole.
use Rattle.std.proofs.Common.{◌≡◌, ◌⊎◌, inl, inr, ⊎_elim, ℕ, zero, suc, ◌+◌, ◌-◌, ◌≤◌, Bool, true, false, List, [], ◌∷◌, ◌++◌, Some, refl, sym, ap, ◌∙◌, subst, arith, if◌then◌else◌, length, drop, nat_le}
use Rattle.std.proofs.lemmas.Bool.{le-leb}
use Rattle.std.proofs.lemmas.Bool.Decides.{nat_tests}
use Rattle.sync_model.specs.Profile.{Profile, fitting}
use Rattle.sync_model.specs.Worlds.{at}
use Rattle.progress_law.specs.Among.{AreCarried, none_left, a_message}

le_of : (a b : ℕ) → nat_le a b ≡ true → a ≤ b
le_of a b e = grind (arith, nat_tests)

-- more room bears no less
more_room : {A : Type 0} (size : A → ℕ) (n m r s : ℕ) (xs : List A) → n ≤ m → r ≤ s → length (fitting size n r xs) ≤ length (fitting size m s xs)
more_room size n m r s [] le room = omega arith
more_room size zero m r s (x ∷ xs) le room = omega arith
more_room size (suc n) zero r s (x ∷ xs) le room = absurd (omega arith)
more_room {A} size (suc n) (suc m) r s (x ∷ xs) le room = on (nat_le (size x) r) refl (more_room size n m (r - size x) (s - size x) xs (omega arith) (omega arith))
  where
    there : (c : Bool) → c ≡ true → length (fitting size n (r - size x) xs) ≤ length (fitting size m (s - size x) xs) → suc (length (fitting size n (r - size x) xs)) ≤ length (if c then x ∷ fitting size m (s - size x) xs else [])
    there true e h = omega arith
    there false e h = cc

    on : (b : Bool) → nat_le (size x) r ≡ b → length (fitting size n (r - size x) xs) ≤ length (fitting size m (s - size x) xs) → length (if b then x ∷ fitting size n (r - size x) xs else []) ≤ length (if nat_le (size x) s then x ∷ fitting size m (s - size x) xs else [])
    on true e h = let fits = le_of (size x) r e in there (nat_le (size x) s) (le-leb (size x) s (omega arith)) h
    on false e h = omega arith

-- behind the first a message bears at most one less
one_less : {A : Type 0} (size : A → ℕ) (n r : ℕ) (x : A) (xs : List A) → length (fitting size n r (x ∷ xs)) ≤ suc (length (fitting size n r xs))
one_less size zero r x xs = omega arith
one_less {A} size (suc n) r x xs = on (nat_le (size x) r) (more_room size n (suc n) (r - size x) r xs (omega arith) (omega arith))
  where
    on : (b : Bool) → length (fitting size n (r - size x) xs) ≤ length (fitting size (suc n) r xs) → length (if b then x ∷ fitting size n (r - size x) xs else []) ≤ suc (length (fitting size (suc n) r xs))
    on true h = omega arith
    on false h = omega arith

further_on : {A : Type 0} (size : A → ℕ) (n r j : ℕ) (xs : List A) → length (fitting size n r xs) ≤ j + length (fitting size n r (drop j xs))
further_on size n r zero xs = omega arith
further_on size n r (suc j) [] = omega arith
further_on size n r (suc j) (x ∷ xs) =
    let a = one_less size n r x xs in
    let b = further_on size n r j xs in
    omega arith

pub drop_drop : {A : Type 0} (i j : ℕ) (xs : List A) → drop j (drop i xs) ≡ drop (i + j) xs
drop_drop zero j xs = let e : j ≡ 0 + j = omega arith in ap (λ k. drop k xs) e
drop_drop {A} (suc i) j [] = none j ∙ sym (none (suc i + j))
  where
    none : (k : ℕ) → drop {A = A} k [] ≡ []
    none zero = refl
    none (suc k) = refl
drop_drop (suc i) j (x ∷ xs) = let e : suc i + j ≡ suc (i + j) = omega arith in drop_drop i j xs ∙ ap (λ k. drop k (x ∷ xs)) (sym e)

-- a beginning
pub front_or_full : {A : Type 0} (size : A → ℕ) (n r : ℕ) (xs ys : List A) → (length (fitting size n r xs) ≡ length xs) ⊎ (length (fitting size n r xs) ≡ length (fitting size n r (xs ++ ys)))
front_or_full size n r [] ys = inl refl
front_or_full size zero r (x ∷ xs) ys = inr refl
front_or_full {A} size (suc n) r (x ∷ xs) ys = on (nat_le (size x) r) (front_or_full size n (r - size x) xs ys)
  where
    on : (b : Bool) → (length (fitting size n (r - size x) xs) ≡ length xs) ⊎ (length (fitting size n (r - size x) xs) ≡ length (fitting size n (r - size x) (xs ++ ys)))
        → (length (if b then x ∷ fitting size n (r - size x) xs else []) ≡ suc (length xs)) ⊎ (length (if b then x ∷ fitting size n (r - size x) xs else []) ≡ length (if b then x ∷ fitting size n (r - size x) (xs ++ ys) else []))
    on true h = ⊎_elim (λ e. inl (ap suc e)) (λ e. inr (ap suc e)) h
    on false h = inr refl

-- what fits are the first
pub fit_at : {A : Type 0} (size : A → ℕ) (n r : ℕ) (xs : List A) (j : ℕ) (y : A) → at (fitting size n r xs) j ≡ Some y → at xs j ≡ Some y
fit_at size n r [] j y e = cc
fit_at size zero r (x ∷ xs) j y e = cc
fit_at {A} size (suc n) r (x ∷ xs) j y e = on (nat_le (size x) r) j e (λ k f. fit_at size n (r - size x) xs k y f)
  where
    on : (b : Bool) (j : ℕ) → at (if b then x ∷ fitting size n (r - size x) xs else []) j ≡ Some y → ((k : ℕ) → at (fitting size n (r - size x) xs) k ≡ Some y → at xs k ≡ Some y) → at (x ∷ xs) j ≡ Some y
    on true zero e rec = e
    on true (suc j) e rec = rec j e
    on false j e rec = cc

module _ {I S : Type 0} (p : Profile I S) where
  -- what one message leaves
  pub one_message : {A : Type 0} (size : A → ℕ) (k : ℕ) (xs : List A) → AreCarried p size (suc k) xs → AreCarried p size k (drop (length (fitting size p.most p.room xs)) xs)
  one_message size k [] c = none_left
  one_message size k (x ∷ xs) (a_message c) = c

  pub nothing_left : {A : Type 0} (size : A → ℕ) (xs : List A) → AreCarried p size 0 xs → xs ≡ []
  nothing_left size [] c = refl
  nothing_left size (x ∷ xs) c = elim c [ ]

  -- of the end of a list
  pub end_carried : {A : Type 0} (size : A → ℕ) (k j : ℕ) (xs : List A) → AreCarried p size k xs → AreCarried p size k (drop j xs)
  end_carried size zero j xs c = subst (λ l. AreCarried p size 0 (drop j l)) (sym (nothing_left size xs c)) (none j)
    where
      none : {A : Type 0} {size : A → ℕ} (j : ℕ) → AreCarried p size 0 (drop j [])
      none zero = none_left
      none (suc j) = none_left
  end_carried {A} size (suc k) j xs c =
      let far = further_on size p.most p.room j xs in
      let rest = end_carried size k (j + length (fitting size p.most p.room (drop j xs)) - length (fitting size p.most p.room xs)) (drop (length (fitting size p.most p.room xs)) xs) (one_message size k xs c) in
      let same : length (fitting size p.most p.room xs) + (j + length (fitting size p.most p.room (drop j xs)) - length (fitting size p.most p.room xs)) ≡ j + length (fitting size p.most p.room (drop j xs)) = omega arith in
      let is : drop (j + length (fitting size p.most p.room (drop j xs)) - length (fitting size p.most p.room xs)) (drop (length (fitting size p.most p.room xs)) xs) ≡ drop (length (fitting size p.most p.room (drop j xs))) (drop j xs) =
      drop_drop (length (fitting size p.most p.room xs)) (j + length (fitting size p.most p.room (drop j xs)) - length (fitting size p.most p.room xs)) xs ∙ ap (λ n. drop n xs) same ∙ sym (drop_drop j (length (fitting size p.most p.room (drop j xs))) xs) in
      a_message (subst (AreCarried p size k) is rest)
