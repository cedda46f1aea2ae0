-- What a message bears of changes that are light, and how long a log is by those whose changes it has.
use Rattle.std.proofs.Common.{◌≡◌, Option, None, map, ℕ, zero, suc, ◌+◌, ◌-◌, ◌*◌, ◌<◌, ◌≤◌, Bool, true, false, List, [], ◌∷◌, ◌++◌, Some, refl, sym, ap, ap₂, ◌∙◌, subst, arith, if◌then◌else◌, ◌==◌, length, length-append, append_assoc, drop, take, nat_le}
use Rattle.std.proofs.lemmas.Bool.{le-leb}
use Rattle.sync_theory.specs.Logs.{Made as LogMade, Entry as LogEntry, of_origin}
use Rattle.sync_theory.proofs.Server.{test_true}
use Rattle.sync_model.specs.Profile.{fitting}
use Rattle.sync_model.specs.Worlds.{Node, at}
use Rattle.sync_model.specs.Each.{Each, no_more, and_each}
use Rattle.sync_model.proofs.Progress.Sweeps.{dues}

some_same : {A : Type 0} (x y : A) → Some x ≡ Some y → x ≡ y
some_same x y e = cc

-- ---- what fits

-- where each is light, the first of them fit
pub first_fit : {A : Type 0} (size : A → ℕ) (u b n room : ℕ) (xs : List A) → Each (λ x. size x ≤ u) xs → b ≤ n → b * u ≤ room → (rest : List A) × (fitting size n room xs ≡ take b xs ++ rest)
first_fit size u zero n room xs f le fits = (fitting size n room xs, refl)
first_fit size u (suc b) n room [] f le fits = ([], refl)
first_fit size u (suc b) zero room (x ∷ xs) f le fits = absurd (omega arith)
first_fit {A} size u (suc b) (suc n) room (x ∷ xs) (and_each f fs) le fits =
    on (nat_le (size x) room) (le-leb (size x) room (omega arith)) (first_fit size u b n (room - size x) xs fs (omega arith) (omega arith))
  where
    on : (t : Bool) → t ≡ true → (rest : List A) × (fitting size n (room - size x) xs ≡ take b xs ++ rest) → (rest : List A) × ((if t then x ∷ fitting size n (room - size x) xs else []) ≡ x ∷ (take b xs ++ rest))
    on true e r = (r.0, ap (λ l. x ∷ l) r.1)
    on false e r = cc

pub first_each : {A : Type 0} {P : A → Type 0} (xs ys : List A) → Each P (xs ++ ys) → Each P xs
first_each [] ys f = no_more
first_each (x ∷ xs) ys (and_each f g) = and_each f (first_each xs ys g)

pub at_take : {A : Type 0} (n k : ℕ) (xs : List A) → k < n → at (take n xs) k ≡ at xs k
at_take zero k xs lt = absurd (omega arith)
at_take (suc n) k [] lt = refl
at_take (suc n) zero (x ∷ xs) lt = refl
at_take (suc n) (suc k) (x ∷ xs) lt = at_take n k xs (omega arith)

pub length_take : {A : Type 0} (n : ℕ) (xs : List A) → n ≤ length xs → length (take n xs) ≡ n
length_take zero xs le = refl
length_take (suc n) [] le = absurd (omega arith)
length_take (suc n) (x ∷ xs) le = ap suc (length_take n xs (omega arith))

pub all_taken : {A : Type 0} (n : ℕ) (xs : List A) → length xs ≤ n → take n xs ≡ xs
all_taken zero [] le = refl
all_taken zero (x ∷ xs) le = absurd (omega arith)
all_taken (suc n) [] le = refl
all_taken (suc n) (x ∷ xs) le = ap (λ l. x ∷ l) (all_taken n xs (omega arith))

pub there : {A : Type 0} (xs : List A) (k : ℕ) → k < length xs → (x : A) × (at xs k ≡ Some x)
there [] k lt = absurd (omega arith)
there (x ∷ xs) zero lt = (x, refl)
there (x ∷ xs) (suc k) lt = there xs k (omega arith)

-- two lists of one kind at each place are the same
pub ext : {A : Type 0} (xs ys : List A) → ((k : ℕ) → at xs k ≡ at ys k) → xs ≡ ys
ext [] [] f = refl
ext [] (y ∷ ys) f = let h = f 0 in cc
ext (x ∷ xs) [] f = let h = f 0 in cc
ext (x ∷ xs) (y ∷ ys) f = ap₂ (λ z l. z ∷ l) (some_same x y (f 0)) (ext xs ys (λ k. f (suc k)))

pub at_behind : {A : Type 0} (xs ys : List A) (k : ℕ) → at (xs ++ ys) (length xs + k) ≡ at ys k
at_behind [] ys k = let e : 0 + k ≡ k = omega arith in ap (at ys) e
at_behind (x ∷ xs) ys k = let e : suc (length xs) + k ≡ suc (length xs + k) = omega arith in ap (at (x ∷ (xs ++ ys))) e ∙ at_behind xs ys k

abbrev pub option_map : {A B : Type 0} → (A → B) → Option A → Option B
option_map f None = None
option_map f (Some x) = Some (f x)

pub at_map_is : {A B : Type 0} (f : A → B) (xs : List A) (k : ℕ) → at (map f xs) k ≡ option_map f (at xs k)
at_map_is f [] k = refl
at_map_is f (x ∷ xs) zero = refl
at_map_is f (x ∷ xs) (suc k) = at_map_is f xs k

-- what fits is a beginning
pub fitting_each : {A : Type 0} {P : A → Type 0} (size : A → ℕ) (n room : ℕ) (xs : List A) → Each P xs → Each P (fitting size n room xs)
fitting_each size n room [] f = no_more
fitting_each size zero room (x ∷ xs) f = no_more
fitting_each {A} {P} size (suc n) room (x ∷ xs) (and_each f fs) = on (nat_le (size x) room) (fitting_each size n (room - size x) xs fs)
  where
    on : (t : Bool) → Each P (fitting size n (room - size x) xs) → Each P (if t then x ∷ fitting size n (room - size x) xs else [])
    on true g = and_each f g
    on false g = no_more

pub fitting_few : {A : Type 0} (size : A → ℕ) (n room : ℕ) (xs : List A) → length (fitting size n room xs) ≤ length xs
fitting_few size n room [] = omega arith
fitting_few size zero room (x ∷ xs) = omega arith
fitting_few {A} size (suc n) room (x ∷ xs) = on (nat_le (size x) room) (fitting_few size n (room - size x) xs)
  where
    on : (t : Bool) → length (fitting size n (room - size x) xs) ≤ length xs → length (if t then x ∷ fitting size n (room - size x) xs else []) ≤ suc (length xs)
    on true le = omega arith
    on false le = omega arith

-- ---- the log by its origins

of_origin_append : {X : Type 0} (c : ℕ) (xs ys : List (LogEntry X)) → of_origin c (xs ++ ys) ≡ of_origin c xs ++ of_origin c ys
of_origin_append c [] ys = refl
of_origin_append {X} c (x ∷ xs) ys = ap (λ l. (if c == x.origin then record { base = x.base; change = x.change } ∷ [] else []) ++ l) (of_origin_append c xs ys) ∙ sym (append_assoc (if c == x.origin then record { base = x.base; change = x.change } ∷ [] else []) (of_origin c xs) (of_origin c ys))

of_origin_few : {X : Type 0} (c : ℕ) (xs : List (LogEntry X)) → length (of_origin c xs) ≤ length xs
of_origin_few c [] = omega arith
of_origin_few c (x ∷ xs) = on (c == x.origin) (of_origin_few c xs)
  where
    on : (b : Bool) → length (of_origin c xs) ≤ length xs → length ((if b then record { base = x.base; change = x.change } ∷ [] else []) ++ of_origin c xs) ≤ suc (length xs)
    on true le = omega arith
    on false le = omega arith

split_at : {A : Type 0} (n : ℕ) (xs : List A) → xs ≡ take n xs ++ drop n xs
split_at zero xs = refl
split_at (suc n) [] = refl
split_at (suc n) (x ∷ xs) = ap (λ l. x ∷ l) (split_at n xs)

length_drop : {A : Type 0} (n : ℕ) (xs : List A) → length (drop n xs) ≡ length xs - n
length_drop zero xs = omega arith
length_drop (suc n) [] = omega arith
length_drop (suc n) (x ∷ xs) = let h = length_drop n xs in omega arith

-- of the entries behind a version no more are of one origin than there are
pub own_behind : {X : Type 0} (c k : ℕ) (log : List (LogEntry X)) → length (of_origin c log) ≤ length (of_origin c (take k log)) + (length log - k)
own_behind c k log =
    let a = ap (λ l. length (of_origin c l)) (split_at k log) in
    let b = ap length (of_origin_append c (take k log) (drop k log)) ∙ length-append (of_origin c (take k log)) (of_origin c (drop k log)) in
    let d = of_origin_few c (drop k log) in
    let e = length_drop k log in
    omega arith

pub own_before : {X : Type 0} (c k : ℕ) (log : List (LogEntry X)) → length (of_origin c (take k log)) ≤ length (of_origin c log)
own_before c k log =
    let a = ap (λ l. length (of_origin c l)) (split_at k log) in
    let b = ap length (of_origin_append c (take k log) (drop k log)) ∙ length-append (of_origin c (take k log)) (of_origin c (drop k log)) in
    omega arith

-- the sum over nodes
dues_more : (f g : Node → ℕ) (nds : List Node) → ((x : Node) → f x ≤ g x) → dues f nds ≤ dues g nds
dues_more f g [] le = omega arith
dues_more f g (x ∷ nds) le = let a = le x in let b = dues_more f g nds le in omega arith

dues_rise : (f g : Node → ℕ) (nds : List Node) (i : ℕ) (nd : Node) → ((x : Node) → f x ≤ g x) → at nds i ≡ Some nd → suc (f nd) ≤ g nd → suc (dues f nds) ≤ dues g nds
dues_rise f g [] i nd le here up = cc
dues_rise f g (x ∷ nds) zero nd le here up = let same : x ≡ nd = cc in let h = subst (λ z. suc (f z) ≤ g z) (sym same) up in let b = dues_more f g nds le in omega arith
dues_rise f g (x ∷ nds) (suc i) nd le here up = let a = le x in let b = dues_rise f g nds i nd le here up in omega arith

pub dues_all : (f g : Node → ℕ) (nds : List Node) → ((j : ℕ) (x : Node) → at nds j ≡ Some x → f x ≤ g x) → dues f nds ≤ dues g nds
dues_all f g [] le = omega arith
dues_all f g (x ∷ nds) le = let a = le 0 x refl in let b = dues_all f g nds (λ j y h. le (suc j) y h) in omega arith

pub dues_but : (f g : Node → ℕ) (nds : List Node) (i : ℕ) (nd : Node) → ((j : ℕ) (x : Node) → at nds j ≡ Some x → f x ≤ g x) → at nds i ≡ Some nd → dues f nds + g nd ≤ dues g nds + f nd
dues_but f g [] i nd le here = cc
dues_but f g (x ∷ nds) zero nd le here =
    let same : x ≡ nd = cc in
    let a = ap f same in
    let b = ap g same in
    let c = dues_all f g nds (λ j y h. le (suc j) y h) in
    omega arith
dues_but f g (x ∷ nds) (suc i) nd le here = let a = le 0 x refl in let b = dues_but f g nds i nd (λ j y h. le (suc j) y h) here in omega arith

-- a log whose entries are all of these nodes is no longer than their entries
pub owned_log : {X : Type 0} (ident : Node → ℕ) (nds : List Node) (log : List (LogEntry X)) → Each (λ e. (i : ℕ) × (nd : Node) × (at nds i ≡ Some nd) × (ident nd ≡ e.origin)) log → length log ≤ dues (λ nd. length (of_origin (ident nd) log)) nds
owned_log ident nds [] no_more = omega arith
owned_log {X} ident nds (e ∷ log) (and_each f fs) =
    let h = owned_log ident nds log fs in
    let r = dues_rise (λ nd. length (of_origin (ident nd) log)) (λ nd. length (of_origin (ident nd) (e ∷ log))) nds f.0 f.1 (λ x. longer (ident x == e.origin) (of_origin (ident x) log)) f.2 (more (ident f.1 == e.origin) (test_true (ident f.1) e.origin f.3) (of_origin (ident f.1) log)) in
    omega arith
  where
    longer : (b : Bool) (l : List (LogMade X)) → length l ≤ length ((if b then record { base = e.base; change = e.change } ∷ [] else []) ++ l)
    longer true l = omega arith
    longer false l = omega arith

    more : (b : Bool) → b ≡ true → (l : List (LogMade X)) → suc (length l) ≤ length ((if b then record { base = e.base; change = e.change } ∷ [] else []) ++ l)
    more true e l = omega arith
    more false e l = cc
