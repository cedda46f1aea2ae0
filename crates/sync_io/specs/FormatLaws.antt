-- What is read is a spelling, and a spelling is read, whatever follows it: of each field, and of fields that are joined.
use Rattle.std.proofs.Common.{◌≡◌, ℕ, zero, suc, ◌+◌, ◌-◌, ◌^◌, ◌<◌, ◌≤◌, Bool, true, false, cond, ltb, leb, eqb, List, [], ◌∷◌, ◌++◌, length, take, drop, Option, Some, None, Result, Ok, Err, refl, sym, ap, subst, ◌∙◌, append_assoc, arith, length-append, length-take, inl, inr}
use Rattle.std.specs.List.{flat_map, AllByRecursion}
use Rattle.std.proofs.lemmas.Bool.{cases_lt, lt-ltb, le-ltb, le-leb, lt-leb, eqb-true}
use Rattle.std.proofs.lemmas.List.{take_at, drop_at, take-append-drop, get_or-drop, append-nil}
use Rattle.std.proofs.lemmas.List.Concat.{flat_map-cons}
use Rattle.sync_io.specs.declared.varint.VarintFault.{VarintFault}
use Rattle.sync_io.specs.Varints.{varint, varint32_at, varint64_at}
use Rattle.sync_io.specs.VarintLaws.{IsBytes, Takes, varint32_again, varint64_again, varint32_takes, varint64_takes}
use Rattle.sync_io.specs.Formats.{found, ◌>>=◌, number_in, wide_in, bytes_in, body, body_in, both, both_in, only_in, seen_in, many_in, listed, listed_in, ended, all_in, tagged_in, tag_in}

-- values that fit are spelled, and read again
pub record IsFormat {A : Type 0} (text : A → List ℕ) (read : List ℕ → Option (A × List ℕ)) (Fits : A → Type 0) : Type 0 where
  pub takes : (bytes : List ℕ) (x : A × List ℕ) → IsBytes bytes → read bytes ≡ Some x → Takes bytes (text x.0) x.1 × Fits x.0
  pub again : (a : A) (rest : List ℕ) → Fits a → read (text a ++ rest) ≡ Some (a, rest)

-- ---- tools

abbrev some : {A : Type 0} → A → Option A
some x = Some x

pub some_is : {A : Type 0} (x y : A) → some x ≡ some y → x ≡ y
some_is x y e = cc

pub bind_some : {A B : Type 0} (o : Option A) (f : A → Option B) (y : B) → (o >>= f) ≡ Some y → (x : A) × (o ≡ Some x) × (f x ≡ Some y)
bind_some (Some x) f y e = (x, refl, e)
bind_some None f y e = absurd cc

pub bound : {A B : Type 0} (o : Option A) (f : A → Option B) (x : A) → o ≡ Some x → (o >>= f) ≡ f x
bound o f x e = ap (λ p. p >>= f) e

pub guard_some : {A : Type 0} (b : Bool) (x y : A) → cond b (some x) None ≡ some y → (b ≡ true) × (x ≡ y)
guard_some true x y e = (refl, cc)
guard_some false x y e = absurd cc

found_ok : {A : Type 0} (r : Result A VarintFault) (x : A) → found r ≡ Some x → r ≡ Ok x
found_ok (Ok y) x e = ap (λ v. Ok v) (some_is y x e)
found_ok (Err fault) x e = absurd cc

pub then_takes : (a x b y c : List ℕ) → Takes a x b → Takes b y c → Takes a (x ++ y) c
then_takes a x b y c p q = record { parts = p.parts ∙ ap (λ (t : List ℕ). x ++ t) q.parts ∙ sym (append_assoc x y c); rest_fits = q.rest_fits }

IsBytes-drop : (n : ℕ) (bytes : List ℕ) → IsBytes bytes → IsBytes (drop n bytes)
IsBytes-drop n bytes h i = rw get_or-drop (h (n + i))

ended_is : {A : Type 0} (x : A) (rest : List ℕ) (y : A) → ended x rest ≡ Some y → (rest ≡ []) × (x ≡ y)
ended_is x [] y e = (refl, some_is x y e)
ended_is x (b ∷ rest) y e = absurd cc

-- ---- single fields

pub number_is : IsFormat varint number_in (λ n. n < 2 ^ 32)
number_is = record {
  takes = λ bytes x fits e. varint32_takes bytes x fits (found_ok (varint32_at bytes) x e);
  again = λ n rest h. ap found (varint32_again n rest h);
}

pub wide_is : IsFormat varint wide_in (λ n. n < 2 ^ 64)
wide_is = record {
  takes = λ bytes x fits e. varint64_takes bytes x fits (found_ok (varint64_at bytes) x e);
  again = λ n rest h. ap found (varint64_again n rest h);
}

bytes_take : (count : ℕ) (bytes : List ℕ) (x : List ℕ × List ℕ) → IsBytes bytes → bytes_in count bytes ≡ Some x → Takes bytes x.0 x.1 × (length x.0 ≡ count)
bytes_take count bytes x fits e =
    elim (cases_lt (length bytes) count) [
      | inl lt ↦ absurd (let none : bytes_in count bytes ≡ None = rw lt-ltb refl in cc)
      | inr le ↦
          let is : bytes_in count bytes ≡ Some (take count bytes, drop count bytes) = rw le-ltb refl in
          subst (λ (y : List ℕ × List ℕ). Takes bytes y.0 y.1 × (length y.0 ≡ count)) (some_is (take count bytes, drop count bytes) x (sym is ∙ e))
          (record { parts = sym (take-append-drop count bytes); rest_fits = IsBytes-drop count bytes fits }, omega (arith, length-take count bytes))
    ]

bytes_again : (count : ℕ) (text rest : List ℕ) → length text ≡ count → bytes_in count (text ++ rest) ≡ Some (text, rest)
bytes_again count text rest h =
    let long : ltb (length (text ++ rest)) count ≡ false = le-ltb _ _ (omega (arith, length-append text rest)) in
    rw (long, take_at text rest count h, drop_at text rest count h) refl

pub bytes_is : (count : ℕ) → IsFormat (λ text. text) (bytes_in count) (λ text. length text ≡ count)
bytes_is count = record { takes = bytes_take count; again = bytes_again count }

body_take : (bytes : List ℕ) (x : List ℕ × List ℕ) → IsBytes bytes → body_in bytes ≡ Some x → Takes bytes (body x.0) x.1 × (length x.0 < 2 ^ 32)
body_take bytes x fits e =
    let n = bind_some (number_in bytes) (λ n. bytes_in n.0 n.1) x e in
    let first = number_is.takes bytes n.0 fits n.1 in
    let second = bytes_take n.0.0 n.0.1 x first.0.rest_fits n.2 in
    let all = then_takes bytes (varint n.0.0) n.0.1 x.0 x.1 first.0 second.0 in
    (subst (λ k. Takes bytes (varint k ++ x.0) x.1) (sym second.1) all, omega (arith, first.1, second.1))

body_again : (text rest : List ℕ) → length text < 2 ^ 32 → body_in (body text ++ rest) ≡ Some (text, rest)
body_again text rest h =
    ap body_in (append_assoc (varint (length text)) text rest)
    ∙ bound (number_in (varint (length text) ++ (text ++ rest))) (λ n. bytes_in n.0 n.1) (length text, text ++ rest) (number_is.again (length text) (text ++ rest) h)
    ∙ bytes_again (length text) text rest refl

pub body_is : IsFormat body body_in (λ text. length text < 2 ^ 32)
body_is = record { takes = body_take; again = body_again }

-- ---- joined fields

module _ {A B : Type 0} {a : A → List ℕ} {b : B → List ℕ} {read_a : List ℕ → Option (A × List ℕ)} {read_b : List ℕ → Option (B × List ℕ)} {FitsA : A → Type 0} {FitsB : B → Type 0} (is_a : IsFormat a read_a FitsA) (is_b : IsFormat b read_b FitsB) where
  both_take : (bytes : List ℕ) (x : (A × B) × List ℕ) → IsBytes bytes → both_in read_a read_b bytes ≡ Some x → Takes bytes (both a b x.0) x.1 × (FitsA x.0.0 × FitsB x.0.1)
  both_take bytes x fits e =
      let p = bind_some (read_a bytes) (λ x. read_b x.1 >>= λ y. Some ((x.0, y.0), y.1)) x e in
      let q = bind_some (read_b p.0.1) (λ y. Some ((p.0.0, y.0), y.1)) x p.2 in
      let first = is_a.takes bytes p.0 fits p.1 in
      let second = is_b.takes p.0.1 q.0 first.0.rest_fits q.1 in
      subst (λ (y : (A × B) × List ℕ). Takes bytes (both a b y.0) y.1 × (FitsA y.0.0 × FitsB y.0.1)) (some_is ((p.0.0, q.0.0), q.0.1) x q.2)
      (then_takes bytes (a p.0.0) p.0.1 (b q.0.0) q.0.1 first.0 second.0, (first.1, second.1))

  both_again : (x : A × B) (rest : List ℕ) → FitsA x.0 × FitsB x.1 → both_in read_a read_b (both a b x ++ rest) ≡ Some (x, rest)
  both_again x rest fits =
      ap (both_in read_a read_b) (append_assoc (a x.0) (b x.1) rest)
      ∙ bound (read_a (a x.0 ++ (b x.1 ++ rest))) (λ x. read_b x.1 >>= λ y. Some ((x.0, y.0), y.1)) (x.0, b x.1 ++ rest) (is_a.again x.0 (b x.1 ++ rest) fits.0)
      ∙ bound (read_b (b x.1 ++ rest)) (λ y. Some ((x.0, y.0), y.1)) (x.1, rest) (is_b.again x.1 rest fits.1)

  pub both_is : IsFormat (both a b) (both_in read_a read_b) (λ x. FitsA x.0 × FitsB x.1)
  both_is = record { takes = both_take; again = both_again }

module _ {A : Type 0} {a : A → List ℕ} {read : List ℕ → Option (A × List ℕ)} {Fits : A → Type 0} (is : IsFormat a read Fits) where
  only_take : (test : A → Bool) (bytes : List ℕ) (x : A × List ℕ) → IsBytes bytes → only_in test read bytes ≡ Some x → Takes bytes (a x.0) x.1 × (Fits x.0 × (test x.0 ≡ true))
  only_take test bytes x fits e =
      let p = bind_some (read bytes) (λ x. cond (test x.0) (Some x) None) x e in
      let g = guard_some (test p.0.0) p.0 x p.2 in
      let first = is.takes bytes p.0 fits p.1 in
      subst (λ (y : A × List ℕ). Takes bytes (a y.0) y.1 × (Fits y.0 × (test y.0 ≡ true))) g.1 (first.0, (first.1, g.0))

  only_again : (test : A → Bool) (x : A) (rest : List ℕ) → Fits x × (test x ≡ true) → only_in test read (a x ++ rest) ≡ Some (x, rest)
  only_again test x rest fits =
      bound (read (a x ++ rest)) (λ x. cond (test x.0) (Some x) None) (x, rest) (is.again x rest fits.0)
      ∙ ap (λ b. cond b (Some (x, rest)) None) fits.1

  pub only_is : (test : A → Bool) → IsFormat a (only_in test read) (λ x. Fits x × (test x ≡ true))
  only_is test = record { takes = only_take test; again = only_again test }

  many_take : (n : ℕ) (bytes : List ℕ) (x : List A × List ℕ) → IsBytes bytes → many_in read n bytes ≡ Some x → Takes bytes (flat_map a x.0) x.1 × (length x.0 ≡ n) × AllByRecursion Fits x.0
  unfolding many_in
  many_take zero bytes x fits e =
      subst (λ (y : List A × List ℕ). Takes bytes (flat_map a y.0) y.1 × (length y.0 ≡ 0) × AllByRecursion Fits y.0) (some_is ([], bytes) x e) (record { parts = refl; rest_fits = fits }, refl, tt)
  many_take (suc n) bytes x fits e =
      let p = bind_some (read bytes) (λ x. many_in read n x.1 >>= λ xs. Some (x.0 ∷ xs.0, xs.1)) x e in
      let q = bind_some (many_in read n p.0.1) (λ xs. Some (p.0.0 ∷ xs.0, xs.1)) x p.2 in
      let first = is.takes bytes p.0 fits p.1 in
      let second = many_take n p.0.1 q.0 first.0.rest_fits q.1 in
      let all = then_takes bytes (a p.0.0) p.0.1 (flat_map a q.0.0) q.0.1 first.0 second.0 in
      subst (λ (y : List A × List ℕ). Takes bytes (flat_map a y.0) y.1 × (length y.0 ≡ suc n) × AllByRecursion Fits y.0) (some_is (p.0.0 ∷ q.0.0, q.0.1) x q.2)
      (rw flat_map-cons all, ap suc second.1, (first.1, second.2))

  many_again : (xs : List A) (rest : List ℕ) → AllByRecursion Fits xs → many_in read (length xs) (flat_map a xs ++ rest) ≡ Some (xs, rest)
  unfolding many_in
  many_again [] rest fits = refl
  many_again (x ∷ xs) rest fits =
      ap (many_in read (suc (length xs))) (ap (λ (t : List ℕ). t ++ rest) (flat_map-cons a x xs) ∙ append_assoc (a x) (flat_map a xs) rest)
      ∙ bound (read (a x ++ (flat_map a xs ++ rest))) (λ x. many_in read (length xs) x.1 >>= λ xs. Some (x.0 ∷ xs.0, xs.1)) (x, flat_map a xs ++ rest) (is.again x (flat_map a xs ++ rest) fits.0)
      ∙ bound (many_in read (length xs) (flat_map a xs ++ rest)) (λ ys. Some (x ∷ ys.0, ys.1)) (xs, rest) (many_again xs rest fits.1)

  listed_take : (most : ℕ) (bytes : List ℕ) (x : List A × List ℕ) → IsBytes bytes → listed_in most read bytes ≡ Some x → Takes bytes (listed a x.0) x.1 × ((length x.0 < 2 ^ 32) × (length x.0 ≤ most) × AllByRecursion Fits x.0)
  listed_take most bytes x fits e =
      let n = bind_some (number_in bytes) (λ n. cond (leb n.0 most) (many_in read n.0 n.1) None) x e in
      let first = number_is.takes bytes n.0 fits n.1 in
      elim (cases_lt most n.0.0) [
        | inl lt ↦ absurd (let no : leb n.0.0 most ≡ false = lt-leb n.0.0 most lt in let e2 : None ≡ Some x = sym (ap (λ b. cond b (many_in read n.0.0 n.0.1) None) no) ∙ n.2 in cc)
        | inr le ↦
            let yes : leb n.0.0 most ≡ true = le-leb n.0.0 most le in
            let second = many_take n.0.0 n.0.1 x first.0.rest_fits (sym (ap (λ b. cond b (many_in read n.0.0 n.0.1) None) yes) ∙ n.2) in
            let all = then_takes bytes (varint n.0.0) n.0.1 (flat_map a x.0) x.1 first.0 second.0 in
            (subst (λ k. Takes bytes (varint k ++ flat_map a x.0) x.1) (sym second.1) all, (omega (arith, first.1, second.1), omega (arith, second.1), second.2))
      ]

  listed_again : (most : ℕ) (xs : List A) (rest : List ℕ) → (length xs < 2 ^ 32) × (length xs ≤ most) × AllByRecursion Fits xs → listed_in most read (listed a xs ++ rest) ≡ Some (xs, rest)
  listed_again most xs rest fits =
      ap (listed_in most read) (append_assoc (varint (length xs)) (flat_map a xs) rest)
      ∙ bound (number_in (varint (length xs) ++ (flat_map a xs ++ rest))) (λ n. cond (leb n.0 most) (many_in read n.0 n.1) None) (length xs, flat_map a xs ++ rest) (number_is.again (length xs) (flat_map a xs ++ rest) fits.0)
      ∙ ap (λ b. cond b (many_in read (length xs) (flat_map a xs ++ rest)) None) (le-leb (length xs) most fits.1)
      ∙ many_again xs rest fits.2

  pub listed_is : (most : ℕ) → IsFormat (listed a) (listed_in most read) (λ xs. (length xs < 2 ^ 32) × (length xs ≤ most) × AllByRecursion Fits xs)
  listed_is most = record { takes = listed_take most; again = listed_again most }

  -- all of the bytes
  pub all_takes : (bytes : List ℕ) (x : A) → IsBytes bytes → all_in read bytes ≡ Some x → (bytes ≡ a x) × Fits x
  all_takes bytes x fits e =
      let p = bind_some (read bytes) (λ x. ended x.0 x.1) x e in
      let first = is.takes bytes p.0 fits p.1 in
      let last = ended_is p.0.0 p.0.1 x p.2 in
      (first.0.parts ∙ ap (λ (t : List ℕ). a p.0.0 ++ t) last.0 ∙ append-nil (a p.0.0) ∙ ap a last.1, subst Fits last.1 first.1)

  pub all_again : (x : A) → Fits x → all_in read (a x) ≡ Some x
  all_again x fits =
      ap (all_in read) (sym (append-nil (a x)))
      ∙ bound (read (a x ++ [])) (λ x. ended x.0 x.1) (x, []) (is.again x [] fits)

  -- under another form
  pub seen_is : {B : Type 0} (view : A → B) (back : B → A) → ((x : A) → back (view x) ≡ x) → ((y : B) → view (back y) ≡ y) → IsFormat (λ y. a (back y)) (seen_in view read) (λ y. Fits (back y))
  seen_is {B = B} view back there here = record {
    takes = λ bytes x fits e.
        let p = bind_some (read bytes) (λ x. Some (view x.0, x.1)) x e in
        let first = is.takes bytes p.0 fits p.1 in
        subst (λ (y : B × List ℕ). Takes bytes (a (back y.0)) y.1 × Fits (back y.0)) (some_is (view p.0.0, p.0.1) x p.2)
        (subst (λ v. Takes bytes (a v) p.0.1 × Fits v) (sym (there p.0.0)) first);
    again = λ y rest fits.
        bound (read (a (back y) ++ rest)) (λ x. Some (view x.0, x.1)) (back y, rest) (is.again (back y) rest fits)
        ∙ ap (λ (v : B). Some (v, rest)) (here y);
  }

-- ---- reading so many values, one after the other

-- these values stand before those that are read
abbrev pub with_front : {A : Type 0} → List A → Option (List A × List ℕ) → Option (List A × List ℕ)
with_front front (Some x) = Some (front ++ x.0, x.1)
with_front front None = None

regroup : {A : Type 0} (front : List A) (x : A) (o : Option (List A × List ℕ)) → with_front front (o >>= λ xs. Some (x ∷ xs.0, xs.1)) ≡ with_front (front ++ x ∷ []) o
regroup front x None = refl
regroup {A = A} front x (Some xs) = ap (λ (ys : List A). Some (ys, xs.1)) (sym (append_assoc front (x ∷ []) xs.0))

module _ {A : Type 0} (read : List ℕ → Option (A × List ℕ)) where
  pub one_more : (front : List A) (count done : ℕ) (bytes : List ℕ) (x : A) (rest : List ℕ) (all : Option (List A × List ℕ)) → done < count → read bytes ≡ Some (x, rest)
      → with_front front (many_in read (count - done) bytes) ≡ all → with_front (front ++ x ∷ []) (many_in read (count - (done + 1)) rest) ≡ all
  unfolding many_in
  one_more front count done bytes x rest all lt is so_far =
      let turns : count - done ≡ suc (count - (done + 1)) = omega arith in
      sym (regroup front x (many_in read (count - (done + 1)) rest))
      ∙ ap (with_front front) (sym (ap (λ n. many_in read n bytes) turns ∙ bound (read bytes) (λ x. many_in read (count - (done + 1)) x.1 >>= λ xs. Some (x.0 ∷ xs.0, xs.1)) (x, rest) is))
      ∙ so_far

  pub none_more : (front : List A) (count done : ℕ) (bytes : List ℕ) (all : Option (List A × List ℕ)) → done < count → read bytes ≡ None
      → with_front front (many_in read (count - done) bytes) ≡ all → all ≡ None
  unfolding many_in
  none_more front count done bytes all lt is so_far =
      let turns : count - done ≡ suc (count - (done + 1)) = omega arith in
      sym so_far
      ∙ ap (with_front front) (ap (λ n. many_in read n bytes) turns ∙ ap (λ o. o >>= λ x. many_in read (count - (done + 1)) x.1 >>= λ xs. Some (x.0 ∷ xs.0, xs.1)) is)

  pub all_read : (front : List A) (count done : ℕ) (bytes : List ℕ) (all : Option (List A × List ℕ)) → count ≤ done
      → with_front front (many_in read (count - done) bytes) ≡ all → all ≡ Some (front, bytes)
  unfolding many_in
  all_read front count done bytes all le so_far =
      let turns : count - done ≡ 0 = omega arith in
      sym so_far ∙ ap (λ n. with_front front (many_in read n bytes)) turns ∙ ap (λ (xs : List A). Some (xs, bytes)) (append-nil front)

-- ---- values of several forms

-- what is read behind a tag is spelled with that tag
pub record IsForm {A : Type 0} (text : A → List ℕ) (Fits : A → Type 0) (form : ℕ × (List ℕ → Option (A × List ℕ))) : Type 0 where
  pub takes : (bytes : List ℕ) (x : A × List ℕ) → IsBytes bytes → form.1 bytes ≡ Some x → Takes (form.0 ∷ bytes) (text x.0) x.1 × Fits x.0

module _ {A : Type 0} {a : A → List ℕ} {read : List ℕ → Option (A × List ℕ)} {FitsA : A → Type 0} (is : IsFormat a read FitsA) {B : Type 0} (make : A → B) where
  pub form_is : (text : B → List ℕ) (Fits : B → Type 0) (tag : ℕ) → ((x : A) → text (make x) ≡ tag ∷ a x) → ((x : A) → FitsA x → Fits (make x)) → IsForm text Fits (tag, seen_in make read)
  form_is text Fits tag spelled fit = record {
    takes = λ bytes x fits e.
        let p = bind_some (read bytes) (λ x. Some (make x.0, x.1)) x e in
        let first = is.takes bytes p.0 fits p.1 in
        subst (λ (y : B × List ℕ). Takes (tag ∷ bytes) (text y.0) y.1 × Fits y.0) (some_is (make p.0.0, p.0.1) x p.2) (
          record {
            parts = ap (λ (t : List ℕ). tag ∷ t) first.0.parts ∙ ap (λ (t : List ℕ). t ++ p.0.1) (sym (spelled p.0.0));
            rest_fits = first.0.rest_fits;
          },
          fit p.0.0 first.1,
        );
  }

  pub form_again : (x : A) (rest : List ℕ) → FitsA x → seen_in make read (a x ++ rest) ≡ Some (make x, rest)
  form_again x rest fits = bound (read (a x ++ rest)) (λ x. Some (make x.0, x.1)) (x, rest) (is.again x rest fits)

by_tag : {A : Type 0} (P : ℕ → Type 0) (n tag : ℕ) (here others : Option A) (x : A) (b : Bool) → eqb tag n ≡ b → cond b here others ≡ some x → (here ≡ some x → P n) → (others ≡ some x → P tag) → P tag
by_tag P n tag here others x true same e is isnt = subst P (sym (eqb-true tag n same)) (is e)
by_tag P n tag here others x false same e is isnt = isnt e

module _ {A : Type 0} (text : A → List ℕ) (Fits : A → Type 0) where
  tagged_takes : (forms : List (ℕ × (List ℕ → Option (A × List ℕ)))) → AllByRecursion (IsForm text Fits) forms → (tag : ℕ) (bytes : List ℕ) (x : A × List ℕ) → IsBytes bytes → tagged_in forms tag bytes ≡ Some x → Takes (tag ∷ bytes) (text x.0) x.1 × Fits x.0
  tagged_takes [] all tag bytes x fits e = absurd cc
  tagged_takes (form ∷ forms) all tag bytes x fits e =
      by_tag (λ t. Takes (t ∷ bytes) (text x.0) x.1 × Fits x.0) form.0 tag (form.1 bytes) (tagged_in forms tag bytes) x (eqb tag form.0) refl e (all.0.takes bytes x fits) (tagged_takes forms all.1 tag bytes x fits)

  pub tag_takes : (forms : List (ℕ × (List ℕ → Option (A × List ℕ)))) → AllByRecursion (IsForm text Fits) forms → (bytes : List ℕ) (x : A × List ℕ) → IsBytes bytes → tag_in forms bytes ≡ Some x → Takes bytes (text x.0) x.1 × Fits x.0
  tag_takes forms all [] x fits e = absurd cc
  tag_takes forms all (tag ∷ bytes) x fits e = tagged_takes forms all tag bytes x (λ i. fits (suc i)) e
