-- The numbers of lives as a map keeps them.
use Rattle.std.proofs.Common.{◌≡◌, ℕ, Bool, true, false, List, refl, ap, ◌∙◌, arith, cond, Option, Some}
use Rattle.std.specs.Prelude.{bytes_eq, max}
use Rattle.std.specs.BTreeMap.{BTreeMap, get}
use Rattle.std.specs.Cmp.Lexicographic.{slice_cmp}
use Rattle.std.specs.Ordering.{nat_cmp, is_eq}
use Rattle.std.specs.Option.{unwrap_or}
use Rattle.std.proofs.lemmas.Cmp.{same_from_slice_cmp}
use Rattle.std.proofs.lemmas.Bool.Decides.{nat_tests}
use Rattle.std.proofs.lemmas.Slice.Eq.{bytes_eq-Decides}
use Rattle.std.proofs.lemmas.Bool.{leb-true}
use Rattle.life_bytes.specs.Parts.{TokenParts}
use Rattle.life_marks.specs.Reached.{raised, has}

same_cmp : (a b : List ℕ) → is_eq (slice_cmp nat_cmp a b) ≡ bytes_eq a b
same_cmp a b = same_from_slice_cmp nat_cmp is_eq bytes_eq refl (λ y ys. refl) (λ x xs. refl) (λ x y xs ys o h. grind (arith, nat_tests)) a b (slice_cmp nat_cmp a b) refl

-- where the token is there, nothing changes
there_by : (token : TokenParts) (numbers : List ℕ → ℕ) (life : List ℕ) (b : Bool) → bytes_eq token.life life ≡ b → has numbers token ≡ true
    → numbers life ≡ cond b (max token.number (numbers life)) (numbers life)
there_by token numbers life true e h =
    let at : numbers token.life ≡ numbers life = ap numbers ((bytes_eq-Decides token.life life).0 e) in
    omega (arith, at, leb-true token.number (numbers token.life) h)
there_by token numbers life false e h = refl

pub is_there : (token : TokenParts) (numbers : List ℕ → ℕ) (life : List ℕ) → has numbers token ≡ true → numbers life ≡ raised token numbers life
is_there token numbers life h = there_by token numbers life (bytes_eq token.life life) refl h

-- where it isn't, its number is put there
put_by : (token : TokenParts) (numbers : List ℕ → ℕ) (life : List ℕ) (o : Option ℕ) (b : Bool) → bytes_eq token.life life ≡ b → has numbers token ≡ false → unwrap_or o 0 ≡ numbers life
    → unwrap_or (cond b (Some token.number) o) 0 ≡ cond b (max token.number (numbers life)) (numbers life)
put_by token numbers life o true e h is =
    let at : numbers token.life ≡ numbers life = ap numbers ((bytes_eq-Decides token.life life).0 e) in
    grind (arith, nat_tests, at, h)
put_by token numbers life o false e h is = is

pub is_put : (old new : BTreeMap (List ℕ) ℕ) (token : TokenParts) (life : List ℕ) → has (λ l. unwrap_or (get (slice_cmp nat_cmp) old l) 0) token ≡ false
    → get (slice_cmp nat_cmp) new life ≡ cond (is_eq (slice_cmp nat_cmp token.life life)) (Some token.number) (get (slice_cmp nat_cmp) old life)
    → unwrap_or (get (slice_cmp nat_cmp) new life) 0 ≡ raised token (λ l. unwrap_or (get (slice_cmp nat_cmp) old l) 0) life
is_put old new token life h e =
    ap (λ o. unwrap_or o 0) (e ∙ ap (λ b. cond b (Some token.number) (get (slice_cmp nat_cmp) old life)) (same_cmp token.life life))
    ∙ put_by token (λ l. unwrap_or (get (slice_cmp nat_cmp) old l) 0) life (get (slice_cmp nat_cmp) old life) (bytes_eq token.life life) refl h refl

-- the same, where what is put is named otherwise
pub is_put_as : (old new : BTreeMap (List ℕ) ℕ) (token : TokenParts) (key : List ℕ) (n : ℕ) (life : List ℕ) → key ≡ token.life → n ≡ token.number → has (λ l. unwrap_or (get (slice_cmp nat_cmp) old l) 0) token ≡ false
    → get (slice_cmp nat_cmp) new life ≡ cond (is_eq (slice_cmp nat_cmp key life)) (Some n) (get (slice_cmp nat_cmp) old life)
    → unwrap_or (get (slice_cmp nat_cmp) new life) 0 ≡ raised token (λ l. unwrap_or (get (slice_cmp nat_cmp) old l) 0) life
is_put_as old new token key n life k m h e =
    is_put old new token life h (e ∙ ap (λ (x : List ℕ). cond (is_eq (slice_cmp nat_cmp x life)) (Some n) (get (slice_cmp nat_cmp) old life)) k ∙ ap (λ (x : ℕ). cond (is_eq (slice_cmp nat_cmp token.life life)) (Some x) (get (slice_cmp nat_cmp) old life)) m)
