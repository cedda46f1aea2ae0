-- Writes one after the other.
use Rattle.std.proofs.Common.{◌≡◌, ℕ, zero, suc, ◌+◌, ◌-◌, ◌<◌, ◌≤◌, List, [], ◌∷◌, ◌++◌, length, take, drop, get_or, refl, sym, ◌∙◌, ap, arith, append_assoc, append-nil, length-append, length-take, length-drop, take_at, drop_at, drop-drop}
use Rattle.std.proofs.lemmas.List.{take-append-drop, take-append-le, drop_more, get_or-append_right}
use Rattle.std.proofs.Math.Seq.{take-append-add, drop-append-add}
use Rattle.sync_disk.specs.Disk.{put}

-- behind a front
pub put_front : (front rest : List ℕ) (place i : ℕ) (bytes : List ℕ) → place ≡ length front + i → put (front ++ rest) place bytes ≡ front ++ put rest i bytes
put_front front rest place i bytes is =
    let there : place + length bytes ≡ length front + (i + length bytes) = omega (arith, is) in
    let before : take place (front ++ rest) ≡ front ++ take i rest = ap (λ (n : ℕ). take n (front ++ rest)) is ∙ take-append-add front rest i in
    let after : drop (place + length bytes) (front ++ rest) ≡ drop (i + length bytes) rest = ap (λ (n : ℕ). drop n (front ++ rest)) there ∙ drop-append-add front rest (i + length bytes) in
    ap (λ (l : List ℕ). l ++ bytes ++ drop (place + length bytes) (front ++ rest)) before
    ∙ ap (λ (l : List ℕ). (front ++ take i rest) ++ bytes ++ l) after
    ∙ append_assoc (front ++ take i rest) bytes (drop (i + length bytes) rest)
    ∙ append_assoc front (take i rest) (bytes ++ drop (i + length bytes) rest)
    ∙ ap (λ (l : List ℕ). front ++ l) (sym (append_assoc (take i rest) bytes (drop (i + length bytes) rest)))

-- of nothing
pub put_none : (b : List ℕ) (place : ℕ) → put b place [] ≡ b
put_none b place =
    let here : place + 0 ≡ place = omega arith in
    ap (λ (l : List ℕ). l ++ drop (place + 0) b) (append-nil (take place b)) ∙ ap (λ (n : ℕ). take place b ++ drop n b) here ∙ take-append-drop place b

pub length_put : (b : List ℕ) (place : ℕ) (bytes : List ℕ) → place ≤ length b → length (put b place bytes) ≡ place + length bytes + (length b - (place + length bytes))
length_put b place bytes le =
    omega (arith, le, length-append (take place b ++ bytes) (drop (place + length bytes) b), length-append (take place b) bytes, length-take place b, length-drop (place + length bytes) b)

-- the front stays
pub take_put : (b : List ℕ) (place : ℕ) (bytes : List ℕ) → place ≤ length b → take place (put b place bytes) ≡ take place b
take_put b place bytes le =
    ap (λ (l : List ℕ). take place l) (append_assoc (take place b) bytes (drop (place + length bytes) b)) ∙ take_at (take place b) (bytes ++ drop (place + length bytes) b) place (omega (arith, le, length-take place b))

drop_over : (n : ℕ) (xs ys : List ℕ) → drop n (xs ++ ys) ≡ drop n xs ++ drop (n - length xs) ys
drop_over n [] ys =
    let same : n ≡ n - 0 = omega arith in
    drop_nil n ∙ ap (λ (k : ℕ). drop n [] ++ drop k ys) same
  where
    drop_nil : (n : ℕ) → drop n ys ≡ drop n [] ++ drop n ys
    drop_nil zero = refl
    drop_nil (suc n) = refl
drop_over zero (x ∷ xs) ys =
    let none : 0 ≡ 0 - length (x ∷ xs) = omega arith in
    ap (λ (k : ℕ). x ∷ (xs ++ drop k ys)) none
drop_over (suc n) (x ∷ xs) ys =
    let same : n - length xs ≡ suc n - suc (length xs) = omega arith in
    drop_over n xs ys ∙ ap (λ (k : ℕ). drop n xs ++ drop k ys) same

put_over : (xs rest : List ℕ) (i : ℕ) (bytes : List ℕ) → i ≤ length xs → put (xs ++ rest) i bytes ≡ put xs i bytes ++ drop (i + length bytes - length xs) rest
put_over xs rest i bytes le =
    let n = i + length bytes in
    ap (λ (l : List ℕ). l ++ bytes ++ drop n (xs ++ rest)) (take-append-le i xs rest le) ∙ ap (λ (l : List ℕ). take i xs ++ bytes ++ l) (drop_over n xs rest)
    ∙ sym (append_assoc (take i xs ++ bytes) (drop n xs) (drop (n - length xs) rest))

-- a write within what was written, or at its end
pub put_within : (b : List ℕ) (at : ℕ) (behind : List ℕ) (place i : ℕ) (bytes : List ℕ) → at ≤ length b → place ≡ at + i → i ≤ length behind → put (put b at behind) place bytes ≡ put b at (put behind i bytes)
put_within b at behind place i bytes le is inside =
    let front = take at b in
    let rest = drop (at + length behind) b in
    let more = put behind i bytes in
    let long : length front ≡ at = omega (arith, le, length-take at b) in
    let over = i + length bytes - length behind in
    let there : at + length behind + over ≡ at + length more = omega (arith, length_put behind i bytes inside) in
    ap (λ (l : List ℕ). put l place bytes) (append_assoc front behind rest)
    ∙ put_front front (behind ++ rest) place i bytes (omega (arith, is, long))
    ∙ ap (λ (l : List ℕ). front ++ l) (put_over behind rest i bytes inside)
    ∙ ap (λ (l : List ℕ). front ++ (more ++ l)) (drop-drop over (at + length behind) b ∙ ap (λ (n : ℕ). drop n b) there)
    ∙ sym (append_assoc front more (drop (at + length more) b))

-- THE GATE: a byte behind a front
module _ (b : List ℕ) (gate : ℕ) (inside : gate < length b) where
  abbrev pub front : List ℕ
  front = take gate b

  abbrev pub rest : List ℕ
  rest = drop (gate + 1) b

  long : length front ≡ gate
  long = omega (arith, inside, length-take gate b)

  pub split : b ≡ front ++ get_or b gate 0 ∷ rest
  split = sym (take-append-drop gate b) ∙ ap (λ (l : List ℕ). take gate b ++ l) (drop_more b gate 0 inside)

  pub put_byte : (new : ℕ) → put b gate (new ∷ []) ≡ front ++ new ∷ rest
  put_byte new = append_assoc front (new ∷ []) rest

-- two files that differ in the gate alone
module _ (front rest : List ℕ) (gate : ℕ) (long : length front ≡ gate) where
  pub take_gate : (g : ℕ) → take gate (front ++ g ∷ rest) ≡ front
  take_gate g = take_at front (g ∷ rest) gate long

  pub drop_gate : (g : ℕ) → drop (gate + 1) (front ++ g ∷ rest) ≡ rest
  drop_gate g =
      ap (λ (l : List ℕ). drop (gate + 1) l) (sym (append_assoc front (g ∷ []) rest))
      ∙ drop_at (front ++ g ∷ []) rest (gate + 1) (omega (arith, long, length-append front (g ∷ [])))

  pub get_gate : (g : ℕ) → get_or (front ++ g ∷ rest) gate 0 ≡ g
  get_gate g = get_or-append_right front (g ∷ rest) gate gate 0 long (omega arith) ∙ ap (λ (i : ℕ). get_or (g ∷ rest) i 0) here
    where
      here : gate - gate ≡ 0
      here = omega arith

  pub set_gate : (g new : ℕ) → put (front ++ g ∷ rest) gate (new ∷ []) ≡ front ++ new ∷ rest
  set_gate g new = put_front front (g ∷ rest) gate 0 (new ∷ []) (omega (arith, long))

  pub put_behind : (g place j : ℕ) (bytes : List ℕ) → place ≡ gate + 1 + j → put (front ++ g ∷ rest) place bytes ≡ front ++ g ∷ put rest j bytes
  put_behind g place j bytes is =
      ap (λ (l : List ℕ). put l place bytes) (sym (append_assoc front (g ∷ []) rest))
      ∙ put_front (front ++ g ∷ []) rest place j bytes (omega (arith, is, long, length-append front (g ∷ [])))
      ∙ append_assoc front (g ∷ []) (put rest j bytes)
