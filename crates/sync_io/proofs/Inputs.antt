-- Reading more bytes leaves the input that is ahead as it was.
use Rattle.std.proofs.Common.{◌≡◌, ℕ, ◌+◌, ◌-◌, ◌≤◌, List, ◌++◌, length, take, drop, Option, None, Some, nat_le, sym, ap, ◌∙◌, append_assoc, arith, length-append}
use Rattle.std.specs.Option.{option_map}
use Rattle.std.proofs.Math.Seq.{take-append-add, take-append_seam, take-add}
use Rattle.std.proofs.lemmas.Grind.{common_steps}
use Rattle.std.proofs.lemmas.List.{take-append-drop, length-take-le}
use Rattle.sync_io.specs.Devices.{Gave, Took, TookSome}
use Rattle.sync_io.specs.Input.{max_input, input_ahead, input_of}

take_past : (n : ℕ) (p rest : List ℕ) → length p ≤ n → take n (p ++ rest) ≡ p ++ take (n - length p) rest
take_past n p rest h = ap (λ m. take m (p ++ rest)) (let e : n ≡ length p + (n - length p) = omega arith in e) ∙ take-append-add p rest (n - length p)

pub input_step : (taken : ℕ) (held p rest : List ℕ) → taken + length p ≤ max_input → input_ahead (taken + length p) (held ++ p) rest ≡ input_ahead taken held (p ++ rest)
input_step taken held p rest h =
    let same : (held ++ p) ++ take (max_input - (taken + length p)) rest ≡ held ++ take (max_input - taken) (p ++ rest) =
    append_assoc held p _ ∙ ap (λ x. held ++ x) (ap (λ n. p ++ take n rest) (omega arith) ∙ sym (take_past (max_input - taken) p rest (omega arith))) in
    let count : taken + length p + length rest ≡ taken + length (p ++ rest) = omega (arith, length-append p rest) in
    λ i. record { ahead = same i; is_cut = nat_le max_input (count i) }

pub gave_step : (taken : ℕ) (held p : List ℕ) (old new : Option (List ℕ)) → taken + length p ≤ max_input → Gave p old new → input_of (taken + length p) (held ++ p) new ≡ input_of taken held old
gave_step taken held p old None h e = ap (input_of taken held) (sym e)
gave_step taken held p old (Some rest) h e = ap Some (input_step taken held p rest h) ∙ ap (input_of taken held) (sym e)

-- what was read and what is left are all that there was
pub read_and_left : (n place : ℕ) (bytes into : List ℕ) → n ≤ length (drop place bytes) → drop place bytes ≡ take n (take n (drop place bytes) ++ drop n into) ++ drop (place + n) bytes
read_and_left n place bytes into h =
    let long : length (take n (drop place bytes)) ≡ n = length-take-le n (drop place bytes) h in
    let front : take n (take n (drop place bytes) ++ drop n into) ≡ take n (drop place bytes) =
    ap (λ m. take m (take n (drop place bytes) ++ drop n into)) (sym long) ∙ take-append_seam (take n (drop place bytes)) (drop n into) in
    let back : drop n (drop place bytes) ≡ drop (place + n) bytes = grind (arith, common_steps) in
    sym (take-append-drop n (drop place bytes)) ∙ (λ i. sym front i ++ back i)

-- a sink that took two pieces took both
pub took_more : (p q : List ℕ) (old mid new : Option (List ℕ)) → Took p old mid → Took q mid new → Took (p ++ q) old new
took_more p q None mid new e f = f ∙ ap (option_map (λ had. had ++ q)) e
took_more p q (Some had) mid new e f = f ∙ ap (option_map (λ had. had ++ q)) e ∙ ap Some (append_assoc had p q)

-- the first of the bytes, and then some of the others
pub took_part : (bytes : List ℕ) (done n : ℕ) (old mid new : Option (List ℕ)) → Took (take done bytes) old mid → Took (take n (drop done bytes)) mid new → Took (take (done + n) bytes) old new
took_part bytes done n old mid new e f = ap (λ p. p) (took_more (take done bytes) (take n (drop done bytes)) old mid new e f) ∙ ap (λ p. option_map (λ had. had ++ p) old) (sym (take-add done n bytes))

-- some of the bytes behind those, where the rest was written in part
pub took_on : (bytes : List ℕ) (done : ℕ) (old mid new : Option (List ℕ)) → Took (take done bytes) old mid → TookSome (drop done bytes) mid new → TookSome bytes old new
took_on bytes done old mid new e f = (done + f.0, took_part bytes done f.0 old mid new e f.1)
