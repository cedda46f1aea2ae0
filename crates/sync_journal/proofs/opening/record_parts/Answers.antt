use Rattle.std.proofs.Common.{◌≡◌, Bool, ◌+◌, ◌-◌, ◌<◌, ◌∷◌, [], ◌++◌, Some, List, ℕ, zero, suc, refl, length, map, get_or, drop, take, sym, ◌∙◌, ap, subst, arith, take_all, length-drop, None, rules}
use Rattle.std.proofs.lemmas.List.{drop_more, map_push}
use Rattle.std.specs.Prelude.{All}
use Rattle.std.proofs.lemmas.List.Elements.{All-push}
use Rattle.byte_lists.specs.Parts.{part, IsWithin}
use Rattle.sync_journal.specs.Records.{differ_at, kept, magic, size_of}
use Rattle.sync_journal.specs.Records.Reading.{BadAt}
use Rattle.sync_journal.proofs.Reading.{ReadSoFar, bad_magic, read_all, read_bad, read_none, read_one}
use Rattle.sync_journal.proofs.opening.record_parts.Goals as goal

behind_gate : (place : ℕ) (bytes : List ℕ) → place < length bytes → get_or bytes place 0 ≡ 1 → drop place bytes ≡ 1 ∷ take (length bytes - (place + 1)) (drop (place + 1) bytes)
behind_gate place bytes inside is_open =
    drop_more bytes place 0 inside ∙ ap (λ (g : ℕ). g ∷ drop (place + 1) bytes) is_open
    ∙ ap (λ (l : List ℕ). 1 ∷ l) (sym (take_all (length bytes - (place + 1)) (drop (place + 1) bytes) (omega (arith, length-drop (place + 1) bytes))))

pub returns-in-None-clause-bad : goal.returns-in-None-clause-bad
returns-in-None-clause-bad c place is =
    let p : c.loop-place.place ≡ place = cc in
    let inv = c.loop-place.invariant in
    read_bad c.args.notes _ c.loop-place.place c.args.bytes.now inv.so_far _ (behind_gate c.loop-place.place c.args.bytes.now inv.inside c.loop-place-test.true) c.requires (c.whole_size.ensures.none c.in-None.is) ∙ ap BadAt p

pub returns-in-Some-clause-bad : goal.returns-in-Some-clause-bad
returns-in-Some-clause-bad c place is =
    let p : c.in-Some.place ≡ place = cc in
    bad_magic c.args.notes c.args.bytes.now place c.requires (sym c.first_difference.ensures ∙ c.in-Some.is ∙ ap Some p)

drop_drop : (i j : ℕ) (xs : List ℕ) → drop j (drop i xs) ≡ drop (i + j) xs
drop_drop zero j xs = let e : j ≡ 0 + j = omega arith in ap (λ k. drop k xs) e
drop_drop (suc i) j [] = none j ∙ sym (none (suc i + j))
  where
    none : (k : ℕ) → drop {A = ℕ} k [] ≡ []
    none zero = refl
    none (suc k) = refl
drop_drop (suc i) j (x ∷ xs) = let e : suc i + j ≡ suc (i + j) = omega arith in drop_drop i j xs ∙ ap (λ k. drop k (x ∷ xs)) (sym e)

pub loop-place-init : goal.loop-place-init
loop-place-init c =
    let bytes = c.args.bytes.now in
    let same : differ_at 0 magic bytes ≡ None = sym c.first_difference.ensures ∙ c.in_default.is in
    record {
      so_far = subst (λ (l : List (ℕ × ℕ)). ReadSoFar c.args.notes (map (part bytes) l) 8 bytes) (sym c.new-parts.ensures.items) (read_none c.args.notes bytes same);
      either = λ others. ([], read_none others bytes same);
      inside = omega (arith, c.requires);
      within = search rules;
    }

pub returns-clause-either : goal.returns-clause-either
returns-clause-either c others =
    let bytes = c.args.bytes.now in
    let place = c.loop-place.place in
    let inv = c.loop-place.invariant in
    let found = inv.either others in (found.0, read_all others found.0 place bytes found.1 (get_or bytes place 0) (drop (place + 1) bytes) (drop_more bytes place 0 inv.inside) c.loop-place-test.false)

pub loop-place-preserved : goal.loop-place-preserved
loop-place-preserved c =
    let inv = c.loop-place.invariant in
    let w = c.whole_size.ensures.some c.in-Some-whole_size.size c.in-Some-whole_size.is in
    let bytes = c.args.bytes.now in
    let n = c.in-Some-whole_size.size in
    let place = c.loop-place.place in
    let old = c.loop-place.parts.items in
    let start = place + 5 in
    let rest = take (length bytes - (place + 1)) (drop (place + 1) bytes) in
    let is_rest : rest ≡ drop (place + 1) bytes = take_all (length bytes - (place + 1)) (drop (place + 1) bytes) (omega (arith, length-drop (place + 1) bytes)) in
    let long_rest : length rest ≡ length bytes - (place + 1) = ap length is_rest ∙ length-drop (place + 1) bytes in
    let counts : start + n - start ≡ size_of rest = omega (arith, w.0) in
    let five : start ≡ place + 1 + 4 = omega arith in
    let behind : drop start bytes ≡ drop 4 rest = ap (λ k. drop k bytes) five ∙ sym (drop_drop (place + 1) 4 bytes) ∙ ap (drop 4) (sym is_rest) in
    let body = part bytes (start, start + n) in
    let is_body : body ≡ take (size_of rest) (drop 4 rest) = ap (λ k. take k (drop start bytes)) counts ∙ ap (take (size_of rest)) behind in
    let short = w.1 in
    let long = w.2 in
    let places : place + 5 + size_of rest ≡ start + n = omega (arith, w.0) in
    let one : (notes : Bool) (all : List (List ℕ)) → ReadSoFar notes all place bytes → ReadSoFar notes (all ++ kept notes body) (start + n) bytes = λ notes all so_far.
    subst (λ (k : ℕ). ReadSoFar notes (all ++ kept notes body) k bytes) places
    (read_one notes all place bytes so_far rest body (behind_gate place bytes inv.inside c.loop-place-test.true) (omega (arith, w.0, short)) (omega (arith, w.0, long)) is_body) in
    record {
      so_far = subst (λ (rs : List (List ℕ)). ReadSoFar c.args.notes rs (start + n) bytes) (sym c.in_ok-keep_part.ensures.kept) (one c.args.notes (map (part bytes) old) inv.so_far);
      either = λ others. ((inv.either others).0 ++ kept others body, one others (inv.either others).0 (inv.either others).1);
      inside = omega (arith, w.0, long, long_rest, inv.inside);
      within = c.in_ok-keep_part.ensures.within inv.within;
    }
