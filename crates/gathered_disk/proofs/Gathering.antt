-- What a gathered disk shows after one write more.
use Rattle.std.proofs.Common.{◌≡◌, if◌then◌else◌, ℕ, ◌+◌, ◌<◌, ◌≤◌, Bool, true, false, List, [], ◌∷◌, ◌++◌, length, get_or, Option, Some, None, refl, sym, ◌∙◌, ap, arith, length-take}
use Rattle.std.proofs.lemmas.List.{map_push}
use Rattle.sync_disk.specs.Disk.{put}
use Rattle.sync_disk.specs.Strokes.{Stroke, done}
use Rattle.sync_disk.specs.Strokes.Act.{Sync as ask_sync}
use Rattle.sync_disk.specs.Images.{state}
use Rattle.sync_disk.proofs.Tearing.{content_push}
use Rattle.gathered_disk.specs.Gathered.{base_of, gathered, shown}
use Rattle.gathered_disk.specs.Strokes.{act_of, strokes_of}
use Rattle.gathered_disk.specs.declared.asked.Asked.{Asked}
use Rattle.gathered_disk.specs.declared.asked.Asked.TheVariants.{Sync}
use Rattle.gathered_disk.proofs.Writing.{put_none, put_within, front, rest, split, put_byte, put_behind, set_gate, length_put}

some_same : {x y : List ℕ} → Some x ≡ Some y → x ≡ y
some_same e = cc

pub pushed : (old new : List Asked) (x : Asked) → new ≡ old ++ x ∷ [] → strokes_of new ≡ strokes_of old ++ done (act_of x) ∷ []
pushed old new x is = ap strokes_of is ∙ map_push (λ (a : Asked). done (act_of a)) old x

-- a sync, if there was the memory to keep it
pub synced_if : (ok : Bool) (b : List ℕ) (old new : List Asked) → new ≡ (if ok then old ++ Sync ∷ [] else old) → (state b (strokes_of new)).content ≡ (state b (strokes_of old)).content
synced_if true b old new is = content_push b (strokes_of old) (done ask_sync) (strokes_of new) (pushed old new Sync is)
synced_if false b old new is = ap (λ (l : List Asked). (state b (strokes_of l)).content) is

-- the gate stands before what is written behind it
gate_first : (b : List ℕ) (gate new place j : ℕ) (bytes : List ℕ) → gate < length b → place ≡ gate + 1 + j → put (put b gate (new ∷ [])) place bytes ≡ put (put b place bytes) gate (new ∷ [])
gate_first b gate new place j bytes inside is =
    let f = front b gate inside in
    let r = rest b gate inside in
    let g = get_or b gate 0 in
    let long : length f ≡ gate = omega (arith, inside, length-take gate b) in
    ap (λ (l : List ℕ). put l place bytes) (put_byte b gate inside new) ∙ put_behind f r gate long new place j bytes is
    ∙ sym (ap (λ (l : List ℕ). put l gate (new ∷ [])) (ap (λ (l : List ℕ). put l place bytes) (split b gate inside) ∙ put_behind f r gate long g place j bytes is) ∙ set_gate f (put r j bytes) gate long g new)

pub more_behind : (b : List ℕ) (gate : ℕ) (behind : List ℕ) (opened : Bool) (place i : ℕ) (bytes : List ℕ) → gate < length b → place ≡ gate + 1 + i → i ≤ length behind
    → put (gathered b gate behind opened) place bytes ≡ gathered b gate (put behind i bytes) opened
more_behind b gate behind false place i bytes inside is le = put_within b (gate + 1) behind place i bytes (omega arith) is le
more_behind b gate behind true place i bytes inside is le =
    gate_first (put b (gate + 1) behind) gate 1 place i bytes (omega (arith, inside, length_put b (gate + 1) behind (omega arith))) is
    ∙ ap (λ (l : List ℕ). put l gate (1 ∷ [])) (put_within b (gate + 1) behind place i bytes (omega arith) is le)

put_again : (b : List ℕ) (gate : ℕ) → gate < length b → put (put b gate (1 ∷ [])) gate (1 ∷ []) ≡ put b gate (1 ∷ [])
put_again b gate inside =
    let f = front b gate inside in
    let r = rest b gate inside in
    let long : length f ≡ gate = omega (arith, inside, length-take gate b) in
    ap (λ (l : List ℕ). put l gate (1 ∷ [])) (put_byte b gate inside 1) ∙ set_gate f r gate long 1 1 ∙ sym (put_byte b gate inside 1)

pub gate_opened : (b : List ℕ) (gate : ℕ) (behind : List ℕ) (opened : Bool) → gate < length b → put (gathered b gate behind opened) gate (1 ∷ []) ≡ gathered b gate behind true
gate_opened b gate behind false inside = refl
gate_opened b gate behind true inside = put_again (put b (gate + 1) behind) gate (omega (arith, inside, length_put b (gate + 1) behind (omega arith)))

-- nothing was gathered
pub nothing_yet : (b : List ℕ) (gate : ℕ) → b ≡ gathered b gate [] false
nothing_yet b gate = sym (put_none b (gate + 1))

-- what is shown comes from the content below
pub shown_is : (closed : Bool) (told : Option (List ℕ)) (strokes : List Stroke) (b : List ℕ) → shown closed told strokes ≡ Some b → (closed ≡ false) × (told ≡ Some (base_of told)) × ((state (base_of told) strokes).content ≡ b)
shown_is true told strokes b is = absurd (cc is)
shown_is false None strokes b is = absurd (cc is)
shown_is false (Some base) strokes b is = (refl, refl, some_same is)

pub shows : (closed : Bool) (told : Option (List ℕ)) (strokes : List Stroke) (base b : List ℕ) → closed ≡ false → told ≡ Some base → shown closed told strokes ≡ Some b → (state base strokes).content ≡ b
shows closed told strokes base b still is shown_so = some_same (sym (ap (λ (o : Option (List ℕ)). shown false o strokes) is) ∙ sym (ap (λ (x : Bool). shown x told strokes) still) ∙ shown_so)

pub is_shown : (closed : Bool) (told : Option (List ℕ)) (strokes : List Stroke) (base : List ℕ) → closed ≡ false → told ≡ Some base → shown closed told strokes ≡ Some (state base strokes).content
is_shown closed told strokes base still is = ap (λ (x : Bool). shown x told strokes) still ∙ ap (λ (o : Option (List ℕ)). shown false o strokes) is
