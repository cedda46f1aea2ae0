-- The changes of a generated exchange are harmless: one instruction that is tame, or the definitions of the first client.
use Rattle.std.proofs.Common.{◌≡◌, ◌≢◌, ◌⊎◌, inl, inr, ⊎_elim, ℕ, suc, ◌+◌, ◌<◌, ◌≤◌, Bool, true, false, ◌&&◌, ◌||◌, not, List, [], ◌∷◌, ◌++◌, Option, Some, None, Result, Ok, Err, IfOk, IfErr, refl, sym, ap, ◌∙◌, subst, arith, if◌then◌else◌, ◌==◌, eqb-true, length, nat_le, sum_by}
use Rattle.std.proofs.lemmas.Bool.{leb-true, le-leb}
use Rattle.std.proofs.lemmas.List.Sums.{sum_by-cons}
use Rattle.sync_data.specs.Payload.{payload, payload_all}
use Rattle.sync_data.specs.declared.instr.Instr.{Instr}
use Rattle.sync_data.specs.declared.instr.Instr.TheVariants as instrs
use Rattle.sync_base.specs.Effects.{Effect, Edit, Set, Add, Replace, Insert, Remove, Include, Exclude, Bind, Empty, NewTable, NewColumn, Create, Erase, Change, effect_of}
use Rattle.sync_codec.specs.Spelling.{needs_second, spelling, has_dictionaries}
use Rattle.sync_law.specs.Coded.{meet_by_code}
use Rattle.sync_theory.specs.Lists.{kept, step_right, met, row, step_down, rowed, cross}
use Rattle.sync_model.specs.Profile.{IsNamedKind, IsNoHeavier, needs}
use Rattle.sync_model.specs.Harmless.{AreHarmless}
use Rattle.sync_exchange.specs.Profile.{the_profile, weight}
use Rattle.sync_exchange.specs.Whole.{is_whole}
use Rattle.sync_exchange.specs.Lemmas.Lawful.{real_lawful, small_instrs}
use Rattle.sync_exchange.specs.Lemmas.Roomy.{spelled_short}
use Rattle.gen_law.proofs.Meeting.{IsTame, IsTameEdit, Opt, effect_more, MeetGoes, meets_go, IsDefinition, def_meets, meets_def}

-- ---- the test

abbrev is_tame_edit : ℕ → Edit → Bool
is_tame_edit n (Set v) = true
is_tame_edit n (Add k) = true
is_tame_edit n (Replace s v) = nat_le s.prior (2147483648 + n)
is_tame_edit n (Insert s v) = nat_le s.prior (2147483648 + n)
is_tame_edit n (Remove s) = nat_le s.prior (2147483648 + n)
is_tame_edit n (Include v) = true
is_tame_edit n (Exclude v) = true
is_tame_edit n (Bind k v) = false
is_tame_edit n Empty = false

abbrev is_tame : ℕ → Effect → Bool
is_tame n (NewTable t k) = false
is_tame n (NewColumn t c x) = false
is_tame n (Create o) = true
is_tame n (Erase o) = true
is_tame n (Change p e) = is_tame_edit n e

abbrev is_definition : Effect → Bool
is_definition (NewTable t k) = true
is_definition (NewColumn t c x) = not (has_dictionaries x.shape)
is_definition e = false

abbrev are_definitions : List Instr → Bool
are_definitions [] = true
are_definitions (i ∷ is) = is_definition (effect_of i) && are_definitions is

abbrev is_single : ℕ → List Instr → Bool
is_single n [] = true
is_single n (i ∷ []) = is_tame n (effect_of i)
is_single n (i ∷ j ∷ is) = false

abbrev is_light : List Instr → Bool
is_light is = nat_le (length is) 8 && nat_le (sum_by weight is) 200

abbrev pub is_drawn : ℕ → ℕ → List Instr → Bool
is_drawn c n is = is_light is && (is_single n is || (c == 1 && are_definitions is))

-- ---- what it says

abbrev IsSingle : ℕ → List Instr → Type 0
IsSingle n [] = Unit {0}
IsSingle n (i ∷ []) = IsTame n (effect_of i)
IsSingle n (i ∷ j ∷ is) = ⊥

abbrev pub AreDefinitions : List Instr → Type 0
AreDefinitions [] = Unit {0}
AreDefinitions (i ∷ is) = (IsDefinition (effect_of i) × (needs_second i ≡ false)) × AreDefinitions is

record Drawn (c n : ℕ) (is : List Instr) : Type 0 where
  few : length is ≤ 8
  light : sum_by weight is ≤ 200
  kind : IsSingle n is ⊎ ((c ≡ 1) × AreDefinitions is)

both : (a b : Bool) → (a && b) ≡ true → (a ≡ true) × (b ≡ true)
both true b e = (refl, e)
both false b e = cc

and_true : (a b : Bool) → a ≡ true → b ≡ true → (a && b) ≡ true
and_true true b e f = f
and_true false b e f = cc

tame_edit : (n : ℕ) (e : Edit) → is_tame_edit n e ≡ true → IsTameEdit n e
tame_edit n (Set v) t = tt
tame_edit n (Add k) t = tt
tame_edit n (Replace s v) t = leb-true s.prior (2147483648 + n) t
tame_edit n (Insert s v) t = leb-true s.prior (2147483648 + n) t
tame_edit n (Remove s) t = leb-true s.prior (2147483648 + n) t
tame_edit n (Include v) t = tt
tame_edit n (Exclude v) t = tt
tame_edit n (Bind k v) t = cc
tame_edit n Empty t = cc

tame : (n : ℕ) (e : Effect) → is_tame n e ≡ true → IsTame n e
tame n (NewTable t k) h = cc
tame n (NewColumn t c x) h = cc
tame n (Create o) h = tt
tame n (Erase o) h = tt
tame n (Change p e) h = tame_edit n e h

edit_tame : (n : ℕ) (e : Edit) → IsTameEdit n e → is_tame_edit n e ≡ true
edit_tame n (Set v) t = refl
edit_tame n (Add k) t = refl
edit_tame n (Replace s v) t = le-leb s.prior (2147483648 + n) t
edit_tame n (Insert s v) t = le-leb s.prior (2147483648 + n) t
edit_tame n (Remove s) t = le-leb s.prior (2147483648 + n) t
edit_tame n (Include v) t = refl
edit_tame n (Exclude v) t = refl
edit_tame n (Bind k v) t = absurd t
edit_tame n Empty t = absurd t

effect_tame : (n : ℕ) (e : Effect) → IsTame n e → is_tame n e ≡ true
effect_tame n (NewTable t k) h = absurd h
effect_tame n (NewColumn t c x) h = absurd h
effect_tame n (Create o) h = refl
effect_tame n (Erase o) h = refl
effect_tame n (Change p e) h = edit_tame n e h

old_shape : (b : Bool) → not b ≡ true → b ≡ false
old_shape true e = cc
old_shape false e = refl

new_shape : (b : Bool) → b ≡ false → not b ≡ true
new_shape true e = cc
new_shape false e = refl

definition : (i : Instr) → is_definition (effect_of i) ≡ true → IsDefinition (effect_of i) × (needs_second i ≡ false)
definition (instrs.AddTable i) e = (tt, refl)
definition (instrs.AddColumn i) e = (tt, old_shape (has_dictionaries i.def.shape) e)
definition (instrs.CreateObject i) e = cc
definition (instrs.EraseObject i) e = cc
definition (instrs.Update i) e = cc
definition (instrs.AddInteger i) e = cc
definition (instrs.ListUpdate i) e = cc
definition (instrs.ListInsert i) e = cc
definition (instrs.ListErase i) e = cc
definition (instrs.SetInsert i) e = cc
definition (instrs.SetErase i) e = cc
definition (instrs.DictUpdate i) e = cc
definition (instrs.Clear i) e = cc

definition_back : (i : Instr) → IsDefinition (effect_of i) × (needs_second i ≡ false) → is_definition (effect_of i) ≡ true
definition_back (instrs.AddTable i) h = refl
definition_back (instrs.AddColumn i) h = new_shape (has_dictionaries i.def.shape) h.1
definition_back (instrs.CreateObject i) h = absurd h.0
definition_back (instrs.EraseObject i) h = absurd h.0
definition_back (instrs.Update i) h = absurd h.0
definition_back (instrs.AddInteger i) h = absurd h.0
definition_back (instrs.ListUpdate i) h = absurd h.0
definition_back (instrs.ListInsert i) h = absurd h.0
definition_back (instrs.ListErase i) h = absurd h.0
definition_back (instrs.SetInsert i) h = absurd h.0
definition_back (instrs.SetErase i) h = absurd h.0
definition_back (instrs.DictUpdate i) h = absurd h.0
definition_back (instrs.Clear i) h = absurd h.0

definitions : (is : List Instr) → are_definitions is ≡ true → AreDefinitions is
definitions [] e = tt
definitions (i ∷ is) e = let f = both (is_definition (effect_of i)) (are_definitions is) e in (definition i f.0, definitions is f.1)

definitions_back : (is : List Instr) → AreDefinitions is → are_definitions is ≡ true
definitions_back [] h = refl
definitions_back (i ∷ is) h = and_true (is_definition (effect_of i)) (are_definitions is) (definition_back i h.0) (definitions_back is h.1)

single : (n : ℕ) (is : List Instr) → is_single n is ≡ true → IsSingle n is
single n [] e = tt
single n (i ∷ []) e = tame n (effect_of i) e
single n (i ∷ j ∷ is) e = cc

single_back : (n : ℕ) (is : List Instr) → IsSingle n is → is_single n is ≡ true
single_back n [] h = refl
single_back n (i ∷ []) h = effect_tame n (effect_of i) h
single_back n (i ∷ j ∷ is) h = absurd h

or_else : (a b : Bool) → (a || b) ≡ true → (a ≡ true) ⊎ (b ≡ true)
or_else true b e = inl refl
or_else false b e = inr e

or_left : (a b : Bool) → a ≡ true → (a || b) ≡ true
or_left true b e = refl
or_left false b e = cc

or_right : (a b : Bool) → b ≡ true → (a || b) ≡ true
or_right true b e = refl
or_right false b e = e

drawn : (c n : ℕ) (is : List Instr) → is_drawn c n is ≡ true → Drawn c n is
drawn c n is e =
    let a = both (is_light is) (is_single n is || (c == 1 && are_definitions is)) e in
    let l = both (nat_le (length is) 8) (nat_le (sum_by weight is) 200) a.0 in
    record {
      few = leb-true (length is) 8 l.0;
      light = leb-true (sum_by weight is) 200 l.1;
      kind = ⊎_elim (λ s. inl (single n is s)) (λ d. let f = both (c == 1) (are_definitions is) d in inr (eqb-true c 1 f.0, definitions is f.1)) (or_else (is_single n is) (c == 1 && are_definitions is) a.1);
    }

one_is : (c : ℕ) → c ≡ 1 → (c == 1) ≡ true
one_is c e = ap (λ k. k == 1) e

drawn_back : (c n : ℕ) (is : List Instr) → Drawn c n is → is_drawn c n is ≡ true
drawn_back c n is d =
    and_true (is_light is) (is_single n is || (c == 1 && are_definitions is))
    (and_true (nat_le (length is) 8) (nat_le (sum_by weight is) 200) (le-leb (length is) 8 d.few) (le-leb (sum_by weight is) 200 d.light))
    (⊎_elim (λ s. or_left (is_single n is) (c == 1 && are_definitions is) (single_back n is s)) (λ f. or_right (is_single n is) (c == 1 && are_definitions is) (and_true (c == 1) (are_definitions is) (one_is c f.0) (definitions_back is f.1))) d.kind)

-- ---- they go on through each other

abbrev Cross : Type 0
Cross = Result (List Instr × List Instr) (ℕ × ℕ × ℕ)

abbrev Fine : (c d m n : ℕ) → Cross → Type 0
Fine c d m n (Ok q) = Drawn c (suc m) q.0 × Drawn d (suc n) q.1
Fine c d m n (Err f) = IsNamedKind f.2 → ⊥

single_more : (n : ℕ) (is : List Instr) → IsSingle n is → IsSingle (suc n) is
single_more n [] h = tt
single_more n (i ∷ []) h = effect_more n (effect_of i) h
single_more n (i ∷ j ∷ is) h = absurd h

more : (c n : ℕ) (is : List Instr) → Drawn c n is → Drawn c (suc n) is
more c n is d = record { few = d.few; light = d.light; kind = ⊎_elim (λ s. inl (single_more n is s)) (λ f. inr f) d.kind }

one_light : (i : Instr) → sum_by weight (i ∷ []) ≡ weight i
one_light i = let e = sum_by-cons weight i [] in omega arith

left_one : (c m : ℕ) (i : Instr) (x : Option Instr) → weight i ≤ 200 → IsNoHeavier the_profile i x → Opt (λ j. IsTame (suc m) (effect_of j)) x → Drawn c (suc m) (kept x ++ [])
left_one c m i None w l t = record { few = omega arith; light = omega arith; kind = inl tt }
left_one c m i (Some j) w l t = let e = one_light j in record { few = omega arith; light = omega arith; kind = inl t }

ones_cross : (c d m n : ℕ) (i j : Instr) (later : Bool) → m < 100001 → Drawn c m (i ∷ []) → Drawn d n (j ∷ []) → IsTame m (effect_of i) → IsTame n (effect_of j) → Fine c d m n (cross (λ a b. meet_by_code a b later) (i ∷ []) (j ∷ []))
ones_cross c d m n i j later lt a b t u =
    let wi = a.light in
    let wj = b.light in
    let ei = one_light i in
    let ej = one_light j in
    on (meet_by_code i j later) (meets_go later m n i j lt t u) (real_lawful.weighs later i j (omega arith) (omega arith)) (omega arith) (omega arith)
  where
    on : (r : Result (Option Instr × Option Instr) ℕ) → MeetGoes m n r → IfOk r (λ o. IsNoHeavier the_profile i o.0 × IsNoHeavier the_profile j o.1) → weight i ≤ 200 → weight j ≤ 200 → Fine c d m n (rowed (met r (λ x. row (λ a b. meet_by_code a b later) x [])) (λ cs. cross (λ a b. meet_by_code a b later) [] cs))
    on (Err k) f l wi wj = f
    on (Ok q) f l wi wj = go q.0 q.1 (left_one c m i q.0 wi l.0 f.0) (left_one d n j q.1 wj l.1 f.1)
      where
        go : (x y : Option Instr) → Drawn c (suc m) (kept x ++ []) → Drawn d (suc n) (kept y ++ []) → Fine c d m n (rowed (step_right y (row (λ a b. meet_by_code a b later) x [])) (λ cs. cross (λ a b. meet_by_code a b later) [] cs))
        go None y g h = (g, h)
        go (Some x) y g h = (g, h)

row_defs : (n : ℕ) (later : Bool) (i : Instr) (ds : List Instr) → AreDefinitions ds → IsTame n (effect_of i) → row (λ a b. meet_by_code a b later) (Some i) ds ≡ Ok (Some i, ds)
row_defs n later i [] h t = refl
row_defs n later i (d ∷ ds) h t = ap (λ r. met r (λ x. row (λ a b. meet_by_code a b later) x ds)) (meets_def later n i d h.0.0 t) ∙ ap (step_right (Some d)) (row_defs n later i ds h.1 t)

one_defs : (n : ℕ) (later : Bool) (i : Instr) (ds : List Instr) → AreDefinitions ds → IsTame n (effect_of i) → cross (λ a b. meet_by_code a b later) (i ∷ []) ds ≡ Ok (i ∷ [], ds)
one_defs n later i ds h t = ap (λ r. rowed r (λ cs. cross (λ a b. meet_by_code a b later) [] cs)) (row_defs n later i ds h t)

defs_one : (n : ℕ) (later : Bool) (ds : List Instr) (i : Instr) → AreDefinitions ds → IsTame n (effect_of i) → cross (λ a b. meet_by_code a b later) ds (i ∷ []) ≡ Ok (ds, i ∷ [])
defs_one n later [] i h t = refl
defs_one n later (d ∷ ds) i h t =
    ap (λ r. rowed (met r (λ x. row (λ a b. meet_by_code a b later) x [])) (λ cs. cross (λ a b. meet_by_code a b later) ds cs)) (def_meets later n d i h.0.0 t)
    ∙ ap (step_down (Some d)) (defs_one n later ds i h.1 t)

none_right : (later : Bool) (is : List Instr) → cross (λ a b. meet_by_code a b later) is [] ≡ Ok (is, [])
none_right later [] = refl
none_right later (i ∷ is) = ap (step_down (Some i)) (none_right later is)

cross_fine : (c d m n : ℕ) (as_ bs : List Instr) (later : Bool) → c ≢ d → m < 100001 → Drawn c m as_ → Drawn d n bs → Fine c d m n (cross (λ a b. meet_by_code a b later) as_ bs)
cross_fine c d m n as_ bs later ne lt a b = on a.kind b.kind
  where
    stays : cross (λ a b. meet_by_code a b later) as_ bs ≡ Ok (as_, bs) → Fine c d m n (cross (λ a b. meet_by_code a b later) as_ bs)
    stays e = subst (Fine c d m n) (sym e) (more c m as_ a, more d n bs b)

    singles : (xs ys : List Instr) → Drawn c m xs → Drawn d n ys → IsSingle m xs → IsSingle n ys → Fine c d m n (cross (λ a b. meet_by_code a b later) xs ys)
    singles [] ys a b s t = (more c m [] a, more d n ys b)
    singles (i ∷ []) [] a b s t = (more c m (i ∷ []) a, more d n [] b)
    singles (i ∷ []) (j ∷ []) a b s t = ones_cross c d m n i j later lt a b s t
    singles (i ∷ []) (j ∷ k ∷ ys) a b s t = absurd t
    singles (i ∷ k ∷ xs) ys a b s t = absurd s

    one_side : (xs ys : List Instr) → IsSingle m xs → AreDefinitions ys → cross (λ a b. meet_by_code a b later) xs ys ≡ Ok (xs, ys)
    one_side [] ys s t = refl
    one_side (i ∷ []) ys s t = one_defs m later i ys t s
    one_side (i ∷ k ∷ xs) ys s t = absurd s

    other_side : (xs ys : List Instr) → AreDefinitions xs → IsSingle n ys → cross (λ a b. meet_by_code a b later) xs ys ≡ Ok (xs, ys)
    other_side xs [] s t = none_right later xs
    other_side xs (j ∷ []) s t = defs_one n later xs j s t
    other_side xs (j ∷ k ∷ ys) s t = absurd t

    on : IsSingle m as_ ⊎ ((c ≡ 1) × AreDefinitions as_) → IsSingle n bs ⊎ ((d ≡ 1) × AreDefinitions bs) → Fine c d m n (cross (λ a b. meet_by_code a b later) as_ bs)
    on (inl s) (inl t) = singles as_ bs a b s t
    on (inl s) (inr t) = stays (one_side as_ bs s t.1)
    on (inr s) (inl t) = stays (other_side as_ bs s.1 t)
    on (inr s) (inr t) = absurd (ne (s.0 ∙ sym t.0))

fine_ok : (c d m n : ℕ) (r : Cross) → Fine c d m n r → IfOk r (λ q. (is_drawn c (suc m) q.0 ≡ true) × (is_drawn d (suc n) q.1 ≡ true))
fine_ok c d m n (Ok q) f = (drawn_back c (suc m) q.0 f.0, drawn_back d (suc n) q.1 f.1)
fine_ok c d m n (Err k) f = tt

fine_err : (c d m n : ℕ) (r : Cross) → Fine c d m n r → IfErr r (λ f. IsNamedKind f.2 → ⊥)
fine_err c d m n (Ok q) f = tt
fine_err c d m n (Err k) f = f

-- ---- they are of form 1 and short

tame_old : (n : ℕ) (i : Instr) → IsTame n (effect_of i) → needs_second i ≡ false
tame_old n (instrs.AddTable i) t = absurd t
tame_old n (instrs.AddColumn i) t = absurd t
tame_old n (instrs.CreateObject i) t = refl
tame_old n (instrs.EraseObject i) t = refl
tame_old n (instrs.Update i) t = refl
tame_old n (instrs.AddInteger i) t = refl
tame_old n (instrs.ListUpdate i) t = refl
tame_old n (instrs.ListInsert i) t = refl
tame_old n (instrs.ListErase i) t = refl
tame_old n (instrs.SetInsert i) t = refl
tame_old n (instrs.SetErase i) t = refl
tame_old n (instrs.DictUpdate i) t = absurd t
tame_old n (instrs.Clear i) t = absurd t

or_false : (a b : Bool) → a ≡ false → b ≡ false → (a || b) ≡ false
or_false true b e f = cc
or_false false b e f = f

singles_old : (n : ℕ) (is : List Instr) → IsSingle n is → needs the_profile is ≡ false
singles_old n [] h = refl
singles_old n (i ∷ []) h = or_false (needs_second i) false (tame_old n i h) refl
singles_old n (i ∷ j ∷ is) h = absurd h

defs_old : (is : List Instr) → AreDefinitions is → needs the_profile is ≡ false
defs_old [] h = refl
defs_old (i ∷ is) h = or_false (needs_second i) (needs the_profile is) h.0.1 (defs_old is h.1)

carries : (i : Instr) → weight i ≤ 200 → payload i ≤ weight i
carries i le = on (is_whole i) le
  where
    on : (b : Bool) → (if b then payload i else 4194305) ≤ 200 → payload i ≤ (if b then payload i else 4194305)
    on true le = omega arith
    on false le = absurd (omega arith)

all_carry : (is : List Instr) → sum_by weight is ≤ 200 → payload_all is ≤ sum_by weight is
all_carry [] le = omega arith
all_carry (i ∷ is) le =
    let a : sum_by weight (i ∷ is) ≡ weight i + sum_by weight is = sum_by-cons weight i is in
    let b : sum_by payload (i ∷ is) ≡ payload i + sum_by payload is = sum_by-cons payload i is in
    let c = carries i (omega (arith, le, a)) in
    let d = all_carry is (omega (arith, le, a)) in
    omega (arith, a, b, c, d)

short : (c n : ℕ) (is : List Instr) → Drawn c n is → length (spelling is) ≤ 851
short c n is d =
    let few = d.few in
    let light = d.light in
    let small = and_true (nat_le (length is) 65536) (nat_le (sum_by weight is) 4194304) (le-leb (length is) 65536 (omega arith)) (le-leb (sum_by weight is) 4194304 (omega arith)) in
    omega (arith, few, light, spelled_short is (small_instrs is small), all_carry is light)

pub drawn_harmless : AreHarmless the_profile (λ c n is. is_drawn c n is ≡ true) 100001 851
drawn_harmless = record {
  crosses = λ c d m n as_ bs later ne lt f g. fine_ok c d m n _ (cross_fine c d m n as_ bs later ne lt (drawn c m as_ f) (drawn d n bs g));
  mismatches = λ c d m n as_ bs later ne lt f g. fine_err c d m n _ (cross_fine c d m n as_ bs later ne lt (drawn c m as_ f) (drawn d n bs g));
  more = λ c n is f. drawn_back c (suc n) is (more c n is (drawn c n is f));
  form = λ c n is f. ⊎_elim (λ s. singles_old n is s) (λ d. defs_old is d.1) (drawn c n is f).kind;
  light = λ c n is f. short c n is (drawn c n is f);
}

-- a tame instruction that is light, and the definitions of the first client
pub one_drawn : (c : ℕ) (i : Instr) → weight i ≤ 200 → IsTame 0 (effect_of i) → is_drawn c 0 (i ∷ []) ≡ true
one_drawn c i w t = let e = one_light i in drawn_back c 0 (i ∷ []) (record { few = omega arith; light = omega arith; kind = inl t })

pub definitions_drawn : (is : List Instr) → length is ≤ 8 → sum_by weight is ≤ 200 → AreDefinitions is → is_drawn 1 0 is ≡ true
definitions_drawn is few light defs = drawn_back 1 0 is (record { few = few; light = light; kind = inr (refl, defs) })
