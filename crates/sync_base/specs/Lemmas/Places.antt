-- A place's test and the fact that it tests.
use Rattle.std.specs.Prelude.{◌≡◌, Bool, true, false, if◌then◌else◌, Option, None, Some, refl}
use Rattle.std.proofs.Common.{ap}
use Rattle.std.proofs.lemmas.Bool.{ltb-true, leb-true, lt-ltb, le-leb}
use Rattle.std.proofs.lemmas.Option.{same_Some}
use Rattle.sync_base.specs.declared.answers.Break.{Break}
use Rattle.sync_base.specs.After.{after}
use Rattle.sync_base.specs.Checks.{Acts, break_of, unbroken, act_effect}
use Rattle.sync_base.specs.Effects.{Edit, Effect, Set, Add, Replace, Insert, Remove, Include, Exclude, Bind, Empty, NewTable, NewColumn, Create, Erase, Change, is_placed, is_effect}
use Rattle.sync_base.specs.Lemmas.Shaped.{IsEdit, IsEffect}
use Rattle.sync_base.specs.States.{State}

edit_is : (e : Edit) → is_placed e ≡ true → IsEdit e
edit_is (Replace s v) h = ltb-true _ _ h
edit_is (Insert s v) h = leb-true _ _ h
edit_is (Remove s) h = ltb-true _ _ h
edit_is (Set v) h = tt
edit_is (Add n) h = tt
edit_is (Include v) h = tt
edit_is (Exclude v) h = tt
edit_is (Bind k v) h = tt
edit_is Empty h = tt

is_so : (e : Edit) → IsEdit e → is_placed e ≡ true
is_so (Replace s v) h = lt-ltb _ _ h
is_so (Insert s v) h = le-leb _ _ h
is_so (Remove s) h = lt-ltb _ _ h
is_so (Set v) h = refl
is_so (Add n) h = refl
is_so (Include v) h = refl
is_so (Exclude v) h = refl
is_so (Bind k v) h = refl
is_so Empty h = refl

effect_is : (d : Effect) → is_effect d ≡ true → IsEffect d
effect_is (Change p e) h = edit_is e h
effect_is (NewTable t k) h = tt
effect_is (NewColumn t c def) h = tt
effect_is (Create o) h = tt
effect_is (Erase o) h = tt

is_one : (d : Effect) → IsEffect d → is_effect d ≡ true
is_one (Change p e) h = is_so e h
is_one (NewTable t k) h = refl
is_one (NewColumn t c def) h = refl
is_one (Create o) h = refl
is_one (Erase o) h = refl

-- ---- what acting is
pub record Acted (s t : State) (d : Effect) : Type 0 where
  pub fine : IsEffect d
  pub acts : Acts s d
  pub gives : after s d ≡ t

record Given (b : Bool) (o : Option Break) (u t : State) : Type 0 where
  fine : b ≡ true
  free : o ≡ None
  same : u ≡ t

given : (b : Bool) (o : Option Break) (u t : State) → (if b then unbroken o u else None) ≡ Some t → Given b o u t
given true None u t e = record { fine = refl; free = refl; same = same_Some u t e }
given true (Some k) u t e = cc
given false o u t e = cc

giving : (b : Bool) (o : Option Break) (u t : State) → b ≡ true → o ≡ None → u ≡ t → (if b then unbroken o u else None) ≡ Some t
giving true None u t f g e = ap Some e
giving true (Some k) u t f g e = cc
giving false o u t f g e = cc

pub acted : (d : Effect) (s t : State) → act_effect d s ≡ Some t → Acted s t d
acted d s t e =
    let g = given (is_effect d) (break_of s d) (after s d) t e in
    record { fine = effect_is d g.fine; acts = g.free; gives = g.same }

pub acting : (d : Effect) (s t : State) → Acted s t d → act_effect d s ≡ Some t
acting d s t a = giving (is_effect d) (break_of s d) (after s d) t (is_one d a.fine) a.acts a.gives
