-- The tests of the rule table tell equality.
use Rattle.std.specs.Prelude.{◌≡◌, ◌↔◌, ℕ, Bool, true, false, cond, ◌&&◌, ◌==◌, List, refl}
use Rattle.std.proofs.Common.{sym, ◌∙◌, ap}
use Rattle.std.proofs.lemmas.Bool.{eqb-true, eq-eqb}
use Rattle.sync_data.specs.declared.key.KeyKind.{KeyKind}
use Rattle.sync_data.specs.declared.key.KeyKind.TheVariants as key_kinds
use Rattle.sync_data.specs.declared.column.Kind.{Kind}
use Rattle.sync_data.specs.declared.column.Kind.TheVariants as kinds
use Rattle.sync_data.specs.declared.column.Shape.{Shape}
use Rattle.sync_data.specs.declared.column.Shape.TheVariants as shapes
use Rattle.sync_data.specs.declared.column.Column.{Column}
use Rattle.sync_base.specs.States.{key_rank_of, shape_rank}
use Rattle.sync_base.specs.Merged.{kind_rank, target_of, bit, same_column}
use Rattle.sync_base.specs.Lemmas.Maps.{tied_is}
use Rattle.sync_base.specs.Lemmas.Looks.{name_exact, name_total}
use Rattle.sync_base.specs.Lemmas.Cells.{same_itself}

pub key_kind_of : ℕ → KeyKind
key_kind_of r = cond (r == 0) key_kinds.Int (cond (r == 1) key_kinds.Text key_kinds.Uuid)

pub key_kind_of-rank : (k : KeyKind) → key_kind_of (key_rank_of k) ≡ k
unfolding key_kind_of
key_kind_of-rank key_kinds.Int = refl
key_kind_of-rank key_kinds.Text = refl
key_kind_of-rank key_kinds.Uuid = refl

pub kind_of : ℕ → List ℕ → Kind
kind_of r t = cond (r == 0) kinds.Int (cond (r == 1) kinds.Bool (cond (r == 2) kinds.Text (cond (r == 3) kinds.Bytes (cond (r == 4) kinds.Time (cond (r == 5) kinds.Uuid (kinds.Link t))))))

pub kind_of-rank : (k : Kind) → kind_of (kind_rank k) (target_of k) ≡ k
unfolding kind_of
kind_of-rank kinds.Int = refl
kind_of-rank kinds.Bool = refl
kind_of-rank kinds.Text = refl
kind_of-rank kinds.Bytes = refl
kind_of-rank kinds.Time = refl
kind_of-rank kinds.Uuid = refl
kind_of-rank (kinds.Link t) = refl

pub shape_of : ℕ → Shape
shape_of r = cond (r == 0) shapes.One (cond (r == 1) shapes.List (cond (r == 2) shapes.Set shapes.Dict))

pub shape_of-rank : (x : Shape) → shape_of (shape_rank x) ≡ x
unfolding shape_of
shape_of-rank shapes.One = refl
shape_of-rank shapes.List = refl
shape_of-rank shapes.Set = refl
shape_of-rank shapes.Dict = refl

one_bit : (a b : Bool) → bit a ≡ bit b → a ≡ b
one_bit true true h = refl
one_bit true false h = cc
one_bit false true h = cc
one_bit false false h = refl

and_first : (a b : Bool) → (a && b) ≡ true → a ≡ true
and_first true b h = refl
and_first false b h = cc

and_second : (a b : Bool) → (a && b) ≡ true → b ≡ true
and_second true b h = h
and_second false b h = cc

and_true : (a b : Bool) → a ≡ true → b ≡ true → (a && b) ≡ true
and_true true b h k = k
and_true false b h k = h

pub one_key_kind : (k j : KeyKind) → ((key_rank_of k == key_rank_of j) ≡ true) ↔ (k ≡ j)
one_key_kind k j = (λ h. sym (key_kind_of-rank k) ∙ ap key_kind_of (eqb-true _ _ h) ∙ key_kind_of-rank j, λ h. eq-eqb _ _ (ap key_rank_of h))

same_parts : (x y : Column) → same_column x y ≡ true → x ≡ y
same_parts x y h =
    let tests = and_first _ (shape_rank x.shape == shape_rank y.shape) h in
    let names = and_first _ (bit x.nullable == bit y.nullable) tests in
    let r = eqb-true (kind_rank x.kind) (kind_rank y.kind) (and_first (kind_rank x.kind == kind_rank y.kind) _ names) in
    let t = tied_is name_exact (target_of x.kind) (target_of y.kind) (and_second (kind_rank x.kind == kind_rank y.kind) _ names) in
    let n = one_bit x.nullable y.nullable (eqb-true _ _ (and_second _ (bit x.nullable == bit y.nullable) tests)) in
    let s = sym (shape_of-rank x.shape) ∙ ap shape_of (eqb-true _ _ (and_second _ (shape_rank x.shape == shape_rank y.shape) h)) ∙ shape_of-rank y.shape in
    let k : x.kind ≡ y.kind = sym (kind_of-rank x.kind) ∙ (λ i. kind_of (r i) (t i)) ∙ kind_of-rank y.kind in
    λ i. record { kind = k i; nullable = n i; shape = s i }

number_itself : (n : ℕ) → (n == n) ≡ true
number_itself n = eq-eqb n n refl

same_with_itself : (x : Column) → same_column x x ≡ true
same_with_itself x = and_true _ _ (and_true _ _ (and_true _ _ (number_itself (kind_rank x.kind)) (same_itself name_total (target_of x.kind))) (number_itself (bit x.nullable))) (number_itself (shape_rank x.shape))

pub one_column : (x y : Column) → (same_column x y ≡ true) ↔ (x ≡ y)
one_column x y = (same_parts x y, λ h. ap (same_column x) (sym h) ∙ same_with_itself x)
