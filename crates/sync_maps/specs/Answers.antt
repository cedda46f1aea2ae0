-- What follows from a call that was answered well, or refused.
use Rattle.std.specs.Prelude.{◌≡◌, true, false, Result, Ok, Err, OnOk, OnErr, IfOk}
use Rattle.std.specs.Result.{is_err}

module _ {A E : Type 0} {P Q : Type 0} where
  pub then_ok : (r : Result A E) → (P → Q) → OnOk r P → OnOk r Q
  then_ok (Ok x) f p = f p
  then_ok (Err e) f p = p

  pub then_err : (r : Result A E) → (P → Q) → OnErr r P → OnErr r Q
  then_err (Ok x) f p = p
  then_err (Err e) f p = f p

module _ {A E : Type 0} {P : Type 0} where
  pub was_ok : (r : Result A E) → false ≡ is_err r → OnOk r P → P
  was_ok (Ok x) e p = p
  was_ok (Err x) e p = cc

  pub was_err : (r : Result A E) → true ≡ is_err r → OnErr r P → P
  was_err (Ok x) e p = cc
  was_err (Err x) e p = p

module _ {A E : Type 0} {P Q : A → Type 0} where
  pub then_so : (r : Result A E) → ((x : A) → P x → Q x) → IfOk r P → IfOk r Q
  then_so (Ok x) f p = f x p
  then_so (Err e) f p = p
