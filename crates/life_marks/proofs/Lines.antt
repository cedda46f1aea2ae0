-- What is known of idents, at one of them.
use Rattle.std.proofs.Common.{◌≡◌, ℕ, zero, suc, ◌-◌, ◌<◌, ◌≤◌, List, [], ◌∷◌, length, Option, Some, None, refl, sym, ap, ◌∙◌, arith}
use Rattle.std.specs.Prelude.{slice_get, slice_set}
use Rattle.std.specs.Option.{unwrap_or}
use Rattle.life_marks.specs.declared.server_marks.Line.{Line}
use Rattle.life_marks.specs.ServerMarks.{Marks, line_of, at_place, with_line}

put_at : (f : Line → Line) (lines : List Line) (n : ℕ) (line : Line) → slice_get lines n ≡ Some line → slice_set lines n (f line) ≡ at_place n f lines
put_at f [] n line e = absurd cc
put_at f (x ∷ lines) zero line e = ap (λ (y : Line). f y ∷ lines) (sym (ap (λ (o : Option Line). unwrap_or o x) e))
put_at f (x ∷ lines) (suc n) line e = ap (λ (xs : List Line). x ∷ xs) (put_at f lines n line e)

none_at : (f : Line → Line) (lines : List Line) (n : ℕ) → slice_get lines n ≡ None → at_place n f lines ≡ lines
none_at f [] n e = refl
none_at f (x ∷ lines) zero e = absurd cc
none_at f (x ∷ lines) (suc n) e = ap (λ (xs : List Line). x ∷ xs) (none_at f lines n e)

within : (lines : List Line) (n : ℕ) (line : Line) → slice_get lines n ≡ Some line → n < length lines
within [] n line e = absurd cc
within (x ∷ lines) zero line e = omega arith
within (x ∷ lines) (suc n) line e = omega (arith, within lines n line e)

pub is_named : (lines : List Line) (ident : ℕ) (line : Line) → line_of ident lines ≡ Some line → 1 ≤ ident
is_named lines zero line e = absurd cc
is_named lines (suc n) line e = omega arith

pub is_given : (lines : List Line) (ident : ℕ) (line : Line) → line_of ident lines ≡ Some line → ident ≤ length lines
is_given lines zero line e = absurd cc
is_given lines (suc n) line e = omega (arith, within lines n line e)

-- where it is given
pub put_line : (m : Marks) (ident : ℕ) (f : Line → Line) (line : Line) → line_of ident m.lines ≡ Some line
    → record m { lines = slice_set m.lines (ident - 1) (f line) } ≡ record m { lines = with_line ident f m.lines }
put_line m zero f line e = absurd cc
put_line m (suc n) f line e = ap (λ (xs : List Line). record m { lines = xs }) (ap (λ (k : ℕ). slice_set m.lines k (f line)) (omega arith) ∙ put_at f m.lines n line e)

-- the same, where what is put and what it makes are named otherwise
pub put_as : (m new : Marks) (ident : ℕ) (f : Line → Line) (line x : Line) → line_of ident m.lines ≡ Some line → x ≡ f line → new ≡ record m { lines = slice_set m.lines (ident - 1) x }
    → new ≡ record m { lines = with_line ident f m.lines }
put_as m new ident f line x e is now = now ∙ ap (λ (y : Line). record m { lines = slice_set m.lines (ident - 1) y }) is ∙ put_line m ident f line e

-- where it isn't
pub no_line : (m : Marks) (ident : ℕ) (f : Line → Line) → line_of ident m.lines ≡ None → m ≡ record m { lines = with_line ident f m.lines }
no_line m zero f e = refl
no_line m (suc n) f e = ap (λ (xs : List Line). record m { lines = xs }) (sym (none_at f m.lines n e))
