-- A carry of which the first entries are done.
use Rattle.std.proofs.Common.{◌≡◌, List, [], ◌∷◌, ◌++◌, Result, Ok, Err, refl, sym, ap, ◌∙◌, append_assoc, append-nil}
use Rattle.sync_theory.specs.Grid.{Meet, carry, carry_one, carry_put}

-- the result of a carry of which the first entries became these
abbrev pub carry_after : {X E : Type 0} → List X → Result (X × List X) E → Result (X × List X) E
carry_after cs (Ok r) = Ok (r.0, cs ++ r.1)
carry_after cs (Err m) = Err m

module _ {X E : Type 0} (meet : Meet X E) where
  pub carry_none : (r : Result (X × List X) E) → r ≡ carry_after [] r
  carry_none (Ok r) = refl
  carry_none (Err m) = refl

  -- one entry further
  pub carry_step : (cs : List X) (x e : X) (es : List X) (y f : X) → meet x e ≡ Ok (y, f) → carry_after cs (carry meet x (e ∷ es)) ≡ carry_after (cs ++ f ∷ []) (carry meet y es)
  carry_step cs x e es y f is = ap (λ r. carry_after cs (carry_one r (λ y. carry meet y es))) is ∙ on (carry meet y es)
    where
      on : (r : Result (X × List X) E) → carry_after cs (carry_put f r) ≡ carry_after (cs ++ f ∷ []) r
      on (Ok r) = ap (λ l. Ok (r.0, l)) (sym (append_assoc cs (f ∷ []) r.1))
      on (Err m) = refl

  pub carry_stop : (cs : List X) (x e : X) (es : List X) (m : E) → meet x e ≡ Err m → carry_after cs (carry meet x (e ∷ es)) ≡ Err m
  carry_stop cs x e es m is = ap (λ r. carry_after cs (carry_one r (λ y. carry meet y es))) is

  pub carry_end : (cs : List X) (x : X) → carry_after cs (carry meet x []) ≡ Ok (x, cs)
  carry_end cs x = ap (λ l. Ok (x, l)) (append-nil cs)

  -- several entries further
  abbrev joined : Result (X × List X) E → (X → Result (X × List X) E) → Result (X × List X) E
  joined (Ok r) go = carry_after r.1 (go r.0)
  joined (Err m) go = Err m

  put_after : (f : X) (l : List X) (r : Result (X × List X) E) → carry_put f (carry_after l r) ≡ carry_after (f ∷ l) r
  put_after f l (Ok r) = refl
  put_after f l (Err m) = refl

  put_joined : (f : X) (r : Result (X × List X) E) (go : X → Result (X × List X) E) → carry_put f (joined r go) ≡ joined (carry_put f r) go
  put_joined f (Ok r) go = put_after f r.1 (go r.0)
  put_joined f (Err m) go = refl

  one_more : (r : Result (X × X) E) (part rest : List X) → ((y : X) → carry meet y (part ++ rest) ≡ joined (carry meet y part) (λ z. carry meet z rest))
      → carry_one r (λ y. carry meet y (part ++ rest)) ≡ joined (carry_one r (λ y. carry meet y part)) (λ z. carry meet z rest)
  one_more (Ok p) part rest ih = ap (carry_put p.1) (ih p.0) ∙ put_joined p.1 (carry meet p.0 part) (λ z. carry meet z rest)
  one_more (Err m) part rest ih = refl

  carry_append : (part rest : List X) (x : X) → carry meet x (part ++ rest) ≡ joined (carry meet x part) (λ y. carry meet y rest)
  carry_append [] rest x = carry_none (carry meet x rest)
  carry_append (e ∷ part) rest x = one_more (meet x e) part rest (carry_append part rest)

  after_twice : (cs fs : List X) (r : Result (X × List X) E) → carry_after cs (carry_after fs r) ≡ carry_after (cs ++ fs) r
  after_twice cs fs (Ok r) = ap (λ l. Ok (r.0, l)) (sym (append_assoc cs fs r.1))
  after_twice cs fs (Err m) = refl

  pub carry_several : (cs : List X) (x : X) (part rest : List X) (y : X) (fs : List X) → carry meet x part ≡ Ok (y, fs) → carry_after cs (carry meet x (part ++ rest)) ≡ carry_after (cs ++ fs) (carry meet y rest)
  carry_several cs x part rest y fs is = ap (carry_after cs) (carry_append part rest x ∙ ap (λ r. joined r (λ z. carry meet z rest)) is) ∙ after_twice cs fs (carry meet y rest)
