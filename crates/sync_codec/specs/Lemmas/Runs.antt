-- Readers of fields: what they take are the fields of what they give, and from those fields they give it again.
use Rattle.std.proofs.Common.{◌≡◌, ℕ, suc, ◌+◌, ◌^◌, ◌<◌, ◌≤◌, Bool, true, false, cond, eqb, List, [], ◌∷◌, ◌++◌, Some, Result, Ok, Err, refl, sym, ap, subst, ◌∙◌, inl, inr}
use Rattle.std.specs.Prelude.{slice_get, ◌⊎◌}
use Rattle.sync_io.specs.Varints.{varint}
use Rattle.sync_io.specs.VarintLaws.{IsBytes}
use Rattle.sync_codec.specs.declared.refusal.Fault.{Fault}
use Rattle.sync_codec.specs.Fields.{◌>>=◌}
use Rattle.sync_codec.specs.Reading.{Reading, byte_at}
use Rattle.sync_codec.specs.Spelling.{Field, byte, number, run, string}

-- ---- results
pub bind_ok : {A B : Type 0} (r : Result A Fault) (f : A → Result B Fault) (y : B) → (r >>= f) ≡ Ok y → (x : A) × (r ≡ Ok x) × (f x ≡ Ok y)
bind_ok (Ok x) f y e = (x, refl, e)
bind_ok (Err d) f y e = absurd cc

abbrev pub done : {A : Type 0} → A → Result A Fault
done x = Ok x

pub ok_is : {A : Type 0} (x y : A) → done x ≡ done y → x ≡ y
ok_is x y e = cc

pub choice : {A : Type 0} (b : Bool) (x y z : A) → cond b x y ≡ z → ((b ≡ true) × (x ≡ z)) ⊎ ((b ≡ false) × (y ≡ z))
choice true x y z e = inl (refl, e)
choice false x y z e = inr (refl, e)

-- a test that was passed, and one that wasn't
pub passed : {A : Type 0} (b : Bool) (x : Result A Fault) (d : Fault) (y : A) → cond b x (Err d) ≡ Ok y → (b ≡ true) × (x ≡ Ok y)
passed true x d y e = (refl, e)
passed false x d y e = absurd cc

pub not_passed : {A : Type 0} (b : Bool) (x : Result A Fault) (d : Fault) (y : A) → cond b (Err d) x ≡ Ok y → (b ≡ false) × (x ≡ Ok y)
not_passed true x d y e = absurd cc
not_passed false x d y e = (refl, e)

-- ---- runs
-- the text stands at the front, and m is what is left behind it
pub record Took (r : Reading) (text : List ℕ) (used : ℕ) (m : Reading) : Type 0 where
  pub parts : r.rest ≡ text ++ m.rest
  pub same : m ≡ record r { used = used; rest = m.rest }

pub record TookString (r : Reading) (s : List ℕ) (m : Reading) : Type 0 where
  pub place : ℕ
  pub fits : place < 2 ^ 32
  pub known : place ≤ r.used
  pub stands : slice_get r.strings place ≡ Some s
  pub took : Took r (varint place) (cond (eqb place r.used) (place + 1) r.used) m

abbrev pub Step : Reading → Field → Reading → Type 0
Step r (byte b) m = Took r (b ∷ []) r.used m
Step r (number n) m = Took r (varint n) r.used m
Step r (run bytes) m = Took r bytes r.used m
Step r (string s) m = TookString r s m

abbrev pub Run : Reading → List Field → Reading → Type 0
Run r [] m = r ≡ m
Run r (f ∷ fs) m = (k : Reading) × Step r f k × Run k fs m

pub Run-append : (r : Reading) (xs ys : List Field) (k m : Reading) → Run r xs k → Run k ys m → Run r (xs ++ ys) m
Run-append r [] ys k m p q = subst (λ (j : Reading). Run j ys m) (sym p) q
Run-append r (f ∷ xs) ys k m p q = (p.0, p.1, Run-append p.0 xs ys k m p.2 q)

pub Run-split : (r : Reading) (xs ys : List Field) (m : Reading) → Run r (xs ++ ys) m → (k : Reading) × Run r xs k × Run k ys m
Run-split r [] ys m p = (r, refl, p)
Run-split r (f ∷ xs) ys m p = let q = Run-split p.0 xs ys m p.2 in (q.0, (p.0, p.1, q.1), q.2)

pub single : (r : Reading) (f : Field) (m : Reading) → Run r (f ∷ []) m → Step r f m
single r f m p = subst (λ (j : Reading). Step r f j) p.2 p.1

-- a run of the version: where it stands are bytes, and the version stays
pub record From (second : Bool) (r : Reading) : Type 0 where
  pub version : r.second ≡ second
  pub bytes : IsBytes r.rest

pub bytes_behind : (a b : List ℕ) → IsBytes (a ++ b) → IsBytes b
bytes_behind [] b h = h
bytes_behind (x ∷ a) b h = bytes_behind a b (λ i. h (suc i))

took_bytes : (r : Reading) (text : List ℕ) (used : ℕ) (m : Reading) → Took r text used m → IsBytes r.rest → IsBytes m.rest
took_bytes r text used m t h = bytes_behind text m.rest (subst (λ (bs : List ℕ). IsBytes bs) t.parts h)

step_bytes : (r : Reading) (f : Field) (m : Reading) → Step r f m → IsBytes r.rest → IsBytes m.rest
step_bytes r (byte b) m t h = took_bytes r (b ∷ []) r.used m t h
step_bytes r (number n) m t h = took_bytes r (varint n) r.used m t h
step_bytes r (run bytes) m t h = took_bytes r bytes r.used m t h
step_bytes r (string s) m t h = took_bytes r (varint t.place) (cond (eqb t.place r.used) (t.place + 1) r.used) m t.took h

run_bytes : (r : Reading) (fs : List Field) (m : Reading) → Run r fs m → IsBytes r.rest → IsBytes m.rest
run_bytes r [] m p h = subst (λ (j : Reading). IsBytes j.rest) p h
run_bytes r (f ∷ fs) m p h = run_bytes p.0 fs m p.2 (step_bytes r f p.0 p.1 h)

step_same : (r : Reading) (f : Field) (m : Reading) → Step r f m → (m.second ≡ r.second) × (m.strings ≡ r.strings)
step_same r (byte b) m t = (ap (λ (j : Reading). j.second) t.same, ap (λ (j : Reading). j.strings) t.same)
step_same r (number n) m t = (ap (λ (j : Reading). j.second) t.same, ap (λ (j : Reading). j.strings) t.same)
step_same r (run bytes) m t = (ap (λ (j : Reading). j.second) t.same, ap (λ (j : Reading). j.strings) t.same)
step_same r (string s) m t = (ap (λ (j : Reading). j.second) t.took.same, ap (λ (j : Reading). j.strings) t.took.same)

pub run_same : (r : Reading) (fs : List Field) (m : Reading) → Run r fs m → (m.second ≡ r.second) × (m.strings ≡ r.strings)
run_same r [] m p = (ap (λ (j : Reading). j.second) (sym p), ap (λ (j : Reading). j.strings) (sym p))
run_same r (f ∷ fs) m p =
    let one = step_same r f p.0 p.1 in
    let more = run_same p.0 fs m p.2 in
    (more.0 ∙ one.0, more.1 ∙ one.1)

pub run_from : (second : Bool) (r : Reading) (fs : List Field) (m : Reading) → Run r fs m → From second r → From second m
run_from second r fs m p h = record { version = (run_same r fs m p).0 ∙ h.version; bytes = run_bytes r fs m p h.bytes }

-- ---- readers
pub record Reads (second : Bool) {A : Type 0} (read : Reading → Result (A × Reading) Fault) (fields : A → List Field) (Fits : A → Type 0) : Type 0 where
  pub takes : (r : Reading) (x : A) (m : Reading) → From second r → read r ≡ Ok (x, m) → Run r (fields x) m × Fits x
  pub again : (r : Reading) (x : A) (m : Reading) → r.second ≡ second → Fits x → Run r (fields x) m → read r ≡ Ok (x, m)

module _ (second : Bool) {A D : Type 0} (ra : Reading → Result (A × Reading) Fault) (fa : A → List Field) (FA : A → Type 0) (make : A → D) (fd : D → List Field) (FD : D → Type 0) where
  pub one : Reads second ra fa FA → ((a : A) → fd (make a) ≡ fa a) → ((a : A) → FA a → FD (make a)) → ((d : D) → FD d → (a : A) × (make a ≡ d) × FA a) → Reads second (λ r. ra r >>= λ a. Ok (make a.0, a.1)) fd FD
  one ha fields fits parts = record {
    takes = λ r x m h e.
        let a = bind_ok (ra r) (λ (a : A × Reading). Ok (make a.0, a.1)) (x, m) e in
        let ta = ha.takes r a.0.0 a.0.1 h a.1 in
        let made : D × Reading = (make a.0.0, a.0.1) in
        subst (λ (y : D × Reading). Run r (fd y.0) y.1 × FD y.0) (ok_is made (x, m) a.2) (rw (fields a.0.0) ta.0, fits a.0.0 ta.1);
    again = λ r x m version ok ran.
        let p = parts x ok in
        let ran2 : Run r (fa p.0) m = subst (λ (fs : List Field). Run r fs m) (ap fd (sym p.1) ∙ fields p.0) ran in
        rw (ha.again r p.0 m version p.2 ran2) (ap (λ (d : D). Ok (d, m)) p.1);
  }

module _ (second : Bool) {A B D : Type 0} (ra : Reading → Result (A × Reading) Fault) (fa : A → List Field) (FA : A → Type 0) (rb : Reading → Result (B × Reading) Fault) (fb : B → List Field) (FB : B → Type 0)
    (make : A → B → D) (fd : D → List Field) (FD : D → Type 0) where
  pub two : Reads second ra fa FA → Reads second rb fb FB → ((a : A) (b : B) → fd (make a b) ≡ fa a ++ fb b) → ((a : A) (b : B) → FA a → FB b → FD (make a b)) → ((d : D) → FD d → (a : A) × (b : B) × (make a b ≡ d) × FA a × FB b)
      → Reads second (λ r. ra r >>= λ a. rb a.1 >>= λ b. Ok (make a.0 b.0, b.1)) fd FD
  two ha hb fields fits parts = record {
    takes = λ r x m h e.
        let a = bind_ok (ra r) (λ (a : A × Reading). rb a.1 >>= λ b. Ok (make a.0 b.0, b.1)) (x, m) e in
        let b = bind_ok (rb a.0.1) (λ (b : B × Reading). Ok (make a.0.0 b.0, b.1)) (x, m) a.2 in
        let ta = ha.takes r a.0.0 a.0.1 h a.1 in
        let tb = hb.takes a.0.1 b.0.0 b.0.1 (run_from second r (fa a.0.0) a.0.1 ta.0 h) b.1 in
        let made : D × Reading = (make a.0.0 b.0.0, b.0.1) in
        subst (λ (y : D × Reading). Run r (fd y.0) y.1 × FD y.0) (ok_is made (x, m) b.2)
        (rw (fields a.0.0 b.0.0) (Run-append r (fa a.0.0) (fb b.0.0) a.0.1 b.0.1 ta.0 tb.0), fits a.0.0 b.0.0 ta.1 tb.1);
    again = λ r x m version ok ran.
        let p = parts x ok in
        let ran2 : Run r (fa p.0 ++ fb p.1) m = subst (λ (fs : List Field). Run r fs m) (ap fd (sym p.2) ∙ fields p.0 p.1) ran in
        let s = Run-split r (fa p.0) (fb p.1) m ran2 in
        rw (ha.again r p.0 s.0 version p.3 s.1, hb.again s.0 p.1 m ((run_same r (fa p.0) s.0 s.1).0 ∙ version) p.4 s.2) (ap (λ (d : D). Ok (d, m)) p.2);
  }

module _ (second : Bool) {A B C D : Type 0} (ra : Reading → Result (A × Reading) Fault) (fa : A → List Field) (FA : A → Type 0) (rb : Reading → Result (B × Reading) Fault) (fb : B → List Field) (FB : B → Type 0)
    (rc : Reading → Result (C × Reading) Fault) (fc : C → List Field) (FC : C → Type 0) (make : A → B → C → D) (fd : D → List Field) (FD : D → Type 0) where
  pub three : Reads second ra fa FA → Reads second rb fb FB → Reads second rc fc FC → ((a : A) (b : B) (c : C) → fd (make a b c) ≡ fa a ++ (fb b ++ fc c)) → ((a : A) (b : B) (c : C) → FA a → FB b → FC c → FD (make a b c))
      → ((d : D) → FD d → (a : A) × (b : B) × (c : C) × (make a b c ≡ d) × FA a × FB b × FC c)
      → Reads second (λ r. ra r >>= λ a. rb a.1 >>= λ b. rc b.1 >>= λ c. Ok (make a.0 b.0 c.0, c.1)) fd FD
  three ha hb hc fields fits parts = record {
    takes = λ r x m h e.
        let a = bind_ok (ra r) (λ (a : A × Reading). rb a.1 >>= λ b. rc b.1 >>= λ c. Ok (make a.0 b.0 c.0, c.1)) (x, m) e in
        let b = bind_ok (rb a.0.1) (λ (b : B × Reading). rc b.1 >>= λ c. Ok (make a.0.0 b.0 c.0, c.1)) (x, m) a.2 in
        let c = bind_ok (rc b.0.1) (λ (c : C × Reading). Ok (make a.0.0 b.0.0 c.0, c.1)) (x, m) b.2 in
        let ta = ha.takes r a.0.0 a.0.1 h a.1 in
        let after_a = run_from second r (fa a.0.0) a.0.1 ta.0 h in
        let tb = hb.takes a.0.1 b.0.0 b.0.1 after_a b.1 in
        let after_b = run_from second a.0.1 (fb b.0.0) b.0.1 tb.0 after_a in
        let tc = hc.takes b.0.1 c.0.0 c.0.1 after_b c.1 in
        let made : D × Reading = (make a.0.0 b.0.0 c.0.0, c.0.1) in
        subst (λ (y : D × Reading). Run r (fd y.0) y.1 × FD y.0) (ok_is made (x, m) c.2)
        (rw (fields a.0.0 b.0.0 c.0.0) (Run-append r (fa a.0.0) (fb b.0.0 ++ fc c.0.0) a.0.1 c.0.1 ta.0 (Run-append a.0.1 (fb b.0.0) (fc c.0.0) b.0.1 c.0.1 tb.0 tc.0)), fits a.0.0 b.0.0 c.0.0 ta.1 tb.1 tc.1);
    again = λ r x m version ok ran.
        let p = parts x ok in
        let ran2 : Run r (fa p.0 ++ (fb p.1 ++ fc p.2)) m = subst (λ (fs : List Field). Run r fs m) (ap fd (sym p.3) ∙ fields p.0 p.1 p.2) ran in
        let s = Run-split r (fa p.0) (fb p.1 ++ fc p.2) m ran2 in
        let t = Run-split s.0 (fb p.1) (fc p.2) m s.2 in
        let at_b = (run_same r (fa p.0) s.0 s.1).0 ∙ version in
        let at_c = (run_same s.0 (fb p.1) t.0 t.1).0 ∙ at_b in
        rw (ha.again r p.0 s.0 version p.4 s.1, hb.again s.0 p.1 t.0 at_b p.5 t.1, hc.again t.0 p.2 m at_c p.6 t.2) (ap (λ (d : D). Ok (d, m)) p.3);
  }

-- a reader whose value must pass a test
module _ (second : Bool) {A : Type 0} (ra : Reading → Result (A × Reading) Fault) (fa : A → List Field) (FA : A → Type 0) (test : A → Bool) (fault : Reading → Fault) where
  pub checked : Reads second ra fa FA → Reads second (λ r. ra r >>= λ a. cond (test a.0) (Ok a) (Err (fault r))) fa (λ a. FA a × (test a ≡ true))
  checked ha = record {
    takes = λ r x m h e.
        let a = bind_ok (ra r) (λ (a : A × Reading). cond (test a.0) (Ok a) (Err (fault r))) (x, m) e in
        let g = passed (test a.0.0) (Ok a.0) (fault r) (x, m) a.2 in
        let ta = ha.takes r a.0.0 a.0.1 h a.1 in
        subst (λ (y : A × Reading). Run r (fa y.0) y.1 × (FA y.0 × (test y.0 ≡ true))) (ok_is a.0 (x, m) g.1) (ta.0, (ta.1, g.0));
    again = λ r x m version ok ran. rw (ha.again r x m version ok.0 ran, ok.1) refl;
  }

-- the same reader, told otherwise
module _ (second : Bool) {A : Type 0} (ra : Reading → Result (A × Reading) Fault) (fa : A → List Field) (FA FB : A → Type 0) where
  pub refit : Reads second ra fa FA → ((a : A) → FA a → FB a) → ((a : A) → FB a → FA a) → Reads second ra fa FB
  refit ha there back = record {
    takes = λ r x m h e. let t = ha.takes r x m h e in (t.0, there x t.1);
    again = λ r x m version ok ran. ha.again r x m version (back x ok) ran;
  }

-- a byte that tells what follows
module _ (second : Bool) {A : Type 0} (pick : ℕ → Reading → Reading → Result (A × Reading) Fault) (tag : A → ℕ) (tail : A → List Field) (Fits : A → Type 0) where
  pub tagged : Reads second byte_at (λ b. byte b ∷ []) (λ b. Unit {0}) → ((r k : Reading) (t : ℕ) (x : A) (m : Reading) → r.second ≡ second → From second k → pick t k r ≡ Ok (x, m) → (t ≡ tag x) × Run k (tail x) m × Fits x)
      → ((r k : Reading) (x : A) (m : Reading) → r.second ≡ second → k.second ≡ second → Fits x → Run k (tail x) m → pick (tag x) k r ≡ Ok (x, m))
      → Reads second (λ r. byte_at r >>= λ b. pick b.0 b.1 r) (λ x. byte (tag x) ∷ tail x) Fits
  tagged hb picks picked = record {
    takes = λ r x m h e.
        let b = bind_ok (byte_at r) (λ (b : ℕ × Reading). pick b.0 b.1 r) (x, m) e in
        let tb = hb.takes r b.0.0 b.0.1 h b.1 in
        let p = picks r b.0.1 b.0.0 x m h.version (run_from second r (byte b.0.0 ∷ []) b.0.1 tb.0 h) b.2 in
        (subst (λ (t : ℕ). Run r (byte t ∷ tail x) m) p.0 (Run-append r (byte b.0.0 ∷ []) (tail x) b.0.1 m tb.0 p.1), p.2);
    again = λ r x m version ok ran.
        let k = ran.0 in
        let first : Run r (byte (tag x) ∷ []) k = (k, ran.1, refl) in
        rw (hb.again r (tag x) k version tt first) (picked r k x m version ((run_same r (byte (tag x) ∷ []) k first).0 ∙ version) ok ran.2);
  }

-- two fields that must pass a test together
module _ (second : Bool) {A B D : Type 0} (ra : Reading → Result (A × Reading) Fault) (fa : A → List Field) (FA : A → Type 0) (rb : Reading → Result (B × Reading) Fault) (fb : B → List Field) (FB : B → Type 0)
    (make : A → B → D) (pa : D → A) (pb : D → B) (test : A → B → Bool) (fault : Reading → Fault) where
  pub two_checked : Reads second ra fa FA → Reads second rb fb FB → ((a : A) (b : B) → pa (make a b) ≡ a) → ((a : A) (b : B) → pb (make a b) ≡ b) → ((d : D) → make (pa d) (pb d) ≡ d)
      → Reads second (λ r. ra r >>= λ a. rb a.1 >>= λ b. cond (test a.0 b.0) (Ok (make a.0 b.0, b.1)) (Err (fault r))) (λ d. fa (pa d) ++ fb (pb d)) (λ d. FA (pa d) × FB (pb d) × (test (pa d) (pb d) ≡ true))
  two_checked ha hb is_a is_b again_d = record {
    takes = λ r x m h e.
        let a = bind_ok (ra r) (λ (a : A × Reading). rb a.1 >>= λ b. cond (test a.0 b.0) (Ok (make a.0 b.0, b.1)) (Err (fault r))) (x, m) e in
        let b = bind_ok (rb a.0.1) (λ (b : B × Reading). cond (test a.0.0 b.0) (Ok (make a.0.0 b.0, b.1)) (Err (fault r))) (x, m) a.2 in
        let g = passed (test a.0.0 b.0.0) (Ok (make a.0.0 b.0.0, b.0.1)) (fault r) (x, m) b.2 in
        let ta = ha.takes r a.0.0 a.0.1 h a.1 in
        let tb = hb.takes a.0.1 b.0.0 b.0.1 (run_from second r (fa a.0.0) a.0.1 ta.0 h) b.1 in
        let made : D × Reading = (make a.0.0 b.0.0, b.0.1) in
        subst (λ (y : D × Reading). Run r (fa (pa y.0) ++ fb (pb y.0)) y.1 × (FA (pa y.0) × FB (pb y.0) × (test (pa y.0) (pb y.0) ≡ true))) (ok_is made (x, m) g.1)
        (rw (is_a a.0.0 b.0.0, is_b a.0.0 b.0.0) (Run-append r (fa a.0.0) (fb b.0.0) a.0.1 b.0.1 ta.0 tb.0, (ta.1, tb.1, g.0)));
    again = λ r x m version ok ran.
        let s = Run-split r (fa (pa x)) (fb (pb x)) m ran in
        rw (ha.again r (pa x) s.0 version ok.0 s.1, hb.again s.0 (pb x) m ((run_same r (fa (pa x)) s.0 s.1).0 ∙ version) ok.1 s.2, ok.2) (ap (λ (d : D). Ok (d, m)) (again_d x));
  }
