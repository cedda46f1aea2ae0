-- The reader of columns.
use Rattle.std.proofs.Common.{◌≡◌, ℕ, ◌<◌, Bool, true, cond, eqb, ltb, List, [], ◌∷◌, length, Result, Ok, refl, ap, subst, ◌∙◌, arith, inl, inr}
use Rattle.std.specs.Prelude.{◌&&◌}
use Rattle.std.proofs.lemmas.Bool.{eqb-true, eqb-false, ltb-true}
use Rattle.sync_data.specs.declared.column.Kind.{Kind}
use Rattle.sync_data.specs.declared.column.Kind.TheVariants as kinds
use Rattle.sync_data.specs.declared.column.Shape.{Shape}
use Rattle.sync_data.specs.declared.column.Column.{Column}
use Rattle.sync_codec.specs.declared.refusal.Fault.{Fault}
use Rattle.sync_codec.specs.declared.refusal.Rule.TheVariants.{BadTag}
use Rattle.sync_codec.specs.Fields.{◌>>=◌}
use Rattle.sync_codec.specs.Reading.{Reading, byte_at, name_at}
use Rattle.sync_codec.specs.Keys.{flag_at, shape_at, kind_byte_at, link_at, kind_at, column_at}
use Rattle.sync_codec.specs.Spelling.{byte, string, kind_byte, shape_byte, flag_byte, target_fields, column_fields}
use Rattle.sync_codec.specs.Valid.{IsName, IsKind}
use Rattle.sync_codec.specs.Lemmas.Runs.{bind_ok, ok_is, choice, Run, Run-append, run_from, run_same, From, Reads, one, checked}
use Rattle.sync_codec.specs.Lemmas.Fields.{Always, read_byte}
use Rattle.sync_codec.specs.Lemmas.Keys.{Pair, alone, both_true, ShapeFits, read_own_name, read_flag, read_shape}

abbrev in_table : ℕ → Bool
in_table b = ltb 0 b && ltb b 8

read_kind_byte : (second : Bool) → Reads second kind_byte_at (λ b. byte b ∷ []) (λ b. Always b × (in_table b ≡ true))
unfolding kind_byte_at
read_kind_byte second = checked second byte_at (λ b. byte b ∷ []) Always in_table (λ r. record { left = length r.rest; rule = BadTag }) (read_byte second)

kind_in_table : (k : Kind) → in_table (kind_byte k) ≡ true
kind_in_table kinds.Int = refl
kind_in_table kinds.Bool = refl
kind_in_table kinds.Text = refl
kind_in_table kinds.Bytes = refl
kind_in_table kinds.Time = refl
kind_in_table kinds.Uuid = refl
kind_in_table (kinds.Link t) = refl

abbrev LinkKind : Kind → Type 0
LinkKind k = (7 ≡ kind_byte k) × IsKind k

link_parts : (k : Kind) → LinkKind k → (t : List ℕ) × (kinds.Link t ≡ k) × IsName t
link_parts (kinds.Link t) h = (t, refl, h.1)
link_parts kinds.Int h = absurd cc
link_parts kinds.Bool h = absurd cc
link_parts kinds.Text h = absurd cc
link_parts kinds.Bytes h = absurd cc
link_parts kinds.Time h = absurd cc
link_parts kinds.Uuid h = absurd cc

read_link : (second : Bool) → Reads second link_at target_fields LinkKind
unfolding link_at
read_link second = one second name_at (λ s. string s ∷ []) IsName (λ t. kinds.Link t) target_fields LinkKind (read_own_name second) (λ t. refl) (λ t h. (refl, h)) link_parts

-- what stands for the tests that failed
module _ (k : Reading) where
  abbrev rest_6 : ℕ → Result (Kind × Reading) Fault
  rest_6 b = cond (eqb b 6) (Pair kinds.Uuid k) (link_at k)

  abbrev rest_5 : ℕ → Result (Kind × Reading) Fault
  rest_5 b = cond (eqb b 5) (Pair kinds.Time k) (rest_6 b)

  abbrev rest_4 : ℕ → Result (Kind × Reading) Fault
  rest_4 b = cond (eqb b 4) (Pair kinds.Bytes k) (rest_5 b)

  abbrev rest_3 : ℕ → Result (Kind × Reading) Fault
  rest_3 b = cond (eqb b 3) (Pair kinds.Text k) (rest_4 b)

  abbrev rest_2 : ℕ → Result (Kind × Reading) Fault
  rest_2 b = cond (eqb b 2) (Pair kinds.Bool k) (rest_3 b)

abbrev KindTaken : ℕ → Reading → Kind → Reading → Type 0
KindTaken b k x m = (b ≡ kind_byte x) × Run k (target_fields x) m × IsKind x

kind_takes : (second : Bool) (b : ℕ) (k : Reading) (x : Kind) (m : Reading) → in_table b ≡ true → From second k → kind_at b k ≡ Ok (x, m) → KindTaken b k x m
unfolding kind_at
kind_takes second b k x m range h e =
    elim (choice (eqb b 1) (Pair kinds.Int k) (rest_2 k b) (Pair x m) e) [
      | inl p ↦ alone kind_byte target_fields IsKind b kinds.Int k x m (eqb-true _ _ p.0) refl tt p.1
      | inr p1 ↦ elim (choice (eqb b 2) (Pair kinds.Bool k) (rest_3 k b) (Pair x m) p1.1) [
        | inl p ↦ alone kind_byte target_fields IsKind b kinds.Bool k x m (eqb-true _ _ p.0) refl tt p.1
        | inr p2 ↦ elim (choice (eqb b 3) (Pair kinds.Text k) (rest_4 k b) (Pair x m) p2.1) [
          | inl p ↦ alone kind_byte target_fields IsKind b kinds.Text k x m (eqb-true _ _ p.0) refl tt p.1
          | inr p3 ↦ elim (choice (eqb b 4) (Pair kinds.Bytes k) (rest_5 k b) (Pair x m) p3.1) [
            | inl p ↦ alone kind_byte target_fields IsKind b kinds.Bytes k x m (eqb-true _ _ p.0) refl tt p.1
            | inr p4 ↦ elim (choice (eqb b 5) (Pair kinds.Time k) (rest_6 k b) (Pair x m) p4.1) [
              | inl p ↦ alone kind_byte target_fields IsKind b kinds.Time k x m (eqb-true _ _ p.0) refl tt p.1
              | inr p5 ↦ elim (choice (eqb b 6) (Pair kinds.Uuid k) (link_at k) (Pair x m) p5.1) [
                | inl p ↦ alone kind_byte target_fields IsKind b kinds.Uuid k x m (eqb-true _ _ p.0) refl tt p.1
                | inr p6 ↦
                    let t = (read_link second).takes k x m h p6.1 in
                    let low : 0 < b = ltb-true 0 b (both_true (ltb 0 b) (ltb b 8) range).0 in
                    let high : b < 8 = ltb-true b 8 (both_true (ltb 0 b) (ltb b 8) range).1 in
                    let seven : b ≡ 7 = omega (arith, eqb-false b 1 p1.0, eqb-false b 2 p2.0, eqb-false b 3 p3.0, eqb-false b 4 p4.0, eqb-false b 5 p5.0, eqb-false b 6 p6.0) in
                    (seven ∙ t.1.0, t.0, t.1.1)
              ]
            ]
          ]
        ]
      ]
    ]

kind_again : (second : Bool) (k : Reading) (x : Kind) (m : Reading) → k.second ≡ second → IsKind x → Run k (target_fields x) m → kind_at (kind_byte x) k ≡ Ok (x, m)
unfolding kind_at
kind_again second k kinds.Int m v ok p = ap (λ (j : Reading). Pair kinds.Int j) p
kind_again second k kinds.Bool m v ok p = ap (λ (j : Reading). Pair kinds.Bool j) p
kind_again second k kinds.Text m v ok p = ap (λ (j : Reading). Pair kinds.Text j) p
kind_again second k kinds.Bytes m v ok p = ap (λ (j : Reading). Pair kinds.Bytes j) p
kind_again second k kinds.Time m v ok p = ap (λ (j : Reading). Pair kinds.Time j) p
kind_again second k kinds.Uuid m v ok p = ap (λ (j : Reading). Pair kinds.Uuid j) p
kind_again second k (kinds.Link t) m v ok p = (read_link second).again k (kinds.Link t) m v (refl, ok) p

abbrev pub ColumnFits : Bool → Column → Type 0
ColumnFits second c = IsKind c.kind × ShapeFits second c.shape

pub read_column : (second : Bool) → Reads second column_at column_fields (ColumnFits second)
unfolding column_at
read_column second = record {
  takes = λ r x m h e.
      let b = bind_ok (kind_byte_at r) (λ (b : ℕ × Reading). flag_at b.1 >>= λ nullable. shape_at nullable.1 >>= λ shape. kind_at b.0 shape.1 >>= λ kind. Ok (record { kind = kind.0; nullable = nullable.0; shape = shape.0 }, kind.1)) (x, m) e in
      let n = bind_ok (flag_at b.0.1) (λ (nullable : Bool × Reading). shape_at nullable.1 >>= λ shape. kind_at b.0.0 shape.1 >>= λ kind. Ok (record { kind = kind.0; nullable = nullable.0; shape = shape.0 }, kind.1)) (x, m) b.2 in
      let s = bind_ok (shape_at n.0.1) (λ (shape : Shape × Reading). kind_at b.0.0 shape.1 >>= λ kind. Ok (record { kind = kind.0; nullable = n.0.0; shape = shape.0 }, kind.1)) (x, m) n.2 in
      let k = bind_ok (kind_at b.0.0 s.0.1) (λ (kind : Kind × Reading). Ok (record { kind = kind.0; nullable = n.0.0; shape = s.0.0 }, kind.1)) (x, m) s.2 in
      let tb = (read_kind_byte second).takes r b.0.0 b.0.1 h b.1 in
      let hb = run_from second r (byte b.0.0 ∷ []) b.0.1 tb.0 h in
      let tn = (read_flag second).takes b.0.1 n.0.0 n.0.1 hb n.1 in
      let hn = run_from second b.0.1 (byte (flag_byte n.0.0) ∷ []) n.0.1 tn.0 hb in
      let ts = (read_shape second).takes n.0.1 s.0.0 s.0.1 hn s.1 in
      let hs = run_from second n.0.1 (byte (shape_byte s.0.0) ∷ []) s.0.1 ts.0 hn in
      let tk = kind_takes second b.0.0 s.0.1 k.0.0 k.0.1 tb.1.1 hs k.1 in
      let made : Column × Reading = (record { kind = k.0.0; nullable = n.0.0; shape = s.0.0 }, k.0.1) in
      let ran = Run-append r (byte b.0.0 ∷ []) (byte (flag_byte n.0.0) ∷ byte (shape_byte s.0.0) ∷ target_fields k.0.0) b.0.1 k.0.1 tb.0
      (Run-append b.0.1 (byte (flag_byte n.0.0) ∷ []) (byte (shape_byte s.0.0) ∷ target_fields k.0.0) n.0.1 k.0.1 tn.0
      (Run-append n.0.1 (byte (shape_byte s.0.0) ∷ []) (target_fields k.0.0) s.0.1 k.0.1 ts.0 tk.1)) in
      let ran2 : Run r (column_fields made.0) k.0.1 = subst (λ (t : ℕ). Run r (byte t ∷ byte (flag_byte n.0.0) ∷ byte (shape_byte s.0.0) ∷ target_fields k.0.0) k.0.1) tk.0 ran in
      subst (λ (y : Column × Reading). Run r (column_fields y.0) y.1 × ColumnFits second y.0) (ok_is made (x, m) k.2) (ran2, (tk.2, ts.1));
  again = λ r x m v ok ran.
      let k1 = ran.0 in
      let k2 = ran.2.0 in
      let k3 = ran.2.2.0 in
      let one : Run r (byte (kind_byte x.kind) ∷ []) k1 = (k1, ran.1, refl) in
      let two : Run k1 (byte (flag_byte x.nullable) ∷ []) k2 = (k2, ran.2.1, refl) in
      let three : Run k2 (byte (shape_byte x.shape) ∷ []) k3 = (k3, ran.2.2.1, refl) in
      let v1 = (run_same r (byte (kind_byte x.kind) ∷ []) k1 one).0 ∙ v in
      let v2 = (run_same k1 (byte (flag_byte x.nullable) ∷ []) k2 two).0 ∙ v1 in
      let v3 = (run_same k2 (byte (shape_byte x.shape) ∷ []) k3 three).0 ∙ v2 in
      rw ((read_kind_byte second).again r (kind_byte x.kind) k1 v (tt, kind_in_table x.kind) one, (read_flag second).again k1 x.nullable k2 v1 tt two, (read_shape second).again k2 x.shape k3 v2 ok.1 three, kind_again second k3 x.kind m v3 ok.0 ran.2.2.2) refl;
}
