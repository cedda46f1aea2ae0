-- The orders of names, keys and values, each the order of a list of parts. Equal parts are one value.
use Rattle.std.specs.Prelude.{◌≡◌, ℕ, ℤ, pos, true, false, cond, List, [], ◌==◌, refl}
use Rattle.std.specs.declared.cmp.Ordering.{Ordering}
use Rattle.std.specs.declared.cmp.Ordering.TheVariants.{Less, Equal, Greater}
use Rattle.std.specs.Ordering.{int_eq, nat_cmp, int_cmp, on, then_cmp, ordering_then}
use Rattle.std.specs.Cmp.{IsTotalOrder, nat_cmp_total, int_cmp_total, on_total, then_total}
use Rattle.std.specs.Cmp.Lexicographic.{slice_cmp, nat_list_cmp_total}
use Rattle.std.specs.FinMap.{IsAntisymmetric, nat_cmp-IsAntisymmetric, int_cmp-IsAntisymmetric, slice_cmp-IsAntisymmetric}
use Rattle.std.proofs.Common.{sym, ◌∙◌}
use Rattle.sync_data.specs.declared.key.Key.{Key}
use Rattle.sync_data.specs.declared.key.Key.TheVariants as keys
use Rattle.sync_data.specs.declared.value.Value.{Value}
use Rattle.sync_data.specs.declared.value.Value.TheVariants as values

abbrev pub name_cmp : List ℕ → List ℕ → Ordering
name_cmp = slice_cmp nat_cmp

-- ---- keys: the kind, the number, the bytes
abbrev pub key_rank : Key → ℕ
key_rank (keys.Int n) = 0
key_rank (keys.Text t) = 1
key_rank (keys.Uuid u) = 2

abbrev pub key_number : Key → ℤ
key_number (keys.Int n) = n
key_number (keys.Text t) = pos 0
key_number (keys.Uuid u) = pos 0

abbrev pub key_bytes : Key → List ℕ
key_bytes (keys.Int n) = []
key_bytes (keys.Text t) = t
key_bytes (keys.Uuid u) = u

abbrev pub key_cmp : Key → Key → Ordering
key_cmp = then_cmp (on key_rank nat_cmp) (then_cmp (on key_number int_cmp) (on key_bytes name_cmp))

pub key_cmp_total : IsTotalOrder key_cmp
key_cmp_total = then_total (on_total key_rank nat_cmp_total) (then_total (on_total key_number int_cmp_total) (on_total key_bytes nat_list_cmp_total))

pub ties_first : (a b : Ordering) → ordering_then a b ≡ Equal → a ≡ Equal
ties_first Less b e = e
ties_first Equal b e = refl
ties_first Greater b e = e

pub ties_second : (a b : Ordering) → ordering_then a b ≡ Equal → b ≡ Equal
ties_second Less b e = cc
ties_second Equal b e = e
ties_second Greater b e = cc

pub key_of : ℕ → ℤ → List ℕ → Key
key_of r n b = cond (r == 0) (keys.Int n) (cond (r == 1) (keys.Text b) (keys.Uuid b))

pub key_of-parts : (k : Key) → key_of (key_rank k) (key_number k) (key_bytes k) ≡ k
unfolding key_of
key_of-parts (keys.Int n) = refl
key_of-parts (keys.Text t) = refl
key_of-parts (keys.Uuid u) = refl

pub key_cmp_exact : IsAntisymmetric key_cmp
key_cmp_exact x y e =
    let rest : then_cmp (on key_number int_cmp) (on key_bytes name_cmp) x y ≡ Equal = ties_second (nat_cmp (key_rank x) (key_rank y)) _ e in
    let r : key_rank x ≡ key_rank y = nat_cmp-IsAntisymmetric _ _ (ties_first (nat_cmp (key_rank x) (key_rank y)) _ e) in
    let n : key_number x ≡ key_number y = int_cmp-IsAntisymmetric _ _ (ties_first (int_cmp (key_number x) (key_number y)) _ rest) in
    let b : key_bytes x ≡ key_bytes y = slice_cmp-IsAntisymmetric nat_cmp-IsAntisymmetric _ _ (ties_second (int_cmp (key_number x) (key_number y)) _ rest) in
    sym (key_of-parts x) ∙ (λ i. key_of (r i) (n i) (b i)) ∙ key_of-parts y

-- ---- values: the kind, the number or the seconds, the nanoseconds, the bytes or a link's table, a link's key
abbrev pub value_rank : Value → ℕ
value_rank values.Null = 0
value_rank (values.Int n) = 1
value_rank (values.Bool b) = 2
value_rank (values.Text t) = 3
value_rank (values.Bytes b) = 4
value_rank (values.Time t) = 5
value_rank (values.Uuid u) = 6
value_rank (values.Link t k) = 7

abbrev pub value_number : Value → ℤ
value_number values.Null = pos 0
value_number (values.Int n) = n
value_number (values.Bool b) = cond b (pos 1) (pos 0)
value_number (values.Text t) = pos 0
value_number (values.Bytes b) = pos 0
value_number (values.Time t) = t.secs
value_number (values.Uuid u) = pos 0
value_number (values.Link t k) = pos 0

abbrev pub value_nanos : Value → ℤ
value_nanos values.Null = pos 0
value_nanos (values.Int n) = pos 0
value_nanos (values.Bool b) = pos 0
value_nanos (values.Text t) = pos 0
value_nanos (values.Bytes b) = pos 0
value_nanos (values.Time t) = t.nanos
value_nanos (values.Uuid u) = pos 0
value_nanos (values.Link t k) = pos 0

abbrev pub value_bytes : Value → List ℕ
value_bytes values.Null = []
value_bytes (values.Int n) = []
value_bytes (values.Bool b) = []
value_bytes (values.Text t) = t
value_bytes (values.Bytes b) = b
value_bytes (values.Time t) = []
value_bytes (values.Uuid u) = u
value_bytes (values.Link t k) = t

abbrev pub value_key : Value → Key
value_key values.Null = keys.Int (pos 0)
value_key (values.Int n) = keys.Int (pos 0)
value_key (values.Bool b) = keys.Int (pos 0)
value_key (values.Text t) = keys.Int (pos 0)
value_key (values.Bytes b) = keys.Int (pos 0)
value_key (values.Time t) = keys.Int (pos 0)
value_key (values.Uuid u) = keys.Int (pos 0)
value_key (values.Link t k) = k

abbrev pub value_cmp : Value → Value → Ordering
value_cmp = then_cmp (on value_rank nat_cmp) (then_cmp (on value_number int_cmp) (then_cmp (on value_nanos int_cmp) (then_cmp (on value_bytes name_cmp) (on value_key key_cmp))))

pub value_cmp_total : IsTotalOrder value_cmp
value_cmp_total = then_total (on_total value_rank nat_cmp_total) (then_total (on_total value_number int_cmp_total) (then_total (on_total value_nanos int_cmp_total) (then_total (on_total value_bytes nat_list_cmp_total) (on_total value_key key_cmp_total))))

pub value_of : ℕ → ℤ → ℤ → List ℕ → Key → Value
value_of r n m b k = cond (r == 0) values.Null (cond (r == 1) (values.Int n) (cond (r == 2) (values.Bool (int_eq n (pos 1))) (cond (r == 3) (values.Text b) (cond (r == 4) (values.Bytes b) (cond (r == 5) (values.Time (record { secs = n; nanos = m })) (cond (r == 6) (values.Uuid b) (values.Link b k)))))))

pub value_of-parts : (v : Value) → value_of (value_rank v) (value_number v) (value_nanos v) (value_bytes v) (value_key v) ≡ v
unfolding value_of
value_of-parts values.Null = refl
value_of-parts (values.Int n) = refl
value_of-parts (values.Bool true) = refl
value_of-parts (values.Bool false) = refl
value_of-parts (values.Text t) = refl
value_of-parts (values.Bytes b) = refl
value_of-parts (values.Time t) = refl
value_of-parts (values.Uuid u) = refl
value_of-parts (values.Link t k) = refl

pub value_cmp_exact : IsAntisymmetric value_cmp
value_cmp_exact x y e =
    let a = ties_second (nat_cmp (value_rank x) (value_rank y)) _ e in
    let b = ties_second (int_cmp (value_number x) (value_number y)) _ a in
    let c = ties_second (int_cmp (value_nanos x) (value_nanos y)) _ b in
    let r : value_rank x ≡ value_rank y = nat_cmp-IsAntisymmetric _ _ (ties_first (nat_cmp (value_rank x) (value_rank y)) _ e) in
    let n : value_number x ≡ value_number y = int_cmp-IsAntisymmetric _ _ (ties_first (int_cmp (value_number x) (value_number y)) _ a) in
    let m : value_nanos x ≡ value_nanos y = int_cmp-IsAntisymmetric _ _ (ties_first (int_cmp (value_nanos x) (value_nanos y)) _ b) in
    let s : value_bytes x ≡ value_bytes y = slice_cmp-IsAntisymmetric nat_cmp-IsAntisymmetric _ _ (ties_first (name_cmp (value_bytes x) (value_bytes y)) _ c) in
    let k : value_key x ≡ value_key y = key_cmp_exact _ _ (ties_second (name_cmp (value_bytes x) (value_bytes y)) _ c) in
    sym (value_of-parts x) ∙ (λ i. value_of (r i) (n i) (m i) (s i) (k i)) ∙ value_of-parts y
