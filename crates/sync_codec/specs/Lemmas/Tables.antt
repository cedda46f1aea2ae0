-- The strings at the front: each once, and each stands where its number says.
use Rattle.std.proofs.Common.{◌≡◌, ℕ, zero, suc, ◌^◌, ◌<◌, ◌≤◌, true, false, cond, ltb, List, [], ◌∷◌, ◌++◌, length, Ok, refl, sym, ap, subst, ◌∙◌, append_assoc, arith}
use Rattle.std.specs.List.{flat_map, AllByRecursion}
use Rattle.std.specs.Str.{is_utf8}
use Rattle.std.proofs.lemmas.Bool.{ltb-false, le-ltb}
use Rattle.std.proofs.lemmas.List.{append-nil}
use Rattle.sync_intern.specs.FirstUses.{has_string}
use Rattle.sync_io.specs.Varints.{varint, varint32_at}
use Rattle.sync_io.specs.VarintLaws.{IsBytes, varint32_takes, varint32_again}
use Rattle.sync_codec.specs.declared.refusal.Rule.TheVariants as rules
use Rattle.sync_codec.specs.Fields.{◌>>=◌, breaks, run_in, numbered, number32_in}
use Rattle.sync_codec.specs.Spelling.{string_bytes, table_bytes}
use Rattle.sync_codec.specs.Decoding.{string_len_in, as_text, string_in, repeated, strings_in, table_in}
use Rattle.sync_codec.specs.Valid.{IsString}
use Rattle.sync_codec.specs.Lemmas.Runs.{bind_ok, done, ok_is, passed, not_passed, bytes_behind}
use Rattle.sync_codec.specs.Lemmas.Fields.{numbered_ok, run_ok, run_again}

-- none of them is known, and none stands twice
abbrev pub Fresh : List (List ℕ) → List (List ℕ) → Type 0
Fresh known [] = Unit {0}
Fresh known (s ∷ more) = (has_string known s ≡ false) × Fresh (known ++ s ∷ []) more

abbrev Table : Type 0
Table = List (List ℕ) × List ℕ

-- ---- one string
pub record TookOne (known : List (List ℕ)) (bytes : List ℕ) (x : Table) : Type 0 where
  pub text : List ℕ
  pub added : x.0 ≡ known ++ text ∷ []
  pub parts : bytes ≡ string_bytes text ++ x.1
  pub new : has_string known text ≡ false
  pub valid : IsString text
  pub rest_bytes : IsBytes x.1

string_takes : (known : List (List ℕ)) (bytes : List ℕ) (x : Table) → IsBytes bytes → string_in known bytes ≡ Ok x → TookOne known bytes x
unfolding string_in string_len_in
string_takes known bytes x h e =
    let l = bind_ok (string_len_in bytes) (λ (len : ℕ × List ℕ). run_in len.0 len.1 >>= λ run. as_text run.0 len.1 >>= λ text. cond (has_string known text) (breaks len.1 rules.StringRepeat) (Ok (known ++ text ∷ [], run.1))) x e in
    let r = bind_ok (run_in l.0.0 l.0.1) (λ (run : List ℕ × List ℕ). as_text run.0 l.0.1 >>= λ text. cond (has_string known text) (breaks l.0.1 rules.StringRepeat) (Ok (known ++ text ∷ [], run.1))) x l.2 in
    let t = bind_ok (as_text r.0.0 l.0.1) (λ (text : List ℕ). cond (has_string known text) (breaks l.0.1 rules.StringRepeat) (Ok (known ++ text ∷ [], r.0.1))) x r.2 in
    let g = not_passed (has_string known t.0) (Ok (known ++ t.0 ∷ [], r.0.1)) (record { left = length l.0.1; rule = rules.StringRepeat }) x t.2 in
    let n = bind_ok (number32_in bytes) (λ (len : ℕ × List ℕ). cond (ltb 255 len.0) (breaks bytes rules.BadText) (Ok len)) l.0 l.1 in
    let s = not_passed (ltb 255 n.0.0) (Ok n.0) (record { left = length bytes; rule = rules.BadText }) l.0 n.2 in
    let len_is : n.0 ≡ l.0 = ok_is n.0 l.0 s.1 in
    let v = varint32_takes bytes n.0 h (numbered_ok bytes (varint32_at bytes) n.0 n.1) in
    let u = passed (is_utf8 r.0.0) (Ok r.0.0) (record { left = length l.0.1; rule = rules.BadText }) t.0 t.1 in
    let text_is : r.0.0 ≡ t.0 = ok_is r.0.0 t.0 u.1 in
    let ro = run_ok l.0.0 l.0.1 r.0 r.1 in
    let made : Table = (known ++ t.0 ∷ [], r.0.1) in
    let out : made ≡ x = ok_is made x g.1 in
    let rest_is : r.0.1 ≡ x.1 = ap (λ (y : Table). y.1) out in
    let head : bytes ≡ varint (length t.0) ++ l.0.1 = v.0.parts ∙ ap (λ (y : ℕ × List ℕ). varint y.0 ++ y.1) len_is ∙ ap (λ (k : ℕ). varint k ++ l.0.1) (sym ro.1 ∙ ap length text_is) in
    let tail : l.0.1 ≡ t.0 ++ x.1 = ro.0 ∙ ap (λ (bs : List ℕ). bs ++ r.0.1) text_is ∙ ap (λ (bs : List ℕ). t.0 ++ bs) rest_is in
    let after : IsBytes l.0.1 = subst (λ (y : ℕ × List ℕ). IsBytes y.1) len_is v.0.rest_fits in
    let short : l.0.0 ≤ 255 = subst (λ (y : ℕ × List ℕ). y.0 ≤ 255) len_is (ltb-false _ _ s.0) in
    record {
      text = t.0;
      added = sym (ap (λ (y : Table). y.0) out);
      parts = head ∙ ap (λ (bs : List ℕ). varint (length t.0) ++ bs) tail ∙ sym (append_assoc (varint (length t.0)) t.0 x.1);
      new = g.0;
      valid = (subst (λ (k : ℕ). k ≤ 255) (sym ro.1 ∙ ap length text_is) short, subst (λ (bs : List ℕ). is_utf8 bs ≡ true) text_is u.0);
      rest_bytes = bytes_behind t.0 x.1 (subst (λ (bs : List ℕ). IsBytes bs) tail after);
    }

string_again : (known : List (List ℕ)) (s rest : List ℕ) → IsString s → has_string known s ≡ false → string_in known (string_bytes s ++ rest) ≡ Ok (known ++ s ∷ [], rest)
unfolding string_in string_len_in
string_again known s rest ok new =
    let parts : string_bytes s ++ rest ≡ varint (length s) ++ (s ++ rest) = append_assoc (varint (length s)) s rest in
    let n : number32_in (varint (length s) ++ (s ++ rest)) ≡ Ok (length s, s ++ rest) = ap (numbered (varint (length s) ++ (s ++ rest))) (varint32_again (length s) (s ++ rest) (omega (arith, ok.0))) in
    let le : ltb 255 (length s) ≡ false = le-ltb _ _ ok.0 in
    ap (string_in known) parts ∙ rw (n, le, run_again s rest, ok.1, new) refl

-- ---- several
pub record TookMany (n : ℕ) (known : List (List ℕ)) (bytes : List ℕ) (x : Table) : Type 0 where
  pub more : List (List ℕ)
  pub added : x.0 ≡ known ++ more
  pub count : length more ≡ n
  pub parts : bytes ≡ flat_map string_bytes more ++ x.1
  pub fresh : Fresh known more
  pub valid : AllByRecursion IsString more
  pub rest_bytes : IsBytes x.1

strings_take : (n : ℕ) (known : List (List ℕ)) (bytes : List ℕ) (x : Table) → IsBytes bytes → strings_in n known bytes ≡ Ok x → TookMany n known bytes x
unfolding repeated
strings_take zero known bytes x h e =
    let start : Table = (known, bytes) in
    let is : start ≡ x = ok_is start x e in
    record { more = []; added = sym (ap (λ (y : Table). y.0) is) ∙ sym (append-nil known); count = refl; parts = ap (λ (y : Table). y.1) is; fresh = tt; valid = tt; rest_bytes = subst (λ (y : Table). IsBytes y.1) is h }
strings_take (suc n) known bytes x h e =
    let s = bind_ok (string_in known bytes) (λ (y : Table). strings_in n y.0 y.1) x e in
    let a = string_takes known bytes s.0 h s.1 in
    let rest = strings_take n s.0.0 s.0.1 x a.rest_bytes s.2 in
    let known2 : s.0.0 ≡ known ++ a.text ∷ [] = a.added in
    record {
      more = a.text ∷ rest.more;
      added = rest.added ∙ ap (λ (k : List (List ℕ)). k ++ rest.more) known2 ∙ append_assoc known (a.text ∷ []) rest.more;
      count = ap suc rest.count;
      parts = a.parts ∙ ap (λ (bs : List ℕ). string_bytes a.text ++ bs) rest.parts ∙ sym (append_assoc (string_bytes a.text) (flat_map string_bytes rest.more) x.1);
      fresh = (a.new, subst (λ (k : List (List ℕ)). Fresh k rest.more) known2 rest.fresh);
      valid = (a.valid, rest.valid);
      rest_bytes = rest.rest_bytes;
    }

strings_again : (more known : List (List ℕ)) (rest : List ℕ) → Fresh known more → AllByRecursion IsString more → strings_in (length more) known (flat_map string_bytes more ++ rest) ≡ Ok (known ++ more, rest)
unfolding repeated
strings_again [] known rest f v = ap (λ (k : List (List ℕ)). done (k, rest)) (sym (append-nil known))
strings_again (s ∷ more) known rest f v =
    let parts : flat_map string_bytes (s ∷ more) ++ rest ≡ string_bytes s ++ (flat_map string_bytes more ++ rest) = append_assoc (string_bytes s) (flat_map string_bytes more) rest in
    ap (strings_in (suc (length more)) known) parts ∙ rw (string_again known s (flat_map string_bytes more ++ rest) v.0 f.0) (strings_again more (known ++ s ∷ []) rest f.1 v.1 ∙ ap (λ (k : List (List ℕ)). done (k, rest)) (append_assoc known (s ∷ []) more))

pub record TookTable (bytes : List ℕ) (x : Table) : Type 0 where
  pub parts : bytes ≡ table_bytes x.0 ++ x.1
  pub fresh : Fresh [] x.0
  pub valid : AllByRecursion IsString x.0
  pub few : length x.0 < 2 ^ 32
  pub rest_bytes : IsBytes x.1

pub table_takes : (bytes : List ℕ) (x : Table) → IsBytes bytes → table_in bytes ≡ Ok x → TookTable bytes x
unfolding table_in
table_takes bytes x h e =
    let n = bind_ok (number32_in bytes) (λ (n : ℕ × List ℕ). strings_in n.0 [] n.1) x e in
    let v = varint32_takes bytes n.0 h (numbered_ok bytes (varint32_at bytes) n.0 n.1) in
    let t = strings_take n.0.0 [] n.0.1 x v.0.rest_fits n.2 in
    let count : n.0.0 ≡ length x.0 = sym t.count ∙ ap length (sym t.added) in
    let body : n.0.1 ≡ flat_map string_bytes x.0 ++ x.1 = t.parts ∙ ap (λ (ss : List (List ℕ)). flat_map string_bytes ss ++ x.1) (sym t.added) in
    record {
      parts = v.0.parts ∙ ap (λ (k : ℕ). varint k ++ n.0.1) count ∙ ap (λ (bs : List ℕ). varint (length x.0) ++ bs) body ∙ sym (append_assoc (varint (length x.0)) (flat_map string_bytes x.0) x.1);
      fresh = subst (λ (ss : List (List ℕ)). Fresh [] ss) (sym t.added) t.fresh;
      valid = subst (λ (ss : List (List ℕ)). AllByRecursion IsString ss) (sym t.added) t.valid;
      few = subst (λ (k : ℕ). k < 2 ^ 32) count v.1;
      rest_bytes = t.rest_bytes;
    }

pub table_again : (strings : List (List ℕ)) (rest : List ℕ) → Fresh [] strings → AllByRecursion IsString strings → length strings < 2 ^ 32 → table_in (table_bytes strings ++ rest) ≡ Ok (strings, rest)
unfolding table_in
table_again strings rest fresh valid few =
    let parts : table_bytes strings ++ rest ≡ varint (length strings) ++ (flat_map string_bytes strings ++ rest) = append_assoc (varint (length strings)) (flat_map string_bytes strings) rest in
    let n : number32_in (varint (length strings) ++ (flat_map string_bytes strings ++ rest)) ≡ Ok (length strings, flat_map string_bytes strings ++ rest) = ap (numbered (varint (length strings) ++ (flat_map string_bytes strings ++ rest))) (varint32_again (length strings) (flat_map string_bytes strings ++ rest) few) in
    ap table_in parts ∙ rw n (strings_again strings [] rest fresh valid)
