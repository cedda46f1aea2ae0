-- Each edit that is drawn is a light instruction on a list that is far from the greatest length.
use Rattle.std.proofs.Common.{◌≡◌, ℕ, zero, suc, ◌+◌, ◌/◌, ◌^◌, ◌<◌, ◌≤◌, Bool, true, false, ◌&&◌, not, List, [], ◌∷◌, Option, Some, None, refl, ap, subst, arith, if◌then◌else◌, ◌==◌, eqb-true, length, nat_le, nat_lt}
use Rattle.std.specs.Prelude.{codes, decimal}
use Rattle.std.specs.Option.{option_and_then}
use Rattle.std.specs.Str.{is_utf8}
use Rattle.std.specs.Prelude.{slice_index}
use Rattle.std.proofs.lemmas.Bool.{lt-ltb, ltb-true, le-leb}
use Rattle.std.proofs.lemmas.Fmt.{IsAscii-decimal, length-decimal-le}
use Rattle.std.proofs.lemmas.Nat.{mod_below}
use Rattle.std.proofs.lemmas.Str.{IsUtf8-from_ascii, is_utf8-from_IsUtf8}
use Rattle.sync_data.specs.Payload.{payload}
use Rattle.sync_data.specs.declared.instr.Instr.{Instr}
use Rattle.sync_base.specs.Effects.{effect_of}
use Rattle.sync_base.specs.States.{State, Cell, One, Many, Members, Dict, cell_at}
use Rattle.sync_codec.specs.Reading.{is_name}
use Rattle.sync_codec.specs.Spelling.{instr_fields}
use Rattle.sync_exchange.specs.Profile.{weight}
use Rattle.sync_exchange.specs.Whole.{is_string, are_strings, is_key, is_value, is_cell, is_element, is_gap, has_fields, strings_in, is_whole}
use Rattle.sync_gen.specs.Draws.{Drawing, next, draw, given}
use Rattle.sync_gen.specs.Edits.{table, key_of, cell, integer, text_of, link_to, create_object, erase_object, update, add_integer, list_insert, list_erase, list_update, set_insert, set_erase, number_updated, number_raised, text_updated, element_inserted, element_erased, element_updated, member_inserted, member_erased, link_updated, edit_by, short_length, length_in, edit_at, edit_of}
use Rattle.gen_law.proofs.Meeting.{IsTame}

abbrev pub Fits : Instr → Type 0
Fits i = (weight i ≤ 200) × IsTame 0 (effect_of i)

pub and_true : (a b : Bool) → a ≡ true → b ≡ true → (a && b) ≡ true
and_true true b e f = f
and_true false b e f = cc

pub light : (i : Instr) → is_whole i ≡ true → payload i ≤ 200 → weight i ≤ 200
light i e le = let f = ap (λ b. if b then payload i else 4194305) e in omega (arith, le, f)

-- ---- parts

key_ok : (k : ℕ) → k < 16 → is_key (key_of k) ≡ true
key_ok k lt = lt-ltb _ (2 ^ 64) (omega arith)

integer_ok : (n : ℕ) → n < 1000 → is_value (integer n) ≡ true
integer_ok n lt = lt-ltb _ (2 ^ 64) (omega arith)

short : (n : ℕ) → n < 1000 → length (decimal n) ≤ 3
short n lt = length-decimal-le 3 n (omega arith) (omega arith) (omega arith)

text_ok : (n : ℕ) → n < 1000 → is_value (text_of n) ≡ true
text_ok n lt = and_true (nat_lt (length (decimal n)) (2 ^ 32)) (is_utf8 (decimal n)) (lt-ltb (length (decimal n)) (2 ^ 32) (let h = short n lt in omega arith)) (is_utf8-from_IsUtf8 (decimal n) (IsUtf8-from_ascii (decimal n) (IsAscii-decimal n (omega arith))))

link_ok : (n : ℕ) → n < 16 → is_value (link_to n) ≡ true
link_ok n lt = and_true (is_name table) (is_key (key_of n)) refl (key_ok n lt)

cell_ok : (k : ℕ) (column : List ℕ) → k < 16 → is_name column ≡ true → is_cell (cell k column) ≡ true
cell_ok k column lt name = and_true (is_name table) (is_key (key_of k) && is_name column) refl (and_true (is_key (key_of k)) (is_name column) (key_ok k lt) name)

element_ok : (place prior : ℕ) → place < prior → prior < 2147483648 → is_element (record { place = place; prior = prior }) ≡ true
element_ok place prior lt few = and_true (nat_lt place (2 ^ 32)) (nat_lt prior (2 ^ 32) && nat_lt place prior) (lt-ltb place (2 ^ 32) (omega arith)) (and_true (nat_lt prior (2 ^ 32)) (nat_lt place prior) (lt-ltb prior (2 ^ 32) (omega arith)) (lt-ltb place prior lt))

not_below : (a b : ℕ) → b ≤ a → not (nat_lt a b) ≡ true
not_below a b le = on (nat_lt a b) refl
  where
    on : (t : Bool) → nat_lt a b ≡ t → not t ≡ true
    on true e = let h = ltb-true a b e in absurd (omega arith)
    on false e = refl

gap_ok : (place prior : ℕ) → place ≤ prior → prior < 2147483648 → is_gap (record { place = place; prior = prior }) ≡ true
gap_ok place prior le few = and_true (nat_lt place (2 ^ 32)) (nat_lt prior (2 ^ 32) && not (nat_lt prior place)) (lt-ltb place (2 ^ 32) (omega arith)) (and_true (nat_lt prior (2 ^ 32)) (not (nat_lt prior place)) (lt-ltb prior (2 ^ 32) (omega arith)) (not_below prior place le))

pub whole : (i : Instr) → has_fields i ≡ true → are_strings (strings_in i) ≡ true → is_whole i ≡ true
whole i e f = and_true (has_fields i) (are_strings (strings_in i)) e f

-- ---- the instructions

-- names of one letter
letter : (c : ℕ) → c < 128 → is_string (c ∷ []) ≡ true
letter c lt = and_true (nat_le 1 255) (is_utf8 (c ∷ [])) refl (is_utf8-from_IsUtf8 (c ∷ []) (IsUtf8-from_ascii (c ∷ []) ascii))
  where
    ascii : (i : ℕ) → slice_index (c ∷ []) i < 128
    ascii zero = lt
    ascii (suc i) = omega arith

pub one_name : are_strings (table ∷ []) ≡ true
one_name = and_true (is_string table) true (letter 116 (omega arith)) refl

pub two_names : (c : ℕ) → c < 128 → are_strings (table ∷ (c ∷ []) ∷ []) ≡ true
two_names c lt = and_true (is_string table) (are_strings ((c ∷ []) ∷ [])) (letter 116 (omega arith)) (and_true (is_string (c ∷ [])) true (letter c lt) refl)

pub three_names : (c : ℕ) → c < 128 → are_strings (table ∷ (c ∷ []) ∷ table ∷ []) ≡ true
three_names c lt = and_true (is_string table) (are_strings ((c ∷ []) ∷ table ∷ [])) (letter 116 (omega arith)) (and_true (is_string (c ∷ [])) (are_strings (table ∷ [])) (letter c lt) one_name)

create_strings : (k : ℕ) → are_strings (strings_in (create_object k)) ≡ true
unfolding instr_fields
create_strings k = one_name

erase_strings : (k : ℕ) → are_strings (strings_in (erase_object k)) ≡ true
unfolding instr_fields
erase_strings k = one_name

update_n : (k n : ℕ) → are_strings (strings_in (update k (codes "n") (integer n))) ≡ true
unfolding instr_fields
update_n k n = two_names 110 (omega arith)

update_s : (k n : ℕ) → are_strings (strings_in (update k (codes "s") (text_of n))) ≡ true
unfolding instr_fields
update_s k n = two_names 115 (omega arith)

update_k : (k n : ℕ) → are_strings (strings_in (update k (codes "k") (link_to n))) ≡ true
unfolding instr_fields
update_k k n = three_names 107 (omega arith)

add_strings : (k n : ℕ) → are_strings (strings_in (add_integer k n)) ≡ true
unfolding instr_fields
add_strings k n = two_names 110 (omega arith)

insert_strings : (k l place n : ℕ) → are_strings (strings_in (list_insert k l place n)) ≡ true
unfolding instr_fields
insert_strings k l place n = two_names 108 (omega arith)

remove_strings : (k l place : ℕ) → are_strings (strings_in (list_erase k l place)) ≡ true
unfolding instr_fields
remove_strings k l place = two_names 108 (omega arith)

replace_strings : (k l place n : ℕ) → are_strings (strings_in (list_update k l place n)) ≡ true
unfolding instr_fields
replace_strings k l place n = two_names 108 (omega arith)

include_strings : (k n : ℕ) → are_strings (strings_in (set_insert k n)) ≡ true
unfolding instr_fields
include_strings k n = two_names 117 (omega arith)

exclude_strings : (k n : ℕ) → are_strings (strings_in (set_erase k n)) ≡ true
unfolding instr_fields
exclude_strings k n = two_names 117 (omega arith)

creates : (k : ℕ) → k < 16 → Fits (create_object k)
creates k lt = (light (create_object k) (whole (create_object k) (and_true (is_name table) (is_key (key_of k)) refl (key_ok k lt)) (create_strings k)) (omega arith), tt)

erases : (k : ℕ) → k < 16 → Fits (erase_object k)
erases k lt = (light (erase_object k) (whole (erase_object k) (and_true (is_name table) (is_key (key_of k)) refl (key_ok k lt)) (erase_strings k)) (omega arith), tt)

numbers : (k n : ℕ) → k < 16 → n < 1000 → Fits (update k (codes "n") (integer n))
numbers k n lt few = (light (update k (codes "n") (integer n)) (whole (update k (codes "n") (integer n)) (and_true (is_cell (cell k (codes "n"))) (is_value (integer n)) (cell_ok k (codes "n") lt refl) (integer_ok n few)) (update_n k n)) (omega arith), tt)

raises : (k n : ℕ) → k < 16 → n < 1000 → Fits (add_integer k n)
raises k n lt few = (light (add_integer k n) (whole (add_integer k n) (and_true (is_cell (cell k (codes "n"))) _ (cell_ok k (codes "n") lt refl) (integer_ok n few)) (add_strings k n)) (omega arith), tt)

texts : (k n : ℕ) → k < 16 → n < 1000 → Fits (update k (codes "s") (text_of n))
texts k n lt few = (light (update k (codes "s") (text_of n)) (whole (update k (codes "s") (text_of n)) (and_true (is_cell (cell k (codes "s"))) (is_value (text_of n)) (cell_ok k (codes "s") lt refl) (text_ok n few)) (update_s k n)) (let h = short n few in omega arith), tt)

links : (k n : ℕ) → k < 16 → n < 16 → Fits (update k (codes "k") (link_to n))
links k n lt few = (light (update k (codes "k") (link_to n)) (whole (update k (codes "k") (link_to n)) (and_true (is_cell (cell k (codes "k"))) (is_value (link_to n)) (cell_ok k (codes "k") lt refl) (link_ok n few)) (update_k k n)) (omega arith), tt)

inserts : (k l place n : ℕ) → k < 16 → l < 2147483648 → place ≤ l → n < 1000 → Fits (list_insert k l place n)
inserts k l place n lt short_ le few = (light (list_insert k l place n) (whole (list_insert k l place n) (and_true (is_cell (cell k (codes "l"))) _ (cell_ok k (codes "l") lt refl) (and_true (is_gap (record { place = place; prior = l })) (is_value (text_of n)) (gap_ok place l le short_) (text_ok n few))) (insert_strings k l place n)) (let h = short n few in omega arith), omega arith)

removes : (k l place : ℕ) → k < 16 → l < 2147483648 → place < l → Fits (list_erase k l place)
removes k l place lt short_ le = (light (list_erase k l place) (whole (list_erase k l place) (and_true (is_cell (cell k (codes "l"))) _ (cell_ok k (codes "l") lt refl) (element_ok place l le short_)) (remove_strings k l place)) (omega arith), omega arith)

replaces : (k l place n : ℕ) → k < 16 → l < 2147483648 → place < l → n < 1000 → Fits (list_update k l place n)
replaces k l place n lt short_ le few = (light (list_update k l place n) (whole (list_update k l place n) (and_true (is_cell (cell k (codes "l"))) _ (cell_ok k (codes "l") lt refl) (and_true (is_element (record { place = place; prior = l })) (is_value (text_of n)) (element_ok place l le short_) (text_ok n few))) (replace_strings k l place n)) (let h = short n few in omega arith), omega arith)

includes : (k n : ℕ) → k < 16 → n < 20 → Fits (set_insert k n)
includes k n lt few = (light (set_insert k n) (whole (set_insert k n) (and_true (is_cell (cell k (codes "u"))) (is_value (integer n)) (cell_ok k (codes "u") lt refl) (integer_ok n (omega arith))) (include_strings k n)) (omega arith), tt)

excludes : (k n : ℕ) → k < 16 → n < 20 → Fits (set_erase k n)
excludes k n lt few = (light (set_erase k n) (whole (set_erase k n) (and_true (is_cell (cell k (codes "u"))) (is_value (integer n)) (cell_ok k (codes "u") lt refl) (integer_ok n (omega arith))) (exclude_strings k n)) (omega arith), tt)

-- ---- what is drawn

pub below : (k x : ℕ) → 0 < k → (draw k x).0 < k
unfolding draw
below k x some = mod_below (next x / 2 ^ 33) k some

either : (P : Instr → Type 0) (b : Bool) (d e : Drawing Instr) (x : ℕ) → (b ≡ true → P (d x).0) → (b ≡ false → P (e x).0) → P ((if b then d else e) x).0
either P true d e x f g = f refl
either P false d e x f g = g refl

split : (a b : Bool) → (a && b) ≡ false → a ≡ true → b ≡ false
split true b e f = e
split false b e f = cc

right : (a b : Bool) → (a && b) ≡ true → b ≡ true
right true b e = e
right false b e = cc

some_length : (length : ℕ) → (length == 0) ≡ false → 0 < length
some_length zero e = cc
some_length (suc n) e = omega arith

-- what holds of each edit that may be drawn for an object with a list of this length
pub record OfEach (P : Instr → Type 0) (k l : ℕ) : Type 0 where
  pub numbers : (n : ℕ) → n < 1000 → P (update k (codes "n") (integer n))
  pub raises : (n : ℕ) → n < 1000 → P (add_integer k n)
  pub texts : (n : ℕ) → n < 1000 → P (update k (codes "s") (text_of n))
  pub inserts : (place n : ℕ) → place ≤ l → n < 1000 → P (list_insert k l place n)
  pub removes : (place : ℕ) → place < l → P (list_erase k l place)
  pub replaces : (place n : ℕ) → place < l → n < 1000 → P (list_update k l place n)
  pub includes : (n : ℕ) → n < 20 → P (set_insert k n)
  pub excludes : (n : ℕ) → n < 20 → P (set_erase k n)
  pub erases : P (erase_object k)
  pub links : (n : ℕ) → n < 16 → P (update k (codes "k") (link_to n))

-- holds of the one that is drawn
pub by_choice : (P : Instr → Type 0) (k l : ℕ) → OfEach P k l → (o x : ℕ) → P (edit_by k l o x).0
by_choice P k l each o x =
    either P (o == 0) (number_updated k) _ x (λ e. each.numbers (draw 1000 x).0 (below 1000 x (omega arith))) (λ e0.
    either P (o == 1) (number_raised k) _ x (λ e. each.raises (draw 1000 x).0 (below 1000 x (omega arith))) (λ e1.
    either P (o == 2) (text_updated k) _ x (λ e. each.texts (draw 1000 x).0 (below 1000 x (omega arith))) (λ e2.
    either P (nat_le o 4) (element_inserted k l) _ x (λ e. each.inserts (draw (l + 1) x).0 (draw 1000 (draw (l + 1) x).1).0 (let h = below (l + 1) x (omega arith) in omega arith) (below 1000 (draw (l + 1) x).1 (omega arith))) (λ e3.
    either P (nat_le o 6 && l == 0) (given (list_insert k 0 0 0)) _ x (λ e. subst (λ n. P (list_insert k n 0 0)) (eqb-true l 0 (right (nat_le o 6) (l == 0) e)) (each.inserts 0 0 (omega arith) (omega arith))) (λ e4.
    either P (o == 5) (element_erased k l) _ x (λ e. each.removes (draw l x).0 (below l x (not_empty 5 e e4 (omega arith)))) (λ e5.
    either P (o == 6) (element_updated k l) _ x (λ e. each.replaces (draw l x).0 (draw 1000 (draw l x).1).0 (below l x (not_empty 6 e e4 (omega arith))) (below 1000 (draw l x).1 (omega arith))) (λ e6.
    either P (o == 7) (member_inserted k) _ x (λ e. each.includes (draw 20 x).0 (below 20 x (omega arith))) (λ e7.
    either P (o == 8) (member_erased k) _ x (λ e. each.excludes (draw 20 x).0 (below 20 x (omega arith))) (λ e8.
    either P ((draw 4 x).0 == 0) (given (erase_object k)) (link_updated k) (draw 4 x).1 (λ e. each.erases) (λ e. each.links (draw 16 (draw 4 x).1).0 (below 16 (draw 4 x).1 (omega arith))))))))))))
  where
    not_empty : (n : ℕ) → (o == n) ≡ true → (nat_le o 6 && l == 0) ≡ false → n ≤ 6 → 0 < l
    not_empty n e f le = some_length l (split (nat_le o 6) (l == 0) f (le-leb o 6 (let h = eqb-true o n e in omega arith)))

fits_each : (k l : ℕ) → k < 16 → l < 2147483648 → OfEach Fits k l
fits_each k l lt few = record {
  numbers = λ n. numbers k n lt;
  raises = λ n. raises k n lt;
  texts = λ n. texts k n lt;
  inserts = λ place n le. inserts k l place n lt few le;
  removes = λ place. removes k l place lt few;
  replaces = λ place n le. replaces k l place n lt few le;
  includes = λ n. includes k n lt;
  excludes = λ n. excludes k n lt;
  erases = erases k lt;
  links = λ n. links k n lt;
}

short_list : (c : Cell) (n : ℕ) → short_length c ≡ Some n → n < 2147483648
short_list (One v) n e = cc
short_list (Members v) n e = cc
short_list (Dict m) n e = cc
short_list (Many items) n e = on (nat_lt (length items) (2 ^ 31)) refl e
  where
    on : (b : Bool) → nat_lt (length items) (2 ^ 31) ≡ b → (if b then Some (length items) else None) ≡ Some n → n < 2147483648
    on true t e = let h = ltb-true (length items) (2 ^ 31) t in let same : length items ≡ n = cc in omega arith
    on false t e = cc

short_there : (o : Option Cell) (n : ℕ) → option_and_then short_length o ≡ Some n → n < 2147483648
short_there None n e = cc
short_there (Some c) n e = short_list c n e

-- the edit of a client's turn
pub drawn_edit : (s : State) (x : ℕ) → Fits (edit_of s x).0
drawn_edit s x = on (length_in s (draw 16 x).0) refl
  where
    key : (draw 16 x).0 < 16
    key = below 16 x (omega arith)

    on : (o : Option ℕ) → length_in s (draw 16 x).0 ≡ o → Fits (edit_at (draw 16 x).0 o (draw 16 x).1).0
    on None o_is = creates (draw 16 x).0 key
    on (Some l) o_is = by_choice Fits (draw 16 x).0 l (fits_each (draw 16 x).0 l key (short_there (cell_at s (table, key_of (draw 16 x).0) (codes "l")) l o_is)) (draw 10 (draw 16 x).1).0 (draw 10 (draw 16 x).1).1
