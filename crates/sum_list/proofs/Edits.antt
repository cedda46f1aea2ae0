-- What is read of a list in one of its blocks, and an edit there.
use Rattle.std.proofs.Common.{◌≡◌, ℕ, ◌+◌, ◌<◌, ◌≤◌, List, [], ◌∷◌, ◌++◌, length, set, take, drop, slice_get, Some, sym, ap, ◌∙◌, append-nil, arith}
use Rattle.std.specs.Prelude.{insert, remove}
use Rattle.std.proofs.Math.Seq.{drop-append-add, drop-append_seam}
use Rattle.std.proofs.lemmas.List.{length-drop, drop-append-le}
use Rattle.std.proofs.lemmas.Option.{slice_get_within}
use Rattle.sum_list.specs.Blocks.{joined}
use Rattle.sum_list.proofs.Parts.{insert_within, remove_within, set_within, get_within}
use Rattle.sum_list.proofs.Joined.{cut_at, joined_set, joined_insert, joined_remove}

-- the place lies at w in the block b, the i-th
module _ {X : Type 0} (bs : List (List X)) (i : ℕ) (b : List X) (place w : ℕ) (is : slice_get bs i ≡ Some b) (at : place ≡ length (joined (take i bs)) + w) where
  pub got : (x : X) → slice_get b w ≡ Some x → slice_get (joined bs) place ≡ Some x
  got x here = (λ k. slice_get (cut_at bs i b is k) (at k)) ∙ get_within (joined (take i bs)) b (joined (drop (i + 1) bs)) w x here

  -- what the block has from the place on, and then what lies behind the block
  pub run : w ≤ length b → drop place (joined bs) ≡ drop w b ++ drop (place + length (drop w b)) (joined bs)
  run low =
      let xs = joined (take i bs) in let ys = joined (drop (i + 1) bs) in
      let end : place + length (drop w b) ≡ length xs + length b = omega (arith, at, length-drop w b) in
      (λ k. drop (at k) (cut_at bs i b is k)) ∙ drop-append-add xs (b ++ ys) w ∙ drop-append-le w b ys low
      ∙ ap (λ l. drop w b ++ l) (sym ((λ k. drop (end k) (cut_at bs i b is k)) ∙ drop-append-add xs (b ++ ys) (length b) ∙ drop-append_seam b ys))

  pub inserted : (c : List X) (x : X) → w ≤ length b → c ++ [] ≡ insert b w x → joined (set bs i c) ≡ insert (joined bs) place x
  inserted c x low e =
      let xs = joined (take i bs) in let ys = joined (drop (i + 1) bs) in
      joined_set bs i c (slice_get_within bs i b is) ∙ ap (λ l. xs ++ (l ++ ys)) (sym (append-nil c) ∙ e)
      ∙ sym ((λ k. insert (cut_at bs i b is k) (at k) x) ∙ insert_within xs b ys w x low)

  pub inserted_split : (c u : List X) (x : X) → w ≤ length b → c ++ u ≡ insert b w x → joined (insert (set bs i c) (i + 1) u) ≡ insert (joined bs) place x
  inserted_split c u x low e =
      let xs = joined (take i bs) in let ys = joined (drop (i + 1) bs) in
      joined_insert bs i c u (slice_get_within bs i b is) ∙ ap (λ l. xs ++ (l ++ ys)) e
      ∙ sym ((λ k. insert (cut_at bs i b is k) (at k) x) ∙ insert_within xs b ys w x low)

  pub removed : (c : List X) → w < length b → c ≡ remove b w → joined (set bs i c) ≡ remove (joined bs) place
  removed c low e =
      let xs = joined (take i bs) in let ys = joined (drop (i + 1) bs) in
      joined_set bs i c (slice_get_within bs i b is) ∙ ap (λ l. xs ++ (l ++ ys)) e
      ∙ sym ((λ k. remove (cut_at bs i b is k) (at k)) ∙ remove_within xs b ys w low)

  pub removed_whole : (x : X) → w < length b → b ≡ x ∷ [] → joined (remove bs i) ≡ remove (joined bs) place
  removed_whole x low e =
      let xs = joined (take i bs) in let ys = joined (drop (i + 1) bs) in
      let long = ap length e in let first : w ≡ 0 = omega arith in
      joined_remove bs i ∙ ap (λ l. xs ++ (l ++ ys)) (sym ((λ k. remove (e k) (first k))))
      ∙ sym ((λ k. remove (cut_at bs i b is k) (at k)) ∙ remove_within xs b ys w low)

  pub got_only : (x : X) → w < length b → b ≡ x ∷ [] → slice_get b w ≡ Some x
  got_only x low e = let long = ap length e in let first : w ≡ 0 = omega arith in (λ k. slice_get (e k) (first k))

  pub replaced : (c : List X) (x : X) → w < length b → c ≡ set b w x → joined (set bs i c) ≡ set (joined bs) place x
  replaced c x low e =
      let xs = joined (take i bs) in let ys = joined (drop (i + 1) bs) in
      joined_set bs i c (slice_get_within bs i b is) ∙ ap (λ l. xs ++ (l ++ ys)) e
      ∙ sym ((λ k. set (cut_at bs i b is k) (at k) x) ∙ set_within xs b ys w x low)
