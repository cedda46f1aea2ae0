-- Files that are read piece by piece.
use Rattle.std.proofs.Common.{◌≡◌, ◌⊎◌, inl, inr, ⊎_elim, ℕ, zero, suc, List, [], ◌∷◌, ◌++◌, Some, refl, sym, ap, ap₂, ◌∙◌, subst, append_assoc, append-nil, map, take}
use Rattle.sync_theory.proofs.World.{put_same}
use Rattle.lives_law.specs.Lives.{Written, Files, Open, Among, here, there, grown_by, written}
use Rattle.lives_law.specs.Roaming.{written_all}
use Rattle.lives_law.specs.Stored.{open_by, SameBy}
use Rattle.lives_law.proofs.Notes.{same_one, same_none}
use Rattle.lives_files.specs.Files.{in_life, read_all}

pub take_map : {A B : Type 0} (h : A → B) (i : ℕ) (xs : List A) → take i (map h xs) ≡ map h (take i xs)
take_map h zero xs = refl
take_map h (suc i) [] = refl
take_map h (suc i) (x ∷ xs) = ap (λ l. h x ∷ l) (take_map h i xs)

-- a file that is there then was there, or is the open one with a beginning of what was written
pub all_written : {R : Type 0} (rs : List R) (w : Files R) (n : ℕ) (o : Open R) (f : List (Written R)) → Among f (written_all w n o rs).kept → Among f w.kept ⊎ ((j : ℕ) × (f ≡ o.file ++ map (in_life o.life) (take j rs)))
all_written [] w n o f a = inl a
all_written {R} (x ∷ rs) w n o f a = ⊎_elim (λ b. one b) (λ h. inr (suc h.0, h.1 ∙ append_assoc o.file (in_life o.life x ∷ []) (map (in_life o.life) (take h.0 rs)))) (all_written rs (written w n o x) n (record o { file = grown_by o x }) f a)
  where
    one : {g : List (Written R)} → Among g (grown_by o x ∷ w.kept) → Among g w.kept ⊎ ((j : ℕ) × (g ≡ o.file ++ map (in_life o.life) (take j (x ∷ rs))))
    one here = inr (1, refl)
    one (there b) = inl b

module _ {P Q : Type 0} (read : P → List Q) where
  -- what pieces are read as
  abbrev pub flat : List P → List Q
  flat [] = []
  flat (x ∷ ps) = read x ++ flat ps

  -- each as one, or as none
  abbrev pub Few : Type 0
  Few = (w : P) → (read w ≡ []) ⊎ ((y : Q) × (read w ≡ y ∷ []))

  read_both : (f g : List (Written P)) → read_all read (f ++ g) ≡ read_all read f ++ read_all read g
  read_both [] g = refl
  read_both (x ∷ f) g = ap (λ l. map (in_life x.life) (read x.what) ++ l) (read_both f g) ∙ sym (append_assoc (map (in_life x.life) (read x.what)) (read_all read f) (read_all read g))

  abbrev pub read_open : Open P → Open Q
  read_open o = record { file = read_all read o.file; life = o.life }

  abbrev pub SameRead : List P → ℕ → Type 0
  SameRead ps n = (w : Files P) (v : Files Q) (o : Open P) (q : Open Q) → SameBy (read_all read) w v → q ≡ read_open o → w.nodes n ≡ Some o → Among o.file w.kept → SameBy (read_all read) (written_all w n o ps) (written_all v n q (flat ps))

  grown_read : (o : Open P) (x : P) (ys : List Q) → read x ≡ ys → read_all read (grown_by o x) ≡ read_all read o.file ++ map (in_life o.life) ys
  grown_read o x ys e = read_both o.file (in_life o.life x ∷ []) ∙ ap (λ l. read_all read o.file ++ l) (append-nil (map (in_life o.life) (read x)) ∙ ap (map (in_life o.life)) e)

  same_more : Few → (x : P) (ps : List P) (n : ℕ) → SameRead ps n → SameRead (x ∷ ps) n
  same_more few x ps n rest w v o q s e is a = ⊎_elim (λ h. none h) (λ h. one h.0 h.1) (few x)
    where
      none : read x ≡ [] → SameBy (read_all read) (written_all w n o (x ∷ ps)) (written_all v n q (read x ++ flat ps))
      none h =
          let same : read_all read (grown_by o x) ≡ read_all read o.file = grown_read o x [] h ∙ append-nil (read_all read o.file) in
          let there_is : v.nodes n ≡ Some (read_open o) = s.nodes n ∙ ap (open_by (read_all read)) is in
          subst (λ ys. SameBy (read_all read) (written_all w n o (x ∷ ps)) (written_all v n q (ys ++ flat ps))) (sym h)
          (rest (written w n o x) v (record o { file = grown_by o x }) q (same_none (read_all read) w v n o x s (s.kept o.file a) there_is same) (e ∙ ap (λ z. record { file = z; life = o.life }) (sym same)) (put_same n (Some (record o { file = grown_by o x })) w.nodes) here)

      one : (y : Q) → read x ≡ y ∷ [] → SameBy (read_all read) (written_all w n o (x ∷ ps)) (written_all v n q (read x ++ flat ps))
      one y h =
          let file : q.file ≡ read_all read o.file = ap (λ (z : Open Q). z.file) e in
          let life : q.life ≡ o.life = ap (λ (z : Open Q). z.life) e in
          let grown : grown_by q y ≡ read_all read (grown_by o x) = ap₂ (λ z k. z ++ record { life = k; what = y } ∷ []) file life ∙ sym (grown_read o x (y ∷ []) h) in
          let after : record q { file = grown_by q y } ≡ record { file = read_all read (grown_by o x); life = o.life } = ap₂ (λ z k. record { file = z; life = k }) grown life in
          subst (λ ys. SameBy (read_all read) (written_all w n o (x ∷ ps)) (written_all v n q (ys ++ flat ps))) (sym h)
          (rest (written w n o x) (written v n q y) (record o { file = grown_by o x }) (record q { file = grown_by q y }) (same_one (read_all read) w v n o x q y s grown life) after (put_same n (Some (record o { file = grown_by o x })) w.nodes) here)

  -- what is written is read as what is written there
  pub same_read : Few → (ps : List P) (n : ℕ) → SameRead ps n
  same_read few [] n = λ w v o q s e is a. s
  same_read few (x ∷ ps) n = same_more few x ps n (same_read few ps n)
