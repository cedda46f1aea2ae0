-- Clients' files with their labels are files of heirs.
use Rattle.std.proofs.Common.{◌≡◌, ℕ, zero, suc, ◌+◌, ◌-◌, Bool, true, false, List, [], ◌∷◌, ◌++◌, Option, Some, None, refl, sym, ap, ap₂, ◌∙◌, subst, arith, map, take, drop, if◌then◌else◌, ◌==◌}
use Rattle.std.specs.Prelude.{nat_lt}
use Rattle.sync_theory.proofs.World.{put_same}
use Rattle.sync_model.specs.Bytes.{Uuid}
use Rattle.sync_model.specs.Profile.{Profile}
use Rattle.sync_model.specs.Each.{Each, no_more, and_each}
use Rattle.sync_model.specs.Messages.{Sent, Download}
use Rattle.sync_model.specs.Clients.{Client as ClientState, ClientRecord, ClientRefusal, Born, Named, Made, Took, Form, Subset, Part, Floor, Resumed, Waits, Gap, NotMine, refuse, if_born, take_one, took, after_record, entry_refusal, take_entries, take as take_message}
use Rattle.lives_law.specs.Lives.{Written, Files, Open, Among, here, there, Mark, grown_by, written, tally}
use Rattle.lives_law.specs.Instances.{is_made}
use Rattle.lives_law.specs.Roaming.{written_all}
use Rattle.lives_law.specs.Heirs.{Act, own, saves, other, is_act, Original, Honest, makes, notes, first, again, puts, World, Happens, Comes, by}
use Rattle.lives_law.specs.Stored.{Noted, it, note, bare, bare_file, open_by, SameBy}
use Rattle.lives_law.specs.Saving.{IsLabel, act_of, acts_from, acts, acted}
use Rattle.lives_law.proofs.Lists.{take_nil}
use Rattle.lives_law.proofs.Notes.{bare_file_both, note_none, same_one, same_none}

-- one of what is read is read of one
pub among_map : {X Y : Type 0} (f : X → Y) (xs : List X) (y : Y) → Among y (map f xs) → (x : X) × Among x xs × (y ≡ f x)
among_map f [] y a = elim a [ ]
among_map f (x ∷ xs) y here = (x, here, refl)
among_map f (x ∷ xs) y (there a) = let r = among_map f xs y a in (r.0, there r.1, r.2)

module _ (label : ℕ → ℕ → Act) (is : IsLabel label) where
  counted_same : (l n : ℕ) (r : ClientRecord) → is_act (act_of label l n r) ≡ is_made r
  counted_same l n (Born id) = refl
  counted_same l n (Named ident) = refl
  counted_same l n (Made number ms body) = is l n
  counted_same l n (Took origin number ms body) = refl
  counted_same l n Form = refl
  counted_same l n (Subset tables) = refl
  counted_same l n (Part body) = refl
  counted_same l n (Floor version) = refl
  counted_same l n (Resumed number waiting) = refl
  counted_same l n (Waits number base ms body current) = refl

  pub acts_both : (f g : List (Written ClientRecord)) (n : ℕ) → acts_from label n (f ++ g) ≡ acts_from label n f ++ acts_from label (n + tally is_made f) g
  acts_both [] g n = let z : n ≡ n + 0 = omega arith in ap (λ m. acts_from label m g) z
  acts_both (x ∷ f) g n =
      ap (λ l. record { life = x.life; what = act_of label x.life n x.what } ∷ l) (acts_both f g (if is_made x.what then suc n else n))
      ∙ ap (λ k. acts_from label n (x ∷ f) ++ acts_from label k g) (sums (is_made x.what))
    where
      sums : (b : Bool) → (if b then suc n else n) + tally is_made f ≡ n + (if b then suc (tally is_made f) else tally is_made f)
      sums true = omega arith
      sums false = omega arith

  acts_tally : (f : List (Written ClientRecord)) (n : ℕ) → tally is_act (acts_from label n f) ≡ tally is_made f
  acts_tally [] n = refl
  acts_tally (x ∷ f) n = ap₂ (λ b t. if b then suc t else t) (counted_same x.life n x.what) (acts_tally f (if is_made x.what then suc n else n))

  made_act : (l n : ℕ) (r : ClientRecord) → is_made r ≡ true → act_of label l n r ≡ label l n
  made_act l n (Born id) e = cc
  made_act l n (Named ident) e = cc
  made_act l n (Made number ms body) e = refl
  made_act l n (Took origin number ms body) e = cc
  made_act l n Form e = cc
  made_act l n (Subset tables) e = cc
  made_act l n (Part body) e = cc
  made_act l n (Floor version) e = cc
  made_act l n (Resumed number waiting) e = cc
  made_act l n (Waits number base ms body current) e = cc

  -- a transaction's place, and what its label says
  pub record ActMark (f : List (Written ClientRecord)) (n l : ℕ) : Type 0 where
    pub mark : Mark is_act (acts_from label 0 f) n l
    pub what : mark.last.what ≡ label l n

  pub act_mark : (f : List (Written ClientRecord)) (n l : ℕ) → Mark is_made f n l → ActMark f n l
  act_mark f n l m =
      let k = 0 + tally is_made m.before in
      let number : 0 + tally is_made m.before ≡ n = let h = m.number in omega arith in
      record {
        mark = record {
          before = acts_from label 0 m.before;
          last = record { life = m.last.life; what = act_of label m.last.life (0 + tally is_made m.before) m.last.what };
          more = acts_from label (if is_made m.last.what then suc (0 + tally is_made m.before) else 0 + tally is_made m.before) m.more;
          is = ap (acts_from label 0) m.is ∙ acts_both m.before (m.last ∷ m.more) 0;
          counted = counted_same m.last.life (0 + tally is_made m.before) m.last.what ∙ m.counted;
          number = acts_tally m.before 0 ∙ m.number;
          life = m.life;
        };
        what = made_act m.last.life (0 + tally is_made m.before) m.last.what m.counted ∙ ap₂ label m.life number;
      }

  -- ---- a client writes

  pub acts_grown : (o : Open (Noted ClientRecord)) (r : ClientRecord) → acts label (grown_by o (it r)) ≡ acts label o.file ++ record { life = o.life; what = act_of label o.life (tally is_made (bare_file o.file)) r } ∷ []
  acts_grown o r =
      ap (acts_from label 0) (bare_file_both o.file (record { life = o.life; what = it r } ∷ []))
      ∙ acts_both (bare_file o.file) (record { life = o.life; what = r } ∷ []) 0
      ∙ (let z : 0 + tally is_made (bare_file o.file) ≡ tally is_made (bare_file o.file) = omega arith in ap (λ k. acts label o.file ++ record { life = o.life; what = act_of label o.life k r } ∷ []) z)

  -- a world with these files
  pub record ActsOf (w : Files (Noted ClientRecord)) (v : World) (u : World) : Type 0 where
    pub comes : Comes u
    pub same : SameBy (acts label) w u.files
    pub hists : u.hists ≡ v.hists

  pub honest_more : (w : Files (Noted ClientRecord)) (v : Files Act) → SameBy (acts label) w v → (r : Act) → Honest (acted label w) r → Honest v r
  honest_more w v s r (makes) = makes
  honest_more w v s r (notes) = notes
  honest_more w v s r (first t b o) = first t b (record { file = o.file; kept = let a = among_map (acts label) w.kept o.file o.kept in subst (λ f. Among f v.kept) (sym a.2) (s.kept a.0 a.1); mark = o.mark; own = o.own; before = o.before })
  honest_more w v s r (again t b f i x k e h) = again t b f i x (let a = among_map (acts label) w.kept f k in subst (λ f. Among f v.kept) (sym a.2) (s.kept a.0 a.1)) e h

  pub act_one : (w : Files (Noted ClientRecord)) (v : World) (n : ℕ) (o : Open (Noted ClientRecord)) (r : ClientRecord) → Comes v → SameBy (acts label) w v.files → w.nodes n ≡ Some o → Honest v.files (act_of label o.life (tally is_made (bare_file o.file)) r) → (u : World) × ActsOf (written w n o (it r)) v u
  act_one w v n o r c s e h =
      let q : Open Act = record { file = acts label o.file; life = o.life } in
      let a = act_of label o.life (tally is_made (bare_file o.file)) r in (
        record v { files = written v.files n (record { file = acts label o.file; life = o.life }) (act_of label o.life (tally is_made (bare_file o.file)) r) },
        record {
          comes = by c (Rattle.lives_law.specs.Heirs.Happens.client (puts n (record { file = acts label o.file; life = o.life }) (act_of label o.life (tally is_made (bare_file o.file)) r) (s.nodes n ∙ ap (open_by (acts label)) e) h));
          same = same_one (acts label) w v.files n o (it r) (record { file = acts label o.file; life = o.life }) (act_of label o.life (tally is_made (bare_file o.file)) r) s (sym (acts_grown o r)) refl;
          hists = refl;
        },
      )

  -- what is no transaction
  abbrev pub NoMade : ClientRecord → Type 0
  NoMade r = is_made r ≡ false

  no_act : (l n : ℕ) (r : ClientRecord) → NoMade r → act_of label l n r ≡ other
  no_act l n (Born id) e = refl
  no_act l n (Named ident) e = refl
  no_act l n (Made number ms body) e = cc
  no_act l n (Took origin number ms body) e = refl
  no_act l n Form e = refl
  no_act l n (Subset tables) e = refl
  no_act l n (Part body) e = refl
  no_act l n (Floor version) e = refl
  no_act l n (Resumed number waiting) e = refl
  no_act l n (Waits number base ms body current) e = refl

  pub acts_written : (ns : List (Noted ClientRecord)) (w : Files (Noted ClientRecord)) (v : World) (n : ℕ) (o : Open (Noted ClientRecord)) → Comes v → SameBy (acts label) w v.files → w.nodes n ≡ Some o → Among o.file w.kept → Each NoMade (bare ns) → (u : World) × ActsOf (written_all w n o ns) v u
  acts_written [] w v n o c s e a none = (v, record { comes = c; same = s; hists = refl })
  acts_written (it r ∷ ns) w v n o c s e a (and_each x xs) =
      let one = act_one w v n o r c s e (subst (λ z. Honest v.files z) (sym (no_act o.life (tally is_made (bare_file o.file)) r x)) notes) in
      let rest = acts_written ns (written w n o (it r)) one.0 n (record o { file = grown_by o (it r) }) one.1.comes one.1.same (put_same n (Some (record o { file = grown_by o (it r) })) w.nodes) here xs in
      (rest.0, record { comes = rest.1.comes; same = rest.1.same; hists = rest.1.hists ∙ one.1.hists })
  acts_written (note d l ∷ ns) w v n o c s e a none =
      acts_written ns (written w n o (note d l)) v n (record o { file = grown_by o (note d l) }) c (same_none (acts label) w v.files n o (note d l) s (s.kept o.file a) (s.nodes n ∙ ap (open_by (acts label)) e) (ap (acts_from label 0) (note_none o d l))) (put_same n (Some (record o { file = grown_by o (note d l) })) w.nodes) here none

-- ---- what a client takes is no transaction

module _ {I S : Type 0} (p : Profile I S) where
  entries_none : (es : List Sent) (c : ClientState I S) → Each (λ r. is_made r ≡ false) (take_entries p c es).records
  entries_none [] c = no_more
  entries_none (e ∷ es) c = on (entry_refusal p c e) (entries_none es (after_record p c (took e)))
    where
      on : (o : Option ClientRefusal) → Each (λ r. is_made r ≡ false) (take_entries p (after_record p c (took e)) es).records → Each (λ r. is_made r ≡ false) (take_one o (took e) (take_entries p (after_record p c (took e)) es)).records
      on (Some why) r = no_more
      on None r = and_each refl r

  pub takes_none : (c : ClientState I S) (ident from : ℕ) (es : List Sent) → Each (λ r. is_made r ≡ false) (take_message p c (Download ident from es)).records
  takes_none c ident from es = born c.id
    where
      gap : (b : Bool) → Each (λ r. is_made r ≡ false) (if b then refuse (Gap c.cursor from) else take_entries p c (drop (c.cursor - from) es)).records
      gap true = no_more
      gap false = entries_none (drop (c.cursor - from) es) c

      mine : (b : Bool) → Each (λ r. is_made r ≡ false) (if b then (if nat_lt c.cursor from then refuse (Gap c.cursor from) else take_entries p c (drop (c.cursor - from) es)) else refuse NotMine).records
      mine true = gap (nat_lt c.cursor from)
      mine false = no_more

      born : (o : Option Uuid) → Each (λ r. is_made r ≡ false) (if_born o (λ id. if ident == c.ident then (if nat_lt c.cursor from then refuse (Gap c.cursor from) else take_entries p c (drop (c.cursor - from) es)) else refuse NotMine)).records
      born None = no_more
      born (Some id) = mine (ident == c.ident)

pub each_take : {A : Type 0} {P : A → Type 0} (n : ℕ) (xs : List A) → Each P xs → Each P (take n xs)
each_take {P = P} n [] e = subst (λ l. Each P l) (sym (take_nil n)) no_more
each_take zero (x ∷ xs) e = no_more
each_take (suc n) (x ∷ xs) (and_each a b) = and_each a (each_take n xs b)
