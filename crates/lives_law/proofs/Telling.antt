-- What a server appends and lets through is what a server of `Heirs` takes.
use Rattle.std.proofs.Common.{◌≡◌, ◌⊎◌, inl, inr, ⊎_elim, ℕ, zero, suc, ◌+◌, ◌≤◌, Bool, true, false, ◌&&◌, not, List, [], ◌∷◌, ◌++◌, Option, Some, None, Result, Ok, Err, refl, sym, ap, ap₂, ◌∙◌, subst, arith, append_assoc, append-nil, length, take, length-append, if◌then◌else◌, ◌==◌, eqb-true, nat_le}
use Rattle.sync_theory.specs.World.{put_at}
use Rattle.sync_theory.proofs.World.{put_same}
use Rattle.sync_theory.proofs.Server.{test_true}
use Rattle.sync_model.specs.Profile.{Profile, needs}
use Rattle.sync_model.specs.Each.{Each, no_more, and_each}
use Rattle.sync_model.specs.Messages.{Change}
use Rattle.sync_model.specs.Clients.{ClientRecord}
use Rattle.sync_model.specs.Servers.{Server, ServerRecord, Client, Entry, Form, Retired, Settled, Part, Floor, Count, Carried, Past, ServerRefusal, after_server, after_all, count, is_given, merge, merged, serve_changes}
use Rattle.sync_model.specs.Worlds.{at}
use Rattle.sync_model.specs.Files.{is_fine, is_second, server_admits, server_opens}
use Rattle.sync_model.proofs.Alone.{both_true}
use Rattle.sync_model.proofs.Serving.{merging}
use Rattle.lives_law.specs.Lives.{Written, Among, here, there, Mark}
use Rattle.lives_law.specs.Instances.{is_made}
use Rattle.lives_law.specs.Roaming.{NoEntry}
use Rattle.lives_law.specs.Heirs.{Token, Act, own, saves, other, is_act, token_at, Behind, Admits, AdmitsByNumbers, World, Happens, Comes, by, Clock, reached, Entry as Told}
use Rattle.lives_law.specs.Stored.{Noted, it, note, Kept, entry_by, is_by, is_life, bare, keeps, keeps_all, noted_one, with_notes}
use Rattle.lives_law.specs.Saving.{IsLabel, acts_from, token_of, one_told, told_from, noted_by, IsNew, AllNew}
use Rattle.lives_law.proofs.Lists.{take_nil}
use Rattle.lives_law.proofs.Heirs.{among_right, files_reached, holds, numbers_admit}
use Rattle.lives_law.proofs.Notes.{count_by, count_is}
use Rattle.lives_law.proofs.Acting.{act_mark}

-- ---- lists of what is told

-- how many of a server's records are entries
abbrev pub entries_in : List ServerRecord → ℕ
entries_in [] = 0
entries_in (Entry origin number base ms body ∷ rs) = suc (entries_in rs)
entries_in (r ∷ rs) = entries_in rs

module _ (label : ℕ → ℕ → Act) where
  pub told_both : (xs ys : List (Noted ServerRecord)) (noted : ℕ → Option ℕ) → told_from label noted (xs ++ ys) ≡ told_from label noted xs ++ told_from label (noted_by noted xs) ys
  told_both [] ys noted = refl
  told_both (note c l ∷ xs) ys noted = told_both xs ys (put_at c (Some l) noted)
  told_both (it (Client id) ∷ xs) ys noted = told_both xs ys noted
  told_both (it (Entry origin number base ms body) ∷ xs) ys noted = ap (λ l. one_told label (noted origin) number ++ l) (told_both xs ys noted) ∙ sym (append_assoc (one_told label (noted origin) number) (told_from label noted xs) (told_from label (noted_by noted xs) ys))
  told_both (it Form ∷ xs) ys noted = told_both xs ys noted
  told_both (it (Retired c by_) ∷ xs) ys noted = told_both xs ys noted
  told_both (it (Settled c n) ∷ xs) ys noted = told_both xs ys noted
  told_both (it (Part body) ∷ xs) ys noted = told_both xs ys noted
  told_both (it (Floor version) ∷ xs) ys noted = told_both xs ys noted
  told_both (it (Count c n b m) ∷ xs) ys noted = told_both xs ys noted
  told_both (it (Carried o n b m body) ∷ xs) ys noted = told_both xs ys noted
  told_both (it (Past c v m body) ∷ xs) ys noted = told_both xs ys noted

  -- a record that is no entry tells nothing
  pub told_none : (r : ServerRecord) → NoEntry r → (noted : ℕ → Option ℕ) (i : ℕ) → told_from label noted (take i (it r ∷ [])) ≡ []
  told_none r h noted zero = refl
  told_none r h noted (suc i) = ap (λ l. told_from label noted (it r ∷ l)) (take_nil i) ∙ one r h
    where
      one : (r : ServerRecord) → NoEntry r → told_from label noted (it r ∷ []) ≡ []
      one (Client id) h = refl
      one (Entry origin number base ms body) h = absurd h
      one Form h = refl
      one (Retired c by_) h = refl
      one (Settled c n) h = refl
      one (Part body) h = refl
      one (Floor version) h = refl
      one (Count c n b m) h = refl
      one (Carried o n b m body) h = refl
      one (Past c v m body) h = refl

  -- the life that is noted of an ident is the one that the file keeps
  pub noted_same : (c : ℕ) (xs : List (Noted ServerRecord)) (k : Kept) (noted : ℕ → Option ℕ) → k.noted ≡ noted c → (keeps_all entry_by c k xs).noted ≡ noted_by noted xs c
  noted_same c [] k noted e = e
  noted_same c (note d l ∷ xs) k noted e = noted_same c xs (keeps entry_by c k (note d l)) (put_at d (Some l) noted) (on (c == d))
    where
      on : (b : Bool) → (if b then record k { noted = Some l } else k).noted ≡ (if b then Some l else noted c)
      on true = refl
      on false = e
  noted_same c (it r ∷ xs) k noted e = noted_same c xs (keeps entry_by c k (it r)) noted (on (is_by c (entry_by r)))
    where
      on : (b : Bool) → (if b then record k { last = k.noted } else k).noted ≡ noted c
      on true = e
      on false = e

life_is : (k : Option ℕ) (l : ℕ) → is_life k (Some l) ≡ true → k ≡ Some l
life_is None l e = cc
life_is (Some m) l e = ap (λ z. Some z) (eqb-true m l e)

-- a form, or an entry of this ident
abbrev pub IsOwn : ℕ → ServerRecord → Type 0
IsOwn c (Client id) = ⊥
IsOwn c (Entry origin number base ms body) = origin ≡ c
IsOwn c Form = Unit {0}
IsOwn c (Retired d by_) = ⊥
IsOwn c (Settled d n) = ⊥
IsOwn c (Part body) = ⊥
IsOwn c (Floor version) = ⊥
IsOwn c (Count d n b m) = ⊥
IsOwn c (Carried o n b m body) = ⊥
IsOwn c (Past d v m body) = ⊥

module _ {I S : Type 0} (p : Profile I S) where
  pub log_long : (rs : List ServerRecord) (s : Server I) → length (after_all p s rs).log ≡ length s.log + entries_in rs
  log_long [] s = omega arith
  log_long (Client id ∷ rs) s = log_long rs (after_server p s (Client id))
  log_long (Entry origin number base ms body ∷ rs) s =
      let a = log_long rs (after_server p s (Entry origin number base ms body)) in
      let b = length-append s.log (Rattle.sync_model.specs.Servers.entry_of origin (record { number = number; base = base; ms = ms; body = body }) (Rattle.sync_model.specs.Clients.ok_list (p.unspell body)) ∷ []) in
      omega arith
  log_long (Form ∷ rs) s = log_long rs (after_server p s Form)
  log_long (Retired c by_ ∷ rs) s = log_long rs (after_server p s (Retired c by_))
  log_long (Settled c n ∷ rs) s = log_long rs (after_server p s (Settled c n))
  log_long (Part body ∷ rs) s = log_long rs s
  log_long (Floor version ∷ rs) s = log_long rs s
  log_long (Count c n b m ∷ rs) s = log_long rs s
  log_long (Carried o n b m body ∷ rs) s = log_long rs s
  log_long (Past c v m body ∷ rs) s = log_long rs s

  -- what a server appends for an Upload
  pub all_own : (hs : List Change) (s : Server I) (c : ℕ) → Each (IsOwn c) (serve_changes p s c hs).records
  all_own [] s c = no_more
  all_own (h ∷ hs) s c = go (nat_le h.number (count s c)) (merge p s c h) refl (all_own hs s c) (λ t. all_own hs t c)
    where
      joined : (xs ys : List ServerRecord) → Each (IsOwn c) xs → Each (IsOwn c) ys → Each (IsOwn c) (xs ++ ys)
      joined [] ys no_more e = e
      joined (x ∷ xs) ys (and_each a b) e = and_each a (joined xs ys b e)

      new_own : (b : Bool) → Each (IsOwn c) ((if b then Form ∷ [] else []) ++ Entry c h.number h.base h.ms h.body ∷ [])
      new_own true = and_each tt (and_each refl no_more)
      new_own false = and_each refl no_more

      go : (b : Bool) (r : Result (List ServerRecord) ServerRefusal) → merge p s c h ≡ r → Each (IsOwn c) (serve_changes p s c hs).records → ((t : Server I) → Each (IsOwn c) (serve_changes p t c hs).records) → Each (IsOwn c) (if b then serve_changes p s c hs else merged c h.number r (λ new. serve_changes p (after_all p s new) c hs)).records
      go true r is skip rest = skip
      go false (Err why) is skip rest = no_more
      go false (Ok new) is skip rest =
          let m = merging p s c h new is in
          joined new (serve_changes p (after_all p s new) c hs).records (subst (λ l. Each (IsOwn c) l) (sym m.new_is) (new_own (needs p m.instrs && not s.second))) (rest (after_all p s new))

  module _ (label : ℕ → ℕ → Act) (is : IsLabel label) (c : ℕ) (f : List (Written ClientRecord)) where
    abbrev file : List (Written Act)
    file = acts_from label 0 f

    -- a world that goes on to these histories
    pub record Ran (w : World) (h : List Told) (noted : ℕ → Option ℕ) (ns : List (Noted ServerRecord)) : Type 0 where
      pub world : World
      pub comes : Comes world
      pub files : world.files ≡ w.files
      pub old : (g : List Told) → Among g w.hists → Among g world.hists
      pub new : (i : ℕ) → Among (h ++ told_from label noted (take i ns)) world.hists
      pub whole : (i : ℕ) → length (told_from label noted (take i ns)) ≡ entries_in (bare (take i ns))

    -- nothing is appended
    pub none_ran : (w : World) (h : List Told) (noted : ℕ → Option ℕ) → Comes w → Among h w.hists → Ran w h noted []
    none_ran w h noted comes a = record {
      world = w;
      comes = comes;
      files = refl;
      old = λ g b. b;
      new = λ i. subst (λ l. Among l w.hists) (sym (ap (λ l. h ++ told_from label noted l) (take_nil i) ∙ append-nil h)) a;
      whole = λ i. ap (λ l. length (told_from label noted l)) (take_nil i) ∙ sym (ap (λ l. entries_in (bare l)) (take_nil i));
    }

    -- a note before
    note_ran : (w : World) (h : List Told) (noted : ℕ → Option ℕ) (d l : ℕ) (ns : List (Noted ServerRecord)) → Among h w.hists → Ran w h (put_at d (Some l) noted) ns → Ran w h noted (note d l ∷ ns)
    note_ran w h noted d l ns a r = record { world = r.world; comes = r.comes; files = r.files; old = r.old; new = λ i. new i; whole = λ i. whole i }
      where
        new : (i : ℕ) → Among (h ++ told_from label noted (take i (note d l ∷ ns))) r.world.hists
        new zero = subst (λ z. Among z r.world.hists) (sym (append-nil h)) (r.old h a)
        new (suc i) = r.new i

        whole : (i : ℕ) → length (told_from label noted (take i (note d l ∷ ns))) ≡ entries_in (bare (take i (note d l ∷ ns)))
        whole zero = refl
        whole (suc i) = r.whole i

    form_ran : (w : World) (h : List Told) (noted : ℕ → Option ℕ) (ns : List (Noted ServerRecord)) → Among h w.hists → Ran w h noted ns → Ran w h noted (it Form ∷ ns)
    form_ran w h noted ns a r = record { world = r.world; comes = r.comes; files = r.files; old = r.old; new = λ i. new i; whole = λ i. whole i }
      where
        new : (i : ℕ) → Among (h ++ told_from label noted (take i (it Form ∷ ns))) r.world.hists
        new zero = subst (λ z. Among z r.world.hists) (sym (append-nil h)) (r.old h a)
        new (suc i) = r.new i

        whole : (i : ℕ) → length (told_from label noted (take i (it Form ∷ ns))) ≡ entries_in (bare (take i (it Form ∷ ns)))
        whole zero = refl
        whole (suc i) = r.whole i

    -- what is known before each record: the world and its history; the lives that are told of what comes; and the entry before
    pub record Before (s : Server I) (h : List Told) (w : World) (ls : List ℕ) (left : ℕ) : Type 0 where
      pub comes : Comes w
      pub known : Among h w.hists
      pub kept : Among file w.files.kept
      pub marks : (i l : ℕ) → at ls i ≡ Some l → Mark is_made f (count s c + i) l
      pub enough : left ≤ length ls
      pub line : (count s c ≡ 0) ⊎ ((e : Told) × Among e h × (suc e.number ≡ count s c) × Mark is_act file e.number e.life)

    -- the entry of the next number, of this life
    abbrev next_told : Server I → ℕ → Told
    next_told s l = record { number = count s c; life = l; token = token_of label l (count s c) (label l (count s c)) }

    token_is : (l n : ℕ) (a : Act) → is_act a ≡ true → token_at a l n ≡ Some (token_of label l n a)
    token_is l n own e = refl
    token_is l n (saves t b) e = refl
    token_is l n other e = cc

    taken : (s : Server I) (h : List Told) (w : World) (l : ℕ) (ls : List ℕ) (left : ℕ) → Before s h w (l ∷ ls) left → IsNew label h (next_told s l) → Comes (record w { hists = (h ++ next_told s l ∷ []) ∷ w.hists })
    taken s h w l ls left b new =
        let at_first : Mark is_made f (count s c) l = let z : count s c + 0 ≡ count s c = omega arith in subst (λ k. Mark is_made f k l) z (b.marks 0 l refl) in
        let m = act_mark label is f (count s c) l at_first in
        let admits : AdmitsByNumbers w.files h (next_told s l) = record {
          file = file;
          kept = b.kept;
          place = m.mark;
          token = ap (λ a. token_at a l (count s c)) m.what ∙ token_is l (count s c) (label l (count s c)) (is l (count s c));
          line = ⊎_elim (λ z. inl z) (λ e. inr (record { entry = e.0; stands = e.1; next = e.2; mark = e.3 })) b.line;
          fresh = new.fresh;
          after = λ t q e. new.after t q (sym m.what ∙ e);
        } in
        by b.comes (Rattle.lives_law.specs.Heirs.Happens.server h (next_told s l) b.known ((numbers_admit w (files_reached b.comes) (holds b.comes)).enough h (next_told s l) b.known admits))

    -- an entry, and what follows
    entry_ran : (s : Server I) (h : List Told) (w : World) (l : ℕ) (ls : List ℕ) (left : ℕ) (noted : ℕ → Option ℕ) (origin number base ms : ℕ) (body : List ℕ) (ns : List (Noted ServerRecord)) → Before s h w (l ∷ ls) left → origin ≡ c → noted c ≡ Some l → number ≡ suc (count s c)
        → AllNew label h (told_from label noted (it (Entry origin number base ms body) ∷ ns))
        → ((u : World) → Comes u → u.files ≡ w.files → Among (h ++ next_told s l ∷ []) u.hists → AllNew label (h ++ next_told s l ∷ []) (told_from label noted ns) → Ran u (h ++ next_told s l ∷ []) noted ns)
        → Ran w h noted (it (Entry origin number base ms body) ∷ ns)
    entry_ran s h w l ls left noted origin number base ms body ns b o n number_is new rest = record {
      world = r.world;
      comes = r.comes;
      files = r.files;
      old = λ g a. r.old g (there a);
      new = λ i. at_place i;
      whole = λ i. whole i;
    }
      where
        told_is : one_told label (noted origin) number ≡ next_told s l ∷ []
        told_is = ap₂ (one_told label) (ap noted o ∙ n) number_is

        both : IsNew label h (next_told s l) × AllNew label (h ++ next_told s l ∷ []) (told_from label noted ns)
        both = subst (λ x. AllNew label h (x ++ told_from label noted ns)) told_is new

        r : Ran (record w { hists = (h ++ next_told s l ∷ []) ∷ w.hists }) (h ++ next_told s l ∷ []) noted ns
        r = rest (record w { hists = (h ++ next_told s l ∷ []) ∷ w.hists }) (taken s h w l ls left b both.0) refl here both.1

        at_place : (i : ℕ) → Among (h ++ told_from label noted (take i (it (Entry origin number base ms body) ∷ ns))) r.world.hists
        at_place zero = subst (λ z. Among z r.world.hists) (sym (append-nil h)) (r.old h (there b.known))
        at_place (suc i) = subst (λ z. Among z r.world.hists) (append_assoc h (next_told s l ∷ []) (told_from label noted (take i ns)) ∙ ap (λ x. h ++ (x ++ told_from label noted (take i ns))) (sym told_is)) (r.new i)

        whole : (i : ℕ) → length (told_from label noted (take i (it (Entry origin number base ms body) ∷ ns))) ≡ entries_in (bare (take i (it (Entry origin number base ms body) ∷ ns)))
        whole zero = refl
        whole (suc i) = ap (λ x. length (x ++ told_from label noted (take i ns))) told_is ∙ ap suc (r.whole i)

    -- what a server appends, wherever it is stopped
    pub run : (rs : List ServerRecord) (ls : List ℕ) (j : ℕ) (k : Option ℕ) (noted : ℕ → Option ℕ) (s : Server I) (h : List Told) (w : World) → Before s h w ls (count_by entry_by c rs) → noted c ≡ k → server_opens p s rs ≡ true → Each (IsOwn c) rs → AllNew label h (told_from label noted (take j (with_notes entry_by c k ls rs)))
        → Ran w h noted (take j (with_notes entry_by c k ls rs))
    run [] ls j k noted s h w b e opens each new = subst (λ l. Ran w h noted l) (sym (take_nil j)) (none_ran w h noted b.comes b.known)
    run (Client id ∷ rs) ls j k noted s h w b e opens (and_each x xs) new = absurd x
    run (Retired d by_ ∷ rs) ls j k noted s h w b e opens (and_each x xs) new = absurd x
    run (Settled d n ∷ rs) ls j k noted s h w b e opens (and_each x xs) new = absurd x
    run (Part body ∷ rs) ls j k noted s h w b e opens (and_each x xs) new = absurd x
    run (Floor version ∷ rs) ls j k noted s h w b e opens (and_each x xs) new = absurd x
    run (Count d n base m ∷ rs) ls j k noted s h w b e opens (and_each x xs) new = absurd x
    run (Carried o n base m body ∷ rs) ls j k noted s h w b e opens (and_each x xs) new = absurd x
    run (Past d v m body ∷ rs) ls j k noted s h w b e opens (and_each x xs) new = absurd x
    run (Form ∷ rs) [] zero k noted s h w b e opens (and_each x xs) new = none_ran w h noted b.comes b.known
    run (Form ∷ rs) [] (suc j) k noted s h w b e opens (and_each x xs) new =
        form_ran w h noted (take j (with_notes entry_by c k [] rs)) b.known
        (run rs [] j k noted (after_server p s Form) h w (record { comes = b.comes; known = b.known; kept = b.kept; marks = b.marks; enough = b.enough; line = b.line }) e (both_true (server_admits p s Form) (server_opens p (after_server p s Form) rs) opens).1 xs new)
    run (Form ∷ rs) (l ∷ ls) zero k noted s h w b e opens (and_each x xs) new = none_ran w h noted b.comes b.known
    run (Form ∷ rs) (l ∷ ls) (suc j) k noted s h w b e opens (and_each x xs) new =
        form_ran w h noted (take j (with_notes entry_by c k (l ∷ ls) rs)) b.known
        (run rs (l ∷ ls) j k noted (after_server p s Form) h w (record { comes = b.comes; known = b.known; kept = b.kept; marks = b.marks; enough = b.enough; line = b.line }) e (both_true (server_admits p s Form) (server_opens p (after_server p s Form) rs) opens).1 xs new)
    run (Entry origin number base ms body ∷ rs) [] j k noted s h w b e opens (and_each x xs) new =
        let mine : (c == origin) ≡ true = test_true c origin (sym x) in
        let counted : count_by entry_by c (Entry origin number base ms body ∷ rs) ≡ suc (count_by entry_by c rs) = ap (λ q. if q then suc (count_by entry_by c rs) else count_by entry_by c rs) mine in
        let many = b.enough in
        absurd (omega arith)
    run (Entry origin number base ms body ∷ rs) (l ∷ ls) j k noted s h w b e opens (and_each x xs) new =
        subst (λ z. AllNew label h (told_from label noted (take j z)) → Ran w h noted (take j z)) (sym split) (go (is_life k (Some l)) refl j (λ i n u g bb ne nn. run rs ls i (Some l) n (after_server p s (Entry origin number base ms body)) g u bb ne admits.1 xs nn)) new
      where
        mine : (c == origin) ≡ true
        mine = test_true c origin (sym x)

        admits : (server_admits p s (Entry origin number base ms body) ≡ true) × (server_opens p (after_server p s (Entry origin number base ms body)) rs ≡ true)
        admits = both_true (server_admits p s (Entry origin number base ms body)) (server_opens p (after_server p s (Entry origin number base ms body)) rs) opens

        number_is : number ≡ suc (count s c)
        number_is =
            let a = both_true (is_given s origin) ((number == suc (count s origin)) && (not (is_second p (p.unspell body) && not s.second) && is_fine (merge p s origin (record { number = number; base = base; ms = ms; body = body })))) admits.0 in
            let d = both_true (number == suc (count s origin)) (not (is_second p (p.unspell body) && not s.second) && is_fine (merge p s origin (record { number = number; base = base; ms = ms; body = body }))) a.1 in
            eqb-true number (suc (count s origin)) d.0 ∙ ap (λ o. suc (count s o)) x

        split : with_notes entry_by c k (l ∷ ls) (Entry origin number base ms body ∷ rs) ≡ noted_one entry_by c k l (Entry origin number base ms body) ++ with_notes entry_by c (Some l) ls rs
        split = ap (λ q. if q then noted_one entry_by c k l (Entry origin number base ms body) ++ with_notes entry_by c (Some l) ls rs else it (Entry origin number base ms body) ∷ with_notes entry_by c k (l ∷ ls) rs) mine

        Rest : Type 0
        Rest = (i : ℕ) (n : ℕ → Option ℕ) (u : World) (g : List Told) → Before (after_server p s (Entry origin number base ms body)) g u ls (count_by entry_by c rs) → n c ≡ Some l → AllNew label g (told_from label n (take i (with_notes entry_by c (Some l) ls rs))) → Ran u g n (take i (with_notes entry_by c (Some l) ls rs))

        counted : count (after_server p s (Entry origin number base ms body)) c ≡ suc (count s c)
        counted =
            let a = count_is p (Entry origin number base ms body ∷ []) s c in
            let d : count_by entry_by c (Entry origin number base ms body ∷ []) ≡ 1 = ap (λ q. if q then 1 else 0) mine in
            omega arith

        after : (u : World) → Comes u → u.files ≡ w.files → Among (h ++ next_told s l ∷ []) u.hists → Before (after_server p s (Entry origin number base ms body)) (h ++ next_told s l ∷ []) u ls (count_by entry_by c rs)
        after u comes files known = record {
          comes = comes;
          known = known;
          kept = subst (λ v. Among file v.kept) (sym files) b.kept;
          marks = λ i m t. let one = counted in let z : count s c + suc i ≡ count (after_server p s (Entry origin number base ms body)) c + i = omega arith in subst (λ v. Mark is_made f v m) z (b.marks (suc i) m t);
          enough = (let a = b.enough in let d : count_by entry_by c (Entry origin number base ms body ∷ rs) ≡ suc (count_by entry_by c rs) = ap (λ q. if q then suc (count_by entry_by c rs) else count_by entry_by c rs) mine in omega arith);
          line = inr (next_told s l, among_right h (next_told s l ∷ []) (next_told s l) here, sym counted, (act_mark label is f (count s c) l (let z : count s c + 0 ≡ count s c = omega arith in subst (λ v. Mark is_made f v l) z (b.marks 0 l refl))).mark);
        }

        go : (q : Bool) → is_life k (Some l) ≡ q → (j : ℕ) → ((i : ℕ) (n : ℕ → Option ℕ) (u : World) (g : List Told) → Before (after_server p s (Entry origin number base ms body)) g u ls (count_by entry_by c rs) → n c ≡ Some l → AllNew label g (told_from label n (take i (with_notes entry_by c (Some l) ls rs))) → Ran u g n (take i (with_notes entry_by c (Some l) ls rs)))
            → AllNew label h (told_from label noted (take j ((if q then it (Entry origin number base ms body) ∷ [] else note c l ∷ it (Entry origin number base ms body) ∷ []) ++ with_notes entry_by c (Some l) ls rs)))
            → Ran w h noted (take j ((if q then it (Entry origin number base ms body) ∷ [] else note c l ∷ it (Entry origin number base ms body) ∷ []) ++ with_notes entry_by c (Some l) ls rs))
        go true same zero rest nn = none_ran w h noted b.comes b.known
        go true same (suc j) rest nn =
            let n : noted c ≡ Some l = e ∙ life_is k l same in
            entry_ran s h w l ls (count_by entry_by c (Entry origin number base ms body ∷ rs)) noted origin number base ms body (take j (with_notes entry_by c (Some l) ls rs)) b x n number_is nn
            (λ u comes files known more. rest j noted u (h ++ next_told s l ∷ []) (after u comes files known) n more)
        go false same zero rest nn = none_ran w h noted b.comes b.known
        go false same (suc zero) rest nn = note_ran w h noted c l [] b.known (none_ran w h (put_at c (Some l) noted) b.comes b.known)
        go false same (suc (suc j)) rest nn =
            let n : put_at c (Some l) noted c ≡ Some l = put_same c (Some l) noted in
            note_ran w h noted c l (it (Entry origin number base ms body) ∷ take j (with_notes entry_by c (Some l) ls rs)) b.known
            (entry_ran s h w l ls (count_by entry_by c (Entry origin number base ms body ∷ rs)) (put_at c (Some l) noted) origin number base ms body (take j (with_notes entry_by c (Some l) ls rs)) b x n number_is nn
            (λ u comes files known more. rest j (put_at c (Some l) noted) u (h ++ next_told s l ∷ []) (after u comes files known) n more))
