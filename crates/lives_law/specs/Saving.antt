-- Heirs in worlds whose files keep the lives of what they took: whose worlds those of `Heirs` are. A client's transaction is one of
-- its own, or one that its file saves of another; its file says which, and a number and a life tell the record, so `label` says it
-- of these. A server does its step of `Stored`, and appends nothing but what passes the two tests of heirs.
use Rattle.std.specs.Prelude.{◌≡◌, ◌<◌, ℕ, suc, Bool, true, List, [], ◌∷◌, ◌++◌, Option, Some, None, map, length, take, if◌then◌else◌}
use Rattle.sync_theory.specs.World.{put_at}
use Rattle.sync_model.specs.Bytes.{Uuid}
use Rattle.sync_model.specs.Profile.{Profile}
use Rattle.sync_model.specs.Clients.{ClientRecord, Made}
use Rattle.sync_model.specs.Servers.{ServerRecord, Entry, server_of}
use Rattle.lives_law.specs.Lives.{Written, Files, Among, tally}
use Rattle.lives_law.specs.Instances.{plain, is_made}
use Rattle.lives_law.specs.Heirs.{Token, Act, saves, other, is_act, Honest, Clock, reached, Comes, World, Entry as Told}
use Rattle.lives_law.specs.Stored.{Noted, it, note, bare, bare_file, open_by, Stores, no_stores, upload_records, Occurs, server_opens, client_opens, server_writes, client_writes, server_takes, server_takes_old, client_takes, server_notes, client_notes}

-- the lives that a server's file notes of idents
abbrev pub noted_by : (ℕ → Option ℕ) → List (Noted ServerRecord) → ℕ → Option ℕ
noted_by noted [] = noted
noted_by noted (note c l ∷ xs) = noted_by (put_at c (Some l) noted) xs
noted_by noted (it r ∷ xs) = noted_by noted xs

abbrev pub nothing_noted : ℕ → Option ℕ
nothing_noted c = None

-- ---- a client's file as one of `Heirs`

module _ (label : ℕ → ℕ → Act) where
  -- of each transaction it says one or the other
  abbrev pub IsLabel : Type 0
  IsLabel = (life number : ℕ) → is_act (label life number) ≡ true

  abbrev pub act_of : ℕ → ℕ → ClientRecord → Act
  act_of life n (Made number ms body) = label life n
  act_of life n r = other

  abbrev pub acts_from : ℕ → List (Written ClientRecord) → List (Written Act)
  acts_from n [] = []
  acts_from n (x ∷ f) = record { life = x.life; what = act_of x.life n x.what } ∷ acts_from (if is_made x.what then suc n else n) f

  abbrev pub acts : List (Written (Noted ClientRecord)) → List (Written Act)
  acts f = acts_from 0 (bare_file f)

  abbrev pub acted : Files (Noted ClientRecord) → Files Act
  acted w = record { kept = map acts w.kept; nodes = λ n. open_by acts (w.nodes n); used = w.used }

  -- ---- a server's file as a history of `Heirs`

  abbrev pub token_of : ℕ → ℕ → Act → Token
  token_of life n (saves t b) = t
  token_of life n a = record { life = life; number = n }

  -- an entry of the life that is noted
  abbrev pub one_told : Option ℕ → ℕ → List Told
  one_told (Some l) (suc n) = record { number = n; life = l; token = token_of l n (label l n) } ∷ []
  one_told o n = []

  -- the entries of a file, where such lives are noted of idents
  abbrev pub told_from : (ℕ → Option ℕ) → List (Noted ServerRecord) → List Told
  told_from noted [] = []
  told_from noted (note c l ∷ xs) = told_from (put_at c (Some l) noted) xs
  told_from noted (it (Entry origin number base ms body) ∷ xs) = one_told (noted origin) number ++ told_from noted xs
  told_from noted (it r ∷ xs) = told_from noted xs

  abbrev pub history : List (Noted ServerRecord) → List Told
  history xs = told_from nothing_noted xs

  -- ---- the two tests, by the numbers that the server tells of lives

  -- the transaction isn't there; and of a saved one all is there that stands before it, by a clock of that
  pub record IsNew (h : List Told) (e : Told) : Type 0 where
    pub fresh : e.token.number < reached h e.token.life → ⊥
    pub after : (t : Token) (b : List Token) → label e.life e.number ≡ saves t b → (c : List Token) × Clock b c × ((y : Token) → Among y c → y.number < reached h y.life)

  -- each of these is, behind the history and those before it
  abbrev pub AllNew : List Told → List Told → Type 0
  AllNew h [] = Unit {0}
  AllNew h (e ∷ es) = IsNew h e × AllNew (h ++ e ∷ []) es

  -- ---- worlds

  -- an old client has no heir
  module _ {I S : Type 0} (p : Profile I S) (is_old : Uuid → Bool) where
    -- a client makes and saves as in `Heirs`, and a server appends what is new
    abbrev pub IsDone : {a b : Stores} → Occurs p is_old a b → Type 0
    IsDone (server_opens n l f k fresh) = Unit {0}
    IsDone (client_opens n l f k fresh) = Unit {0}
    IsDone (server_writes n o r e may ok) = Unit {0}
    IsDone {a = a} (client_writes n o r e may ok) = Honest (acted a.clients) (act_of o.life (tally is_made (bare_file o.file)) r)
    IsDone (server_takes n c j m f o e given none k u) = AllNew (history (plain o.file)) (told_from (noted_by nothing_noted (plain o.file)) (take j (upload_records p (plain o.file) c m)))
    IsDone (server_takes_old n c j id hs o e given is aged) = ⊥
    IsDone (client_takes n ident j m f o e ok k u) = Unit {0}
    IsDone (server_notes n c l o e) = Unit {0}
    IsDone (client_notes n c l o e) = Unit {0}

    pub data Saving : Stores → Type 0 where
      at_first : Saving no_stores
      by_step : {a b : Stores} → Saving a → (o : Occurs p is_old a b) → IsDone o → Saving b

    -- a world of heirs that has all their files, and all their histories, none of which leaves an entry out
    pub record HeirsBeneath (b : Stores) : Type 0 where
      pub world : World
      pub comes : Comes world
      pub files : (f : List (Written (Noted ClientRecord))) → Among f b.clients.kept → Among (acts f) world.files.kept
      pub histories : (f : List (Written (Noted ServerRecord))) → Among f b.servers.kept → Among (history (plain f)) world.hists
      pub all : (f : List (Written (Noted ServerRecord))) → Among f b.servers.kept → length (history (plain f)) ≡ length (server_of p (bare (plain f))).log
