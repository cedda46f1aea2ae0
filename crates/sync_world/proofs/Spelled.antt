-- Messages that are kept as their bytes.
use Rattle.std.proofs.Common.{◌≡◌, ℕ, zero, suc, ◌-◌, ◌<◌, ◌≤◌, List, [], ◌∷◌, ◌++◌, length, slice_get, None, Some, refl, sym, ◌∙◌, ap, subst, arith}
use Rattle.std.specs.Option.{option_map}
use Rattle.sync_messages.proofs.Messages.{is_read}
use Rattle.sync_model.specs.Messages.{Message}
use Rattle.sync_model.specs.Worlds.{World, at, message_at}
use Rattle.sync_exchange.specs.Seen.{message_seen}
use Rattle.sync_world.specs.Messages.{AreSpelled, IsSpelled, numbered}
use Rattle.sync_words.specs.Messages.{message_read}

pub spelled_more : (ms : List Message) (bs : List (List ℕ)) (m : Message) (b : List ℕ) → AreSpelled ms bs → IsSpelled m b → AreSpelled (ms ++ m ∷ []) (bs ++ b ∷ [])
spelled_more [] [] m b all one = (one, tt)
spelled_more [] (c ∷ bs) m b all one = absurd all
spelled_more (x ∷ ms) [] m b all one = absurd all
spelled_more (x ∷ ms) (c ∷ bs) m b all one = (all.0, spelled_more ms bs m b all.1 one)

pub same_many : (ms : List Message) (bs : List (List ℕ)) → AreSpelled ms bs → length bs ≡ length ms
same_many [] [] all = refl
same_many [] (c ∷ bs) all = absurd all
same_many (x ∷ ms) [] all = absurd all
same_many (x ∷ ms) (c ∷ bs) all = ap suc (same_many ms bs all.1)

-- the bytes of the message at a place
pub spelled_at : (ms : List Message) (bs : List (List ℕ)) (i : ℕ) (b : List ℕ) → AreSpelled ms bs → slice_get bs i ≡ Some b → (m : Message) × (at ms i ≡ Some m) × IsSpelled m b
spelled_at ms [] i b all is = cc
spelled_at [] (c ∷ bs) i b all is = absurd all
spelled_at (m ∷ ms) (c ∷ bs) zero b all is = (m, refl, (let same : c ≡ b = cc in subst (IsSpelled m) same all.0))
spelled_at (m ∷ ms) (c ∷ bs) (suc i) b all is = spelled_at ms bs i b all.1 is

pub none_at : (ms : List Message) (bs : List (List ℕ)) (i : ℕ) → AreSpelled ms bs → slice_get bs i ≡ None → at ms i ≡ None
none_at [] [] i all is = refl
none_at [] (c ∷ bs) i all is = absurd all
none_at (m ∷ ms) [] i all is = absurd all
none_at (m ∷ ms) (c ∷ bs) zero all is = cc
none_at (m ∷ ms) (c ∷ bs) (suc i) all is = none_at ms bs i all.1 is

-- and they are read as it
pub reads_it : (m : Message) (b : List ℕ) → IsSpelled m b → message_read b ≡ Some m
reads_it m b s = ap (option_map message_seen) (is_read b s.message s.is s.spelled) ∙ ap (λ x. Some x) s.seen

pub numbered_at : (ms : List Message) (n : ℕ) → 1 ≤ n → numbered ms n ≡ at ms (n - 1)
numbered_at ms zero le = absurd (omega arith)
numbered_at ms (suc n) le = let e : n ≡ suc n - 1 = omega arith in ap (at ms) e

pub message_numbered : (w : World) (n : ℕ) → message_at w n ≡ numbered w.messages n
message_numbered w zero = refl
message_numbered w (suc n) = refl
