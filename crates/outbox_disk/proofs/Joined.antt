-- What stands in an outbox after one stroke more.
use Rattle.std.proofs.Common.{◌≡◌, ℕ, List, [], ◌∷◌, ◌++◌, sym, ◌∙◌, ap, append_assoc, append-nil}
use Rattle.sync_disk.specs.Strokes.{Act, Stroke, done}
use Rattle.outbox_disk.specs.Outbox.{act_bytes, outbox_bytes}

-- a write, added piece by piece
pub joined : (old place count bytes : List ℕ) (first : ℕ) (a b c d : List ℕ) → a ≡ old ++ first ∷ [] → b ≡ a ++ place → c ≡ b ++ count → d ≡ c ++ bytes → d ≡ old ++ first ∷ (place ++ (count ++ bytes))
joined old place count bytes first a b c d e f g h =
    h ∙ ap (λ (l : List ℕ). l ++ bytes) g ∙ ap (λ (l : List ℕ). (l ++ count) ++ bytes) f ∙ ap (λ (l : List ℕ). ((l ++ place) ++ count) ++ bytes) e
    ∙ append_assoc ((old ++ first ∷ []) ++ place) count bytes ∙ append_assoc (old ++ first ∷ []) place (count ++ bytes) ∙ append_assoc old (first ∷ []) (place ++ (count ++ bytes))

pub bytes_behind : (old : List Stroke) (act : Act) → outbox_bytes (old ++ done act ∷ []) ≡ outbox_bytes old ++ act_bytes act
bytes_behind [] act = append-nil (act_bytes act)
bytes_behind (stroke ∷ old) act = ap (λ (l : List ℕ). act_bytes stroke.act ++ l) (bytes_behind old act) ∙ sym (append_assoc (act_bytes stroke.act) (outbox_bytes old) (act_bytes act))

pub one_more : (act : Act) (old new : List Stroke) (had has : List ℕ) → had ≡ outbox_bytes old → has ≡ had ++ act_bytes act → new ≡ old ++ done act ∷ [] → has ≡ outbox_bytes new
one_more act old new had has before added is = added ∙ ap (λ (l : List ℕ). l ++ act_bytes act) before ∙ sym (bytes_behind old act) ∙ ap outbox_bytes (sym is)
