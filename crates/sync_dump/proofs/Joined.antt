-- Tokens that were appended in parts.
use Rattle.std.proofs.Common.{◌≡◌, List, [], ◌∷◌, ◌++◌, append_assoc}
use Rattle.json.specs.Token.{Token}

pub link_tokens : (old ts : List Token) (a b c d e f g : Token) → ((((((old ++ a ∷ []) ++ b ∷ []) ++ ts) ++ c ∷ d ∷ []) ++ e ∷ f ∷ []) ++ g ∷ []) ≡ old ++ (a ∷ b ∷ (ts ++ (c ∷ d ∷ e ∷ f ∷ g ∷ [])))
link_tokens old ts a b c d e f g = simp append_assoc

object_tokens : (old cells ts : List Token) (a b c d e f : Token) → (((((((old ++ a ∷ []) ++ b ∷ []) ++ cells) ++ c ∷ []) ++ ts) ++ d ∷ e ∷ []) ++ f ∷ []) ≡ old ++ (a ∷ b ∷ (cells ++ (c ∷ (ts ++ (d ∷ e ∷ f ∷ [])))))
object_tokens old cells ts a b c d e f = simp append_assoc

pub object_joined : (t0 t1 t2 t3 t4 t5 t6 t7 cells ts : List Token) (a b c d e f : Token) → t1 ≡ t0 ++ a ∷ [] → t2 ≡ t1 ++ b ∷ [] → t3 ≡ t2 ++ cells → t4 ≡ t3 ++ c ∷ [] → t5 ≡ t4 ++ ts → t6 ≡ t5 ++ d ∷ e ∷ []
    → t7 ≡ t6 ++ f ∷ [] → t7 ≡ t0 ++ (a ∷ b ∷ (cells ++ (c ∷ (ts ++ (d ∷ e ∷ f ∷ [])))))
object_joined t0 t1 t2 t3 t4 t5 t6 t7 cells ts a b c d e f p1 p2 p3 p4 p5 p6 p7 = cc (object_tokens t0 cells ts a b c d e f)

pub column_tokens : (old ts : List Token) (a b c d e f g h i j k : Token) → (((((((old ++ a ∷ []) ++ b ∷ c ∷ []) ++ d ∷ e ∷ []) ++ f ∷ g ∷ []) ++ h ∷ i ∷ []) ++ j ∷ k ∷ []) ++ ts) ≡ old ++ (a ∷ b ∷ c ∷ d ∷ e ∷ f ∷ g ∷ h ∷ i ∷ j ∷ k ∷ ts)
column_tokens old ts a b c d e f g h i j k = simp append_assoc
