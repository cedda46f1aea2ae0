-- What an answer tells of the bytes.
use Rattle.std.proofs.Common.{◌≡◌, ℕ, List, Result, Ok, Err, sym, ◌∙◌}
use Rattle.std.specs.Prelude.{IfOk}
use Rattle.sync_data.specs.Payload.{Changes}
use Rattle.sync_data.specs.declared.instr.Instr.{Instr}
use Rattle.sync_io.specs.VarintLaws.{IsBytes}
use Rattle.sync_codec.specs.declared.refusal.DecodeRefusal.{DecodeRefusal}
use Rattle.sync_codec.specs.declared.refusal.DecodeRefusal.TheVariants as refusals
use Rattle.sync_codec.specs.Spelling.{spelling}
use Rattle.sync_codec.specs.Decoding.{Answers, IsRead}
use Rattle.sync_codec.specs.Valid.{AreInstrs}
use Rattle.sync_codec.specs.Lemmas.Runs.{ok_is}
use Rattle.sync_codec.specs.Lemmas.Whole.{spelled_so}
use Rattle.sync_codec.specs.Lemmas.Back.{read_back}

pub is_found : (ms : ℕ) (bytes : List ℕ) (r : Result Changes DecodeRefusal) → IsBytes bytes → Answers ms bytes r → IfOk r (λ v. (v.ms ≡ ms) × AreInstrs v.instrs × (bytes ≡ spelling v.instrs))
is_found ms bytes (Ok v) h a = let p = spelled_so bytes v.instrs h a.1 in (a.0, p.0, p.1)
is_found ms bytes (Err e) h a = tt

changes_are : (v : Changes) (ms : ℕ) (is : List Instr) → v.ms ≡ ms → v.instrs ≡ is → v ≡ record { ms = ms; instrs = is }
changes_are v ms is p q = λ i. record { ms = p i; instrs = q i }

pub is_only : (ms : ℕ) (bytes : List ℕ) (r : Result Changes DecodeRefusal) → Answers ms bytes r → (is : List Instr) → AreInstrs is → bytes ≡ spelling is → IsRead ms is r
is_only ms bytes (Ok v) a is valid e = changes_are v ms is a.0 (ok_is v.instrs is (sym a.1 ∙ read_back bytes is valid e))
is_only ms bytes (Err refusals.NoMemory) a is valid e = tt
is_only ms bytes (Err (refusals.Bad bad)) a is valid e = let p = sym a.1 ∙ read_back bytes is valid e in absurd cc
