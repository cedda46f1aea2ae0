use Rattle.std.proofs.Common.{◌∙◌, List, ℕ, Bor}
use Rattle.sync_intern.proofs.Texts.{place_in_bytes}
use Rattle.sync_intern.proofs.places.place_among.Goals as goal

pub returns : goal.returns
returns c = c.first_equal.ensures ∙ place_in_bytes (λ (s : Bor (List ℕ)). s.now) c.args.text.now c.args.texts.now
