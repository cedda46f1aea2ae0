use Rattle.std.proofs.Common.{◌≡◌, ℕ, List, Bor, Option, sym, subst}
use Rattle.std.specs.Cmp.Lexicographic.{slice_cmp}
use Rattle.std.specs.Option.{option_map}
use Rattle.std.specs.Ordering.{nat_cmp}
use Rattle.sync_maps.specs.Next.{IsNext}
use Rattle.life_marks.specs.Reached.{is_told}
use Rattle.life_marks.proofs.reached.Reached.next_life.Goals as goal

pub returns-in-None : goal.returns-in-None
returns-in-None c = subst (λ (after : Option (List ℕ)). IsNext (slice_cmp nat_cmp) (is_told c.args.self.now) after (option_map (λ (life : Bor (List ℕ)). life.now) c.next_key-in-None.result)) (sym c.in-None.is) c.next_key-in-None.ensures
