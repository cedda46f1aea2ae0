-- The whole exchange and its summary.
use Rattle.std.proofs.Common.{◌≡◌, ◌<◌, ◌≤◌, ◌+◌, ◌*◌, ◌^◌, ℕ, List, [], length, Result, Ok, Err, Vec, sym, ap, subst, ◌∙◌, arith}
use Rattle.std.specs.List.{count_by}
use Rattle.std.specs.Result.{IfOk, OnOk}
use Rattle.std.specs.declared.alloc.Global.{Global}
use Rattle.sync_data.specs.declared.instr.Instr.{Instr}
use Rattle.sync_data.specs.declared.memory.NoMemory.{NoMemory}
use Rattle.sync_gen.specs.Clients.{name_of}
use Rattle.sync_model.specs.Worlds.{Event, World, empty_world}
use Rattle.sync_world.specs.Holding.{Holds}
use Rattle.sync_world.specs.declared.world.World.{World as CodeWorld}
use Rattle.sync_top.specs.declared.counts.Counts.{Counts}
use Rattle.gen_law.specs.declared.plan.Move.{Move}
use Rattle.sync_top.specs.declared.progress.Progress.{Progress}
use Rattle.sync_top.specs.Counting.{Goes}
use Rattle.gen_law.specs.Generated.{events_by, events_of, words_by, world_by}
use Rattle.sync_top.specs.Jobs.{most_turns}
use Rattle.gen_law.specs.Plans.{AreMoves, clients, plan}
use Rattle.sync_top.specs.Summaries.{equals, history_in, summary_by, summary_of, summary_text}
use Rattle.gen_law.specs.Refusals.{is_refused}
use Rattle.sync_top.specs.Telling.{is_made}
use Rattle.sync_top.proofs.Planning.{plan_length, plan_moves}
use Rattle.sync_top.proofs.Playing.{goes_none}

pub starts : (progress : Progress) (seed : ℕ) (world : CodeWorld) → progress ≡ record { draws = seed; counts = record { messages = 0; made = 0; refused = 0 } } → Holds empty_world world → Goes [] progress.counts world
starts progress seed world is holds = subst (λ (p : Progress). Goes [] p.counts world) (sym is) (goes_none world holds)

pub few_parts : (parts : List Move) (count : ℕ) → parts ≡ plan count → count ≤ most_turns → 4 * length parts < 2 ^ 32
few_parts parts count is few = let long : length parts ≡ 1042 + count = ap length is ∙ plan_length count in omega arith

pub are_moves : (parts : List Move) (count : ℕ) → parts ≡ plan count → AreMoves parts
are_moves parts count is = subst AreMoves (sym is) (plan_moves count)

whole_events : (seed count draws : ℕ) (parts : List Move) → parts ≡ plan count → draws ≡ seed → events_by parts empty_world draws ≡ events_of seed count
unfolding events_of
whole_events seed count draws parts is drawn = ap (λ ms. events_by ms empty_world draws) is ∙ ap (λ x. events_by (plan count) empty_world x) drawn

pub whole_goes : (seed count draws : ℕ) (parts : List Move) (counts : Counts) (world : CodeWorld) → parts ≡ plan count → draws ≡ seed → Goes (events_by parts empty_world draws) counts world → Goes (events_of seed count) counts world
whole_goes seed count draws parts counts world is drawn goes = subst (λ es. Goes es counts world) (whole_events seed count draws parts is drawn) goes

summed : (seed count made refused : ℕ) (es : List (Event Instr)) → made ≡ count_by is_made (words_by empty_world es) → refused ≡ count_by is_refused (words_by empty_world es)
    → summary_text seed count made (history_in (world_by empty_world es)) refused (count_by (λ c. equals (world_by empty_world es) (name_of c)) clients) ≡ summary_by seed count es
summed seed count made refused es is_made_so is_refused_so =
    ap (λ k. summary_text seed count k (history_in (world_by empty_world es)) refused (count_by (λ c. equals (world_by empty_world es) (name_of c)) clients)) is_made_so
    ∙ ap (λ k. summary_text seed count (count_by is_made (words_by empty_world es)) (history_in (world_by empty_world es)) k (count_by (λ c. equals (world_by empty_world es) (name_of c)) clients)) is_refused_so

pub whole_summary : (seed count : ℕ) (counts : Counts) (world : CodeWorld) (result : Result (Vec ℕ Global) NoMemory) → Goes (events_of seed count) counts world
    → ((w : World) → Holds w world → IfOk result (λ text. text.items ≡ summary_text seed count counts.made (history_in w) counts.refused (count_by (λ c. equals w (name_of c)) clients)))
    → IfOk result (λ text. text.items ≡ summary_of seed count)
unfolding summary_of
whole_summary seed count counts world (Ok text) goes says = says (world_by empty_world (events_of seed count)) goes.holds ∙ summed seed count counts.made counts.refused (events_of seed count) goes.made goes.refused
whole_summary seed count counts world (Err e) goes says = tt

pub any_ok : {A E P : Type 0} (r : Result A E) → P → OnOk r P
any_ok (Ok a) p = p
any_ok (Err e) p = tt
