use Rattle.gen_law.proofs.Whole.{all_catch_up}
use Rattle.gen_law.proofs.Harmless.{is_drawn}
use Rattle.gen_law.proofs.laws.generated_exchanges_catch_up.Goals as goal

pub returns : goal.returns
returns c seed count le =
    all_catch_up (λ most w r h e good. c.harmless_clients_catch_up.ensures.lasts is_drawn most w r h e good) c.harmless_clients_catch_up.ensures.in_turn c.worlds_make_progress.ensures.current seed count le
