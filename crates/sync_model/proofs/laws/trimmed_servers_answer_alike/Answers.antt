use Rattle.sync_model.proofs.Alike as alike
use Rattle.sync_model.proofs.Trims as trims
use Rattle.sync_model.proofs.laws.trimmed_servers_answer_alike.Goals as goal

pub returns : goal.returns
returns g c =
    let p = g.E.Exchange.profile in
    record {
      trims = λ kept s. (trims.trims_less p kept s, trims.trims_span p kept s);
      floor = λ kept s. trims.next_floor_fits p kept s;
      goes_on = λ kept m s. trims.serve_spans p kept s m;
      alike = λ whole less ms k e. alike.all_same p ms whole less k e;
      records = λ whole less m k e. (alike.served_same p whole less k m e).0;
      below = λ kept c g h b. trims.refused_below p kept c g h b;
      only_below = λ kept c g h n e. trims.below_refused p kept c g h n e;
      ask_below = λ kept c cursor settled g go h b. trims.ask_refused kept c cursor settled g go h b;
      ask_above = λ kept c cursor settled g go h b. trims.ask_answered kept c cursor settled g go h b;
    }
