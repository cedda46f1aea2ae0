use Rattle.std.proofs.Common.{◌++◌, map, ap, refl, sym, ◌∙◌}
use Rattle.sync_model.specs.Clients as model
use Rattle.sync_exchange.specs.Profile.{the_profile}
use Rattle.sync_exchange.specs.Seen.{client_seen}
use Rattle.shrink_law.specs.Short.{waits}
use Rattle.sync_trim.proofs.Shorts.{short_fresh, short_whole}
use Rattle.sync_trim.proofs.shortening.shortened.Goals as goal

pub returns-then-not-has_begun : goal.returns-then-not-has_begun
returns-then-not-has_begun g c = λ of is.
    short_fresh (model.client_of the_profile of) (map client_seen c.new-records.result.items) (map client_seen c.put_id.new.records.items) (map client_seen c.put_form.new.records.items)
    (map client_seen c.put_tables.new.records.items) (map client_seen c.put_ident.new.records.items)
    (sym (c.has_begun.ensures of is) ∙ c.if-not-has_begun.true) (ap (map client_seen) c.new-records.ensures.items) (c.in_ok-put_id.ensures of is) (c.in_ok-put_form.ensures of is) (c.in_ok-put_tables.ensures of is) (c.in_ok-put_ident.ensures of is)

pub returns : goal.returns
returns g c = λ of is.
    short_whole (model.client_of the_profile of) (map client_seen c.new-records.result.items) (map client_seen c.put_id.new.records.items) (map client_seen c.put_form.new.records.items) (map client_seen c.put_counts.new.records.items)
    (map client_seen c.put_tables-2.new.records.items) (map client_seen c.put_waits.new.records.items) (map client_seen c.put_objects.new.records.items) (map client_seen c.put_ident-2.new.records.items) _
    (sym (c.has_begun.ensures of is) ∙ c.if-not-has_begun.false) (ap (map client_seen) c.new-records.ensures.items) (c.in_ok-put_id.ensures of is) (c.in_ok-put_form.ensures of is) (c.in_ok-put_counts.ensures of is) (c.in_ok-put_tables-2.ensures of is)
    (c.in_ok-put_waits.ensures ∙ ap (λ us. map client_seen c.put_tables-2.new.records.items ++ map (waits the_profile) us) (c.waiting.ensures of is)) (c.in_ok-put_objects.ensures of is) refl (c.in_ok-put_ident-2.ensures of is)
