use Rattle.std.proofs.Common.{◌∙◌, ap, sym, drop, ◌∷◌, ◌+◌, false, refl, arith}
use Rattle.std.specs.Prelude.{◌||◌}
use Rattle.std.specs.Option.{option_map_or}
use Rattle.std.specs.List.{list_any}
use Rattle.std.specs.FinMap as map
use Rattle.std.specs.FinSet as set
use Rattle.std.proofs.lemmas.List.{drop_more, at_drop_all}
use Rattle.sync_data.specs.Orders.{name_cmp}
use Rattle.sync_index.specs.Touched.{holds, has_object, is_about, is_of_schema}
use Rattle.sync_index.proofs.Indexed.{goes_on, schema_goes_on, covers, or_false}
use Rattle.sync_index.proofs.Filtered.{passes_none}
use Rattle.sync_index.proofs.index.Index.of.Goals as goal

pub invariant_of-index : goal.invariant_of-index
invariant_of-index c = passes_none c.new.result c.new-2.result c.new-2.ensures

pub loop-instr-init : goal.loop-instr-init
loop-instr-init c = record {
  objects = λ o. ap (λ objects. holds objects o || list_any (is_about o) c.args.instrs.now) c.new-2.ensures ∙ ap (λ k. option_map_or (λ keys. set.contains keys o.1) k false || list_any (is_about o) c.args.instrs.now) (map.get-empty name_cmp o.0);
  schema = refl;
}

pub loop-instr-preserved : goal.loop-instr-preserved
loop-instr-preserved c =
    let left = drop_more c.args.instrs.now c.loop-instr.instr-index c.instr-item.result c.loop-instr-test.true ∙ ap (λ x. x ∷ drop (c.loop-instr.instr-index + 1) c.args.instrs.now) (sym c.instr-item.is) in
    record {
      objects = λ o. goes_on c.loop-instr.index c.include.new.self c.instr-item.result (drop (c.loop-instr.instr-index + 1) c.args.instrs.now) c.in_ok-include.ensures o
          ∙ ap (λ is. has_object c.loop-instr.index o || list_any (is_about o) is) (sym left) ∙ c.loop-instr.invariant.objects o;
      schema = schema_goes_on c.loop-instr.index c.include.new.self c.instr-item.result (drop (c.loop-instr.instr-index + 1) c.args.instrs.now) c.in_ok-include.ensures
          ∙ ap (λ is. c.loop-instr.index.schema || list_any is_of_schema is) (sym left) ∙ c.loop-instr.invariant.schema;
    }

pub returns-clause-objects : goal.returns-clause-objects
returns-clause-objects c = λ o.
    sym (or_false (has_object c.loop-instr.index o)) ∙ sym (at_drop_all (λ is. has_object c.loop-instr.index o || list_any (is_about o) is) c.args.instrs.now c.loop-instr.instr-index (omega arith)) ∙ c.loop-instr.invariant.objects o

pub returns-clause-schema : goal.returns-clause-schema
returns-clause-schema c =
    sym (or_false c.loop-instr.index.schema) ∙ sym (at_drop_all (λ is. c.loop-instr.index.schema || list_any is_of_schema is) c.args.instrs.now c.loop-instr.instr-index (omega arith)) ∙ c.loop-instr.invariant.schema

pub returns-clause-covers : goal.returns-clause-covers
returns-clause-covers c =
    covers c.loop-instr.index c.args.instrs.now
    (λ o e. sym (or_false (has_object c.loop-instr.index o)) ∙ sym (at_drop_all (λ is. has_object c.loop-instr.index o || list_any (is_about o) is) c.args.instrs.now c.loop-instr.instr-index (omega arith)) ∙ c.loop-instr.invariant.objects o ∙ e)
    (λ e. sym (or_false c.loop-instr.index.schema) ∙ sym (at_drop_all (λ is. c.loop-instr.index.schema || list_any is_of_schema is) c.args.instrs.now c.loop-instr.instr-index (omega arith)) ∙ c.loop-instr.invariant.schema ∙ e)
