use Rattle.std.proofs.Common.{◌≡◌, drop}
use Rattle.std.specs.Prelude.{◌||◌}
use Rattle.std.specs.List.{list_any}
use Rattle.sync_base.specs.Effects.{ObjectName}
use Rattle.sync_index.specs.Touched.{has_object, is_about, is_of_schema}
use Rattle.sync_index.proofs.index.Index.of.Given as goal

-- with what is left of the list, it is the index of the list
abbrev pub invariant-loop-instr : goal.invariant-loop-instr
invariant-loop-instr l = record {
  objects : (o : ObjectName) → (has_object (record { objects = l.index.objects; schema = l.index.schema }) o || list_any (is_about o) (drop l.instr-index l.instrs)) ≡ list_any (is_about o) l.instrs;
  schema : (l.index.schema || list_any is_of_schema (drop l.instr-index l.instrs)) ≡ list_any is_of_schema l.instrs;
}
