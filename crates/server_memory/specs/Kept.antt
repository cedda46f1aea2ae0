-- What a server keeps in memory, as the model has it.
use Rattle.sync_data.specs.declared.instr.Instr.{Instr}
use Rattle.sync_base.specs.States.{State}
use Rattle.sync_model.specs.Parts.{Parts}
use Rattle.server_memory.specs.History.{len_of}
use Rattle.server_memory.specs.declared.kept.Kept.{Kept}

abbrev pub parts : Kept → Parts Instr State
parts k = record {
  floor = k.history.floor;
  below = k.below;
  len = len_of k.history;
  entries = k.history.entries;
  bases = k.history.bases;
  objects = k.objects;
  second = k.history.second;
  idents = k.history.idents;
  retired = k.history.retired;
}
