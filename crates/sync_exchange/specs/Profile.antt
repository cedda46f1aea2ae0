-- The project's own instructions, states, rule table, bytes and limits, as the model of nodes takes them.
use Rattle.std.specs.Prelude.{ℕ, Bool, ◌&&◌, List, Result, Ok, Err, if◌then◌else◌, length, nat_le, sum_by}
use Rattle.std.specs.Str.{bytes_eq}
use Rattle.sync_model.specs.Profile.{Profile}
use Rattle.sync_data.specs.Payload.{payload}
use Rattle.sync_data.specs.declared.instr.Instr.{Instr}
use Rattle.sync_base.specs.States.{State, no_state}
use Rattle.sync_law.specs.Coded.{apply, meet_by_code}
use Rattle.sync_codec.specs.declared.refusal.Fault.{Fault}
use Rattle.sync_codec.specs.Spelling.{needs_second, spelling}
use Rattle.sync_codec.specs.Decoding.{bad_bytes, instrs_in}
use Rattle.sync_subset.specs.Tables.{admits, only}
use Rattle.snapshot_law.specs.Build.{build}
use Rattle.sync_exchange.specs.Adapting.{adapt}
use Rattle.sync_exchange.specs.Whole.{is_whole}

-- the bytes that an instruction carries; what can't be spelled is too heavy for any changeset
abbrev pub weight : Instr → ℕ
weight i = if is_whole i then payload i else 4194305

-- the limits of a changeset hold
abbrev pub fits_changeset : List Instr → Bool
fits_changeset is = nat_le (length is) 65536 && nat_le (sum_by weight is) 4194304

-- what was read, or the offset and the rule of the first fault. A list that isn't spelled by the bytes isn't read from
-- them: this comes for numbers above 255 alone, which are no bytes.
abbrev pub as_read : List ℕ → Result (List Instr) Fault → Result (List Instr) (ℕ × ℕ)
as_read bytes (Ok is) = if fits_changeset is && bytes_eq (spelling is) bytes then Ok is else Err (0, 0)
as_read bytes (Err fault) = Err ((bad_bytes bytes fault).offset, (bad_bytes bytes fault).rule)

-- what bytes spell, or their first fault
abbrev pub unspell : List ℕ → Result (List Instr) (ℕ × ℕ)
unspell bytes = as_read bytes (instrs_in bytes)

-- all that the model of nodes asks for
abbrev pub the_profile : Profile Instr State
the_profile = record {
  empty = no_state;
  apply = apply;
  meet = meet_by_code;
  spell = spelling;
  unspell = unspell;
  weight = weight;
  most_instrs = 65536;
  most_weight = 4194304;
  adapt = adapt;
  needs_second = needs_second;
  admits = admits;
  only = only;
  build = build fits_changeset;
  most = 4096;
  room = 16777216;
  full = 4294967295;
}
