-- Two concurrent instructions of one list, by their places and stamps alone.
use Rattle.std.specs.Prelude.{ℕ, Bool, not, if◌then◌else◌, Option, None, Some}
use Rattle.sync_data.specs.declared.entry.Stamp.{Stamp}
use Rattle.sync_theory.specs.Changesets.{later_stamp}
use Rattle.list_places.specs.Places.{place_after}
use Rattle.list_lane.specs.declared.op.Op.{Op}

-- the instruction at another place, or none
abbrev pub moved : Op → Option ℕ → Option Op
moved a None = None
moved a (Some p) = Some (record a { place = p })

-- what is left of the first; the flag is whether it is the later one
abbrev pub op_after : Bool → Op → Op → Option Op
op_after l a b = moved a (place_after l a.does a.place b.does b.place)

-- the stamp in the lane is the later one; of two equal ones the left is not
abbrev pub lane_later : Bool → Stamp → Stamp → Bool
lane_later lane_left s t = if lane_left then later_stamp s.ms s.ident t.ms t.ident else not (later_stamp t.ms t.ident s.ms s.ident)
