-- A reader of frames, by the frames that are ahead.
use Rattle.std.specs.Prelude.{◌≡◌, ℕ, List, Option, None}
use Rattle.std.specs.Option.{option_map}
use Rattle.sync_io.specs.FrameReaders.{framings_of}
use Rattle.sync_node.specs.Items.{Items, frames_from}
use Rattle.sync_node.specs.declared.frames.Frames.{Frames}

-- it has refused nothing, and counts the frames
pub record IsReady (frames : Frames) : Type 0 where
  pub fresh : frames.reader.refused ≡ None
  pub counted : frames.count ≡ frames.reader.frames

abbrev pub frames_ahead : Frames → Option (List ℕ) → Option Items
frames_ahead frames left = option_map (frames_from frames.count) (framings_of frames.reader left)
