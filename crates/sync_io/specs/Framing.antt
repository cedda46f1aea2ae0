-- What a reader of frames gives for an input: its frames in order, and then what ends them.
use Rattle.std.specs.Prelude.{ℕ, zero, suc, ◌+◌, Bool, true, false, if◌then◌else◌, List, [], ◌∷◌, length, take, drop, nat_lt}
use Rattle.byteorder.specs.Endian.{big_number}
use Rattle.sync_io.specs.declared.framing.Front.{Front}
use Rattle.sync_io.specs.declared.framing.Front.TheVariants.{Part, Long, Whole}
use Rattle.sync_io.specs.Input.{Input}

-- a frame has at most as many bytes, its length not among them
abbrev pub max_frame : ℕ
max_frame = 67108864

-- the length of a frame, from four bytes, the highest first
unfoldable pub size_of : List ℕ → ℕ
size_of bytes = big_number 4 bytes

-- four bytes are a length, and behind it there are so many bytes
unfoldable pub front_of : List ℕ → Front
front_of bytes =
    if nat_lt (length bytes) 4 then Part
    else (if nat_lt max_frame (size_of bytes) then Long
    else (if nat_lt (length bytes) (4 + size_of bytes) then Part
    else Whole (size_of bytes)))

pub data FrameEnding : Type 0 where
  AtEnd : FrameEnding
  AtLongFrame : FrameEnding
  AtCut : FrameEnding
  AtLimit : FrameEnding

pub data Framing : Type 0 where
  Ends : (ending : FrameEnding) → Framing
  Gives : (frame : List ℕ) (rest : Framing) → Framing

-- less than a frame is a cut one, unless there is nothing, or the input goes on
abbrev pub ending_at : Bool → List ℕ → FrameEnding
ending_at true bytes = AtLimit
ending_at false [] = AtEnd
ending_at false (b ∷ bytes) = AtCut

-- what comes of a front, where the frames behind it are known
abbrev pub framed : Front → Bool → List ℕ → Framing → Framing
framed Part is_cut bytes rest = Ends (ending_at is_cut bytes)
framed Long is_cut bytes rest = Ends AtLongFrame
framed (Whole size) is_cut bytes rest = Gives (take size (drop 4 bytes)) rest

-- where the front is a frame, what is behind it
abbrev pub behind_front : Front → List ℕ → List ℕ
behind_front Part bytes = []
behind_front Long bytes = []
behind_front (Whole size) bytes = drop (4 + size) bytes

-- there are no more frames than bytes
unfoldable pub frames_from : ℕ → Bool → List ℕ → Framing
frames_from zero is_cut bytes = Ends (ending_at is_cut bytes)
frames_from (suc turns) is_cut bytes = framed (front_of bytes) is_cut bytes (frames_from turns is_cut (behind_front (front_of bytes) bytes))

unfoldable pub framing_of : Input → Framing
framing_of input = frames_from (length input.ahead) input.is_cut input.ahead
