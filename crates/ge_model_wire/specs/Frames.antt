-- The frames of a connection. A request's frame is a length in four bytes, the highest first, from 1 to 1,048,576, and as
-- many bytes: the payload. A reply's frame has its length in eight bytes.
use Rattle.std.specs.Prelude.{ℕ, zero, suc, ◌+◌, ◌^◌, min, Bool, true, false, ◌||◌, ◌==◌, nat_lt, if◌then◌else◌, List, [], ◌∷◌, ◌++◌, length, take, drop}
use Rattle.std.specs.Int.{w32, w64, from_be_bytes}
use Rattle.byteorder.specs.Endian.{big_bytes}
use Rattle.ge_limits.specs.Limits as limit

-- a connection has fewer bytes
abbrev pub link_bytes : ℕ
link_bytes = 2 ^ 40

-- what the first four bytes say
unfoldable pub frame_size : List ℕ → ℕ
frame_size bytes = from_be_bytes w32 (take 4 bytes)

-- a length that no frame has
abbrev pub is_no_size : ℕ → Bool
is_no_size size = (size == 0) || nat_lt limit.text_bytes size

-- bytes begin with no whole frame: fewer than four bytes, a length that is none, or fewer bytes than it says
abbrev pub is_no_frame : List ℕ → Bool
is_no_frame bytes = nat_lt (length bytes) 4 || (is_no_size (frame_size bytes) || nat_lt (length bytes) (4 + frame_size bytes))

-- the payload of the first frame, and what stands behind the frame
abbrev pub first_payload : List ℕ → List ℕ
first_payload bytes = take (frame_size bytes) (drop 4 bytes)

abbrev pub behind_first : List ℕ → List ℕ
behind_first bytes = drop (4 + frame_size bytes) bytes

-- how many bytes are taken to read the first frame: no more than the frame, and four where they say no length
abbrev pub taken_of : List ℕ → ℕ
taken_of bytes =
    if nat_lt (length bytes) 4 then length bytes
    else (if is_no_size (frame_size bytes) then 4 else min (length bytes) (4 + frame_size bytes))

-- a payload in front of those cut from what stands behind its frame
abbrev pub on_cut : Bool → List ℕ → List (List ℕ) × List ℕ → List (List ℕ) × List ℕ
on_cut true bytes more = ([], bytes)
on_cut false bytes more = (first_payload bytes ∷ more.0, more.1)

-- the longest list of whole frames that bytes begin with, in at most so many steps, and the bytes behind them
abbrev pub cut_frames : ℕ → List ℕ → List (List ℕ) × List ℕ
cut_frames zero bytes = ([], bytes)
cut_frames (suc steps) bytes = on_cut (is_no_frame bytes) bytes (cut_frames steps (behind_first bytes))

-- the payloads of the whole frames of a connection
unfoldable pub frames_of : List ℕ → List (List ℕ)
frames_of bytes = (cut_frames (length bytes) bytes).0

-- what stands behind them
unfoldable pub behind_frames : List ℕ → List ℕ
behind_frames bytes = (cut_frames (length bytes) bytes).1

-- a payload as the frame of a request, and a text as the frame of a reply
abbrev pub request_frame : List ℕ → List ℕ
request_frame payload = big_bytes 4 (length payload) ++ payload

abbrev pub reply_frame : List ℕ → List ℕ
reply_frame text = big_bytes 8 (length text) ++ text

-- what the first eight bytes say
unfoldable pub reply_size : List ℕ → ℕ
reply_size bytes = from_be_bytes w64 (take 8 bytes)

-- bytes begin with no whole reply
abbrev pub is_no_reply : List ℕ → Bool
is_no_reply bytes = nat_lt (length bytes) 8 || nat_lt (length bytes) (8 + reply_size bytes)

-- the text of the first reply, and what stands behind its frame
abbrev pub first_reply : List ℕ → List ℕ
first_reply bytes = take (reply_size bytes) (drop 8 bytes)

abbrev pub behind_reply : List ℕ → List ℕ
behind_reply bytes = drop (8 + reply_size bytes) bytes

-- how many bytes are taken to read the first reply
abbrev pub taken_of_reply : List ℕ → ℕ
taken_of_reply bytes = if nat_lt (length bytes) 8 then length bytes else min (length bytes) (8 + reply_size bytes)
