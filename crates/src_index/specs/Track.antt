-- The packets of a track in order: three headers and then the frames (Theora I, 6 and A.2).
use Rattle.std.specs.Prelude.{ℕ, ◌+◌, List, [], drop, get_or}
use Rattle.ogg_link.specs.Track.{headers}

-- the packet with this number
abbrev pub packet_at : List (List ℕ) → ℕ → List ℕ
packet_at packets number = get_or packets number []

-- the packet that carries this frame; frames count from 0
abbrev pub frame_at : List (List ℕ) → ℕ → List ℕ
frame_at packets frame = packet_at packets (frame + headers)

-- the packets that carry frames
abbrev pub frames_of : List (List ℕ) → List (List ℕ)
frames_of packets = drop headers packets

-- links count from 1
abbrev pub first_link : ℕ
first_link = 1
