-- The checks of a track's packets in their order: limits, three headers, and frames (Theora I, 6, 7.1 and A.2.3; limits own).
use Rattle.std.specs.Prelude.{ℕ, ◌+◌, ◌-◌, ◌^◌, Bool, false, ◌||◌, List, [], ◌∷◌, length, Option, Some, None, Result, Ok, Err, IsOk, nat_le, nat_lt, if◌then◌else◌}
use Rattle.vid_base.specs.declared.fault.PacketFault.{PacketFault}
use Rattle.vid_base.specs.declared.fault.PacketFault.TheVariants.{KeyTooFar, TooLarge}
use Rattle.vid_base.specs.Reading.{◌>>=◌, and_then}
use Rattle.ogg_page.specs.Packets.{Piece, packets_from, left_from}
use Rattle.ogg_link.specs.Track.{headers, is_key}
use Rattle.ogg_link.specs.declared.state.Counted.{Counted}
use Rattle.ogg_link.specs.declared.state.Progress.{Progress}
use Rattle.ogg_link.specs.Progress.{one_more, counted, key_after, after_pieces}
use Rattle.thr_ident.specs.Header.{Header}
use Rattle.thr_ident.specs.Ident.{ident_of}
use Rattle.thr_ident.specs.Shape.{shape_of}
use Rattle.thr_ident.specs.Comment.{comment_of}
use Rattle.thr_setup.specs.Setup.{Contents, setup_of}
use Rattle.src_index.specs.declared.fault.Fault.{Fault}
use Rattle.src_index.specs.declared.fault.Fault.TheVariants.{InPacket}
use Rattle.thr_frame.specs.Parsed.{frame_in}
use Rattle.src_index.specs.Said.{Said, Start, WithIdent, WithComment, WithSetup}
use Rattle.src_index.specs.Track.{first_link}

-- the most bytes of a packet
abbrev pub most_bytes : ℕ
most_bytes = 2 ^ 30

-- the most packets of a track: the headers and 2^24 frames
abbrev pub most_packets : ℕ
most_packets = headers + 2 ^ 24

-- a packet behind so many others passes a limit
abbrev pub is_too_large : ℕ → List ℕ → Bool
is_too_large before packet = nat_lt most_bytes (length packet) || nat_le most_packets before

-- the number of the frame that a packet carries
abbrev pub frame_of : Counted → ℕ
frame_of counted = counted.number - headers

-- a frame stands so near behind its last key frame that a granule position can count it
abbrev pub is_near : ℕ → ℕ → Option ℕ → Bool
is_near shift frame None = false
is_near shift frame (Some key) = nat_lt (frame - key) (2 ^ shift)

-- a packet that carries a frame: what it says by itself, behind a frame or not, and how far its key frame is
abbrev pub frame_step : Header → Contents → Counted → List ℕ → Result Said PacketFault
frame_step header contents counted packet =
    frame_in contents (shape_of header) (nat_lt 0 (frame_of counted)) packet >>= (λ coded.
    if is_near header.shift (frame_of counted) counted.last_key then Ok (WithSetup header contents) else Err KeyTooFar)

-- what is said with one packet more, by its kind
abbrev pub said_step : Said → Counted → List ℕ → Result Said PacketFault
said_step Start counted packet = ident_of packet >>= (λ header. Ok (WithIdent header))
said_step (WithIdent header) counted packet = comment_of packet >>= (λ read. Ok (WithComment header))
said_step (WithComment header) counted packet = setup_of packet >>= (λ contents. Ok (WithSetup header contents))
said_step (WithSetup header contents) counted packet = frame_step header contents counted packet

-- one packet more, or its first fault
unfoldable pub packet_step : Said → Counted → List ℕ → Result Said PacketFault
packet_step said counted packet = if is_too_large counted.number packet then Err TooLarge else said_step said counted packet

-- a fault of the packet with a number, which shows on the page that begins at a byte
abbrev pub fault_at : ℕ → ℕ → PacketFault → Fault
fault_at at number fault = InPacket first_link number at fault

-- all these packets more, which end on a page, or the first that has a fault; so many ended before them, and this is the last key frame among those
unfoldable pub packets_over : ℕ → ℕ → Option ℕ → Said → List (List ℕ) → Result Said Fault
packets_over at number last_key said [] = Ok said
packets_over at number last_key said (packet ∷ packets) =
    and_then (packet_step said (counted number last_key packet) packet) (λ next. packets_over at (one_more number) (key_after (is_key packet) number last_key) next packets) (fault_at at number)

-- a packet that has not ended passes the limit as soon as the bytes that are there do
abbrev pub left_over : ℕ → ℕ → List ℕ → Said → Result Said Fault
left_over at number left said = if nat_lt most_bytes (length left) then Err (fault_at at number TooLarge) else Ok said

-- the packets that end with the pieces of a page, by the walk's book before it, and then the one that they leave unfinished
abbrev pub page_over : ℕ → Progress → Said → List ℕ → List Piece → Result Said Fault
page_over at book said begun pieces =
    packets_over at book.packets book.last_key said (packets_from begun pieces) >>= left_over at (after_pieces book pieces).packets (left_from begun pieces)

-- no packet of a track has a fault
abbrev pub AreFaultless : List (List ℕ) → Type 0
AreFaultless packets = IsOk (packets_over 0 0 None Start packets)
