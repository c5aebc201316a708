-- What the import of a YUV4MPEG2 text writes (own): a stream of Theora packets, each near a picture. qi is the quantiser index, and each
-- frame whose number `keys` divides is a key frame.
use Rattle.std.specs.Prelude.{◌≡◌, ⊤, ℕ, ◌+◌, ◌/◌, ◌%◌, ◌^◌, ◌<◌, ◌==◌, List, [], ◌∷◌, ◌++◌, length, Option, Some, None, ◌⊎◌, Ok}
use Rattle.vid_base.specs.declared.shape.Shape.{Shape}
use Rattle.vid_base.specs.Sizes.{plane_height, plane_width}
use Rattle.vid_desk.specs.Meaning.{Meaning}
use Rattle.vid_plane.specs.declared.frame.Frame.{Frame}
use Rattle.ogg_link.specs.Track.{is_key}
use Rattle.ogg_mux.specs.Muxing.{least_body}
use Rattle.ogg_mux.specs.OutputPages.{Stream, paged}
use Rattle.thr_ident.specs.Comment.{own_comment}
use Rattle.thr_ident.specs.Header.{Header, header_bytes}
use Rattle.thr_ident.specs.Shape.{shape_of}
use Rattle.thr_setup.specs.Import.{imported}
use Rattle.thr_setup.specs.Setup.{packet_of}
use Rattle.thr_frame.specs.Rebuilt.{Pair}
use Rattle.thr_frame.specs.Step.{step}
use Rattle.enc_frame.specs.Near.{Near}
use Rattle.src_index.specs.Judge.{Judged}
use Rattle.y4m_io.specs.declared.fault.Y4mWhy.{Y4mWhy}
use Rattle.y4m_io.specs.declared.head.Head.{Head}
use Rattle.y4m_io.specs.Pad.{padded_plane}
use Rattle.y4m_io.specs.Pictures.{Samples, chroma_columns, chroma_rows}
use Rattle.y4m_io.specs.Reading.{Departure, GoesOn, HasBadHead, IsY4m}
use Rattle.cut_desk.specs.Outputs.{Makes, MakesNone}

-- the identification header: the least coded frame that holds the picture, which stands at its lower left; the rate, the aspect
-- and the format of the head
abbrev pub import_header : Head → ℕ → Header
import_header h qi = record {
  vmaj = 3;
  vmin = 2;
  vrev = 1;
  fmbw = (h.w + 15) / 16;
  fmbh = (h.h + 15) / 16;
  picw = h.w;
  pich = h.h;
  picx = 0;
  picy = 0;
  frn = h.frn;
  frd = h.frd;
  parn = h.parn;
  pard = h.pard;
  cs = 0;
  nombr = 0;
  qual = qi;
  shift = 6;
  pf = h.pf;
  reserved = 0;
}

-- the shape of its frames
abbrev pub import_shape : Head → ℕ → Shape
import_shape h qi = shape_of (import_header h qi)

-- the headers and the numbers of the stream
abbrev pub import_stream : Head → ℕ → Stream
import_stream h qi = record { ident = header_bytes (import_header h qi); comment = own_comment; setup = packet_of imported; serial = 1; shift = 6; base = 1 }

-- all its packets, with these frames
abbrev pub import_packets : Head → ℕ → List (List ℕ) → List (List ℕ)
import_packets h qi frames = header_bytes (import_header h qi) ∷ own_comment ∷ packet_of imported ∷ frames

-- a picture in a frame of that shape
abbrev pub padded : Shape → Samples → Frame
padded s p = record {
  y = padded_plane (plane_width s.fmbw s.pf 0) (plane_height s.fmbh s.pf 0) p.w p.h p.y;
  cb = padded_plane (plane_width s.fmbw s.pf 1) (plane_height s.fmbh s.pf 1) (chroma_columns p.w p.pf) (chroma_rows p.h p.pf) p.cb;
  cr = padded_plane (plane_width s.fmbw s.pf 2) (plane_height s.fmbh s.pf 2) (chroma_columns p.w p.pf) (chroma_rows p.h p.pf) p.cr;
}

-- packet n, which leads from one state to the next: it is a key frame where `keys` divides n, and near the padded picture
pub record Codes (s : Shape) (qi keys : ℕ) (state : Option Pair) (n : ℕ) (picture : Samples) (packet : List ℕ) : Type 0 where
  pub key : is_key packet ≡ (n % keys == 0)
  pub short : length packet < 2 ^ 30
  pub near : Near imported s state (padded s picture) qi packet
  pub next : Pair
  pub steps : step imported s state packet ≡ Ok next

-- packets from n on, one for each picture
unfoldable pub AreCodes : Shape → ℕ → ℕ → Option Pair → ℕ → List Samples → List (List ℕ) → Type 0
AreCodes s qi keys state n [] [] = ⊤
AreCodes s qi keys state n [] (packet ∷ packets) = ⊥
AreCodes s qi keys state n (picture ∷ pictures) [] = ⊥
AreCodes s qi keys state n (picture ∷ pictures) (packet ∷ packets) = (codes : Codes s qi keys state n picture packet) × AreCodes s qi keys (Some codes.next) (n + 1) pictures packets

-- of a text without departure: the pages of its headers and of one packet for each picture, which are judged as a file with these
-- packets
pub record IsImport (bytes : List ℕ) (qi keys count : ℕ) (written : List ℕ) : Type 0 where
  pub head : Head
  pub pictures : List Samples
  pub packets : List (List ℕ)
  pub text : IsY4m bytes head pictures None
  pub codes : AreCodes (import_shape head qi) qi keys None 0 pictures packets
  pub written_is : written ≡ paged least_body (import_stream head qi) packets
  pub well_formed : Judged written (Ok (import_packets head qi packets))
  pub count_is : count ≡ length pictures

-- a text has that head, and these pictures stand first: whatever goes on behind them follows them
pub record StandFirst (bytes : List ℕ) (head : Head) (pictures : List Samples) : Type 0 where
  pub at : ℕ
  pub goes_on : (more : List Samples) (bad : Option Departure) → GoesOn head (length pictures) at bytes more bad → IsY4m bytes head (pictures ++ more) bad

-- a first part of what would be written: of the pages of the headers and of one packet for each of the pictures that stand first
pub record IsPart (bytes : List ℕ) (qi keys : ℕ) (written : List ℕ) : Type 0 where
  pub head : Head
  pub pictures : List Samples
  pub packets : List (List ℕ)
  pub rest : List ℕ
  pub first : StandFirst bytes head pictures
  pub codes : AreCodes (import_shape head qi) qi keys None 0 pictures packets
  pub part : written ++ rest ≡ paged least_body (import_stream head qi) packets

-- no output was created, or one that holds such a part
abbrev pub LeavesPart : Meaning → Meaning → List ℕ → List ℕ → ℕ → ℕ → Type 0
LeavesPart old new name bytes qi keys = MakesNone old new name ⊎ ((written : List ℕ) × IsPart bytes qi keys written × Makes old new name written)

-- a text departs there, for that why: in its head, or behind so many pictures
abbrev pub Departs : List ℕ → ℕ → Y4mWhy → Type 0
Departs bytes frame why = ((frame ≡ 0) × HasBadHead bytes why) ⊎ ((head : Head) × (pictures : List Samples) × IsY4m bytes head pictures (Some (record { frame = frame; why = why })))
