-- What the export of a stream writes (own): its pictures as YUV4MPEG2. Frames as in Theora I, 7.11.
use Rattle.std.specs.Prelude.{◌≡◌, ℕ, List, map, None, Ok}
use Rattle.vid_plane.specs.declared.frame.Frame.{Frame}
use Rattle.thr_ident.specs.declared.ident.Ident.{Ident}
use Rattle.thr_ident.specs.Ident.{ident_of, header_of}
use Rattle.thr_ident.specs.Shape.{shape_of}
use Rattle.thr_setup.specs.Setup.{Contents, setup_of}
use Rattle.thr_frame.specs.Step.{frames_from}
use Rattle.src_index.specs.Track.{frames_of, packet_at}
use Rattle.y4m_io.specs.Heads.{head_of_ident}
use Rattle.y4m_io.specs.Crop.{crop_of}
use Rattle.y4m_io.specs.Y4m.{y4m_of}

-- of a track with these packets: the head of its identification header, and the picture in each of its frames, from the first
-- on
pub record IsExport (packets : List (List ℕ)) (text : List ℕ) : Type 0 where
  pub ident : Ident
  pub setup : Contents
  pub frames : List Frame
  pub header : ident_of (packet_at packets 0) ≡ Ok (header_of ident)
  pub tables : setup_of (packet_at packets 2) ≡ Ok setup
  pub decoded : frames_from setup (shape_of (header_of ident)) None (frames_of packets) ≡ Ok frames
  pub text_is : text ≡ y4m_of (head_of_ident ident) (map (crop_of ident) frames)
