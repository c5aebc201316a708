-- The pictures of a source, one after another (private). A film is what an export works with.
use Rattle.std.specs.Prelude.{◌≡◌, ℕ, List, map, take, Option, Some, None, Ok}
use Rattle.std.specs.List.{flat_map}
use Rattle.vid_base.specs.declared.shape.Shape.{Shape}
use Rattle.vid_desk.specs.Meaning.{Meaning, Told}
use Rattle.vid_plane.specs.declared.frame.Frame.{Frame}
use Rattle.thr_ident.specs.declared.ident.Ident.{Ident}
use Rattle.thr_ident.specs.Ident.{ident_of, header_of}
use Rattle.thr_ident.specs.Shape.{shape_of}
use Rattle.thr_setup.specs.Setup.{Contents, setup_of}
use Rattle.thr_frame.specs.Rebuilt.{Pair}
use Rattle.thr_frame.specs.Step.{frames_from, state_after, step}
use Rattle.src_index.specs.Index.{Index}
use Rattle.src_index.specs.Judge.{Judged}
use Rattle.src_index.specs.Track.{frames_of}
use Rattle.y4m_io.specs.Pictures.{samples_of, IsPictureOf}
use Rattle.y4m_io.specs.Crop.{crop_of}
use Rattle.y4m_io.specs.Y4m.{frame_text}
use Rattle.cut_export.specs.declared.film.Film.{Film}

-- a fact of the packets that judging finds in an input, where the inputs are told
abbrev pub ToldTrack : Meaning → ℕ → (List (List ℕ) → Type 0) → Type 0
ToldTrack m id P = Told m id (λ bytes. (packets : List (List ℕ)) → Judged bytes (Ok packets) → P packets)

-- a film is made for the pictures of the source of that index
pub record IsFilmOf (index : Index) (film : Film) : Type 0 where
  pub header : ident_of index.ident ≡ Ok (header_of film.ident)
  pub tables : setup_of index.setup ≡ Ok film.decoder.setup
  pub shape : film.decoder.shape ≡ shape_of (header_of film.ident)
  pub picture : IsPictureOf film.ident.picw film.ident.pich film.ident.pf (samples_of film.picture)

-- a film is for the same stream as before
pub record Stays (old new : Film) : Type 0 where
  pub ident : new.ident ≡ old.ident
  pub setup : new.decoder.setup ≡ old.decoder.setup
  pub shape : new.decoder.shape ≡ old.decoder.shape

-- the packet that was read is one step more, and its picture was taken over
pub record Shows (old new : Film) : Type 0 where
  pub pair : Pair
  pub steps : step old.decoder.setup old.decoder.shape old.decoder.state old.packet.items ≡ Ok pair
  pub state : new.decoder.state ≡ Some pair
  pub picture : samples_of new.picture ≡ crop_of old.ident pair.prev

-- of a stream with these headers n packets were decoded, which led to this state, and their pictures make this text
pub record IsFar (ident : Ident) (setup : Contents) (s : Shape) (packets : List (List ℕ)) (n : ℕ) (state : Option Pair) (text : List ℕ) : Type 0 where
  pub frames : List Frame
  pub behind : state_after setup s None (take n packets) ≡ Ok state
  pub decoded : frames_from setup s None (take n packets) ≡ Ok frames
  pub text_is : text ≡ flat_map frame_text (map (crop_of ident) frames)

-- the same of a film
abbrev pub FilmIsFar : Film → List (List ℕ) → ℕ → List ℕ → Type 0
FilmIsFar film packets n text = IsFar film.ident film.decoder.setup film.decoder.shape (frames_of packets) n film.decoder.state text
