-- (private) What an import codes and writes with, and how far it has come (own). n is the number of the next frame.
use Rattle.std.specs.Prelude.{◌≡◌, ℕ, ◌+◌, ◌-◌, ◌%◌, ◌^◌, ◌<◌, ◌≤◌, List, [], ◌∷◌, ◌++◌, length, Option, Some, None, true, false, is_some, ◌⊎◌}
use Rattle.vid_desk.specs.Meaning.{Meaning, Told}
use Rattle.vid_plane.specs.Frames.{IsFrameOf}
use Rattle.ogg_mux.specs.Muxing.{rest_of}
use Rattle.thr_setup.specs.Import.{imported}
use Rattle.y4m_io.specs.Pictures.{Samples}
use Rattle.y4m_io.specs.Progress.{Follow, Progress}
use Rattle.y4m_io.specs.Reading.{Departure, GoesOn}
use Rattle.cut_desk.specs.Growing.{Grows}
use Rattle.cut_desk.specs.Outputs.{Makes, MakesNone}
use Rattle.cut_import.specs.declared.importer.Importer.{Importer}
use Rattle.cut_import.specs.Imported.{AreCodes, Codes}

-- an importer is made for streams with the setup of imports
pub record IsImporter (i : Importer) : Type 0 where
  pub tables : i.encoder.setup ≡ imported
  pub target : IsFrameOf i.encoder.shape i.target
  pub low : i.qi < 64
  pub some : 0 < i.keys
  pub few : i.keys ≤ 64

-- n frames were coded and given to the muxer
pub record IsAt (n : ℕ) (i : Importer) : Type 0 where
  pub started : 0 < n → is_some i.encoder.state ≡ true
  pub shift : i.mux.shift ≡ 6
  pub unfinished : i.mux.finished ≡ false
  pub frames : i.mux.frames ≡ n
  pub gap : 0 < n → i.mux.frames - i.mux.key ≡ (n - 1) % i.keys + 1

-- an importer is for the same stream as before
pub record Stays (old new : Importer) : Type 0 where
  pub shape : new.encoder.shape ≡ old.encoder.shape
  pub qi : new.qi ≡ old.qi
  pub keys : new.keys ≡ old.keys

-- a packet of an importer is that of frame n, and leads to the state that it has then
pub record HasCoded (old new : Importer) (n : ℕ) (picture : Samples) (packet : List ℕ) : Type 0 where
  pub codes : Codes old.encoder.shape old.qi old.keys old.encoder.state n picture packet
  pub state : new.encoder.state ≡ Some codes.next

-- a first part of a text came to an output
pub record AddsSome (old new : Meaning) (id : ℕ) (text : List ℕ) : Type 0 where
  pub came : List ℕ
  pub rest : List ℕ
  pub part : text ≡ came ++ rest
  pub grows : Grows old new id came

-- frame n was coded, and pages came to an output
pub record AddsFrame (old new : Meaning) (id : ℕ) (i j : Importer) (n : ℕ) (picture : Samples) : Type 0 where
  pub packet : List ℕ
  pub coded : HasCoded i j n picture packet
  pub came : List ℕ
  pub grows : Grows old new id came
  pub pages : (more : List (List ℕ)) → came ++ rest_of j.mux more ≡ rest_of i.mux (packet ∷ more)

-- frame n was coded, and a first part of its pages came
pub record BreaksFrame (old new : Meaning) (id : ℕ) (i : Importer) (n : ℕ) (picture : Samples) : Type 0 where
  pub packet : List ℕ
  pub codes : Codes i.encoder.shape i.qi i.keys i.encoder.state n picture packet
  pub some : AddsSome old new id (rest_of i.mux (packet ∷ []))

-- that, or nothing came
abbrev pub AddsPart : Meaning → Meaning → ℕ → Importer → ℕ → Samples → Type 0
AddsPart old new id i n picture = Grows old new id [] ⊎ BreaksFrame old new id i n picture

-- the packets of an importer for these pictures
abbrev pub CodesAll : Importer → List Samples → List (List ℕ) → Type 0
CodesAll i pictures packets = AreCodes i.encoder.shape i.qi i.keys i.encoder.state 0 pictures packets

-- all pictures that follow in an input were coded, and their pages came
pub record AddsFilm (old new : Meaning) (id : ℕ) (i : Importer) (p : Progress) (count : ℕ) : Type 0 where
  pub pictures : List Samples
  pub packets : List (List ℕ)
  pub codes : CodesAll i pictures packets
  pub grows : Grows old new id (rest_of i.mux packets)
  pub count_is : count ≡ length pictures
  pub few : length pictures ≤ 2 ^ 24
  pub all : Told old p.input (λ bytes. Follow p bytes pictures None)

-- these pictures follow first: whatever goes on behind them follows them
pub record FollowFirst (bytes : List ℕ) (p : Progress) (pictures : List Samples) : Type 0 where
  pub at : ℕ
  pub goes_on : (more : List Samples) (bad : Option Departure) → GoesOn p.head (length pictures) at bytes more bad → Follow p bytes (pictures ++ more) bad

-- some pictures that follow first were coded, and a first part of their pages came
pub record AddsFirst (old new : Meaning) (id : ℕ) (i : Importer) (p : Progress) : Type 0 where
  pub pictures : List Samples
  pub packets : List (List ℕ)
  pub codes : CodesAll i pictures packets
  pub some : AddsSome old new id (rest_of i.mux packets)
  pub first : Told old p.input (λ bytes. FollowFirst bytes p pictures)

-- all pictures that follow in an input were coded, and an output was created that holds their pages
pub record WritesFilm (old new : Meaning) (name : List ℕ) (i : Importer) (p : Progress) (count : ℕ) : Type 0 where
  pub pictures : List Samples
  pub packets : List (List ℕ)
  pub codes : CodesAll i pictures packets
  pub makes : Makes old new name (rest_of i.mux packets)
  pub count_is : count ≡ length pictures
  pub few : length pictures ≤ 2 ^ 24
  pub all : Told old p.input (λ bytes. Follow p bytes pictures None)

-- some pictures that follow first were coded, and an output was created that holds a first part of their pages
pub record WritesFirst (old new : Meaning) (name : List ℕ) (i : Importer) (p : Progress) : Type 0 where
  pub pictures : List Samples
  pub packets : List (List ℕ)
  pub codes : CodesAll i pictures packets
  pub came : List ℕ
  pub rest : List ℕ
  pub part : rest_of i.mux packets ≡ came ++ rest
  pub makes : Makes old new name came
  pub first : Told old p.input (λ bytes. FollowFirst bytes p pictures)

-- that, or no output was created
abbrev pub LeavesFirst : Meaning → Meaning → List ℕ → Importer → Progress → Type 0
LeavesFirst old new name i p = MakesNone old new name ⊎ WritesFirst old new name i p
