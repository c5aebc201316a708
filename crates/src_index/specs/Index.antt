-- The index of a judged file: what is kept of it in place of its bytes (own).
use Rattle.std.specs.Prelude.{ℕ, Bool, false, List, IfOk, length, map, get_or}
use Rattle.thr_ident.specs.Ident.{ident_of}
use Rattle.ogg_link.specs.Spacing.{AreSpaced}

-- a page of the track: the byte at which it begins, its checksum field and its lacing values
pub record PageMark : Type 0 where
  pub at : ℕ
  pub checksum : ℕ
  pub lacing : List ℕ

-- where a packet begins: with a segment of a page of the track; both count from 0
pub record Place : Type 0 where
  pub page : ℕ
  pub segment : ℕ

-- a frame: where its packet begins, whether it is a key frame, and its first quantiser index
pub record Frame : Type 0 where
  pub place : Place
  pub key : Bool
  pub quantiser : ℕ

-- the index: the id of the input, the three header packets, the pages of the track, the frames, and whether no false page
-- stands in the file
pub record Index : Type 0 where
  pub input : ℕ
  pub ident : List ℕ
  pub comment : List ℕ
  pub setup : List ℕ
  pub pages : List PageMark
  pub frames : List Frame
  pub seekable : Bool

-- how many frames there are
abbrev pub frame_count : Index → ℕ
frame_count index = length index.frames

-- the key marks of the frames in order
abbrev pub keys_of : Index → List Bool
keys_of index = map (λ frame. frame.key) index.frames

-- the quantisers of the frames in order
abbrev pub quantisers_of : Index → List ℕ
quantisers_of index = map (λ frame. frame.quantiser) index.frames

-- the key mark of a frame
abbrev pub key_at : Index → ℕ → Bool
key_at index n = get_or (keys_of index) n false

-- the quantiser of a frame
abbrev pub quantiser_at : Index → ℕ → ℕ
quantiser_at index n = get_or (quantisers_of index) n 0

-- its key frames are spaced as its identification header says
abbrev pub HasSpacing : Index → Type 0
HasSpacing index = IfOk (ident_of index.ident) (λ header. AreSpaced header.shift (keys_of index))

-- how many links there are
abbrev pub link_count : Index → ℕ
link_count index = 1
