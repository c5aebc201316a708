-- What the packet of a frame says (Theora I, 7). A list of blocks has an entry for each block in coded order; s is the frame's shape.
use Rattle.std.specs.Prelude.{ℕ, ◌≡◌, ◌<◌, ◌≤◌, ◌==◌, ◌||◌, ℤ, Bool, true, List, map, length, replicate, All, if◌then◌else◌}
use Rattle.vid_base.specs.declared.shape.Shape.{Shape}
use Rattle.vid_geom.specs.CodedOrder.{order_of}
use Rattle.vid_geom.specs.MacroBlocks.{macro_blocks}
use Rattle.vid_geom.specs.ByBlock.{by_block}
use Rattle.thr_modes.specs.Vectors.{Offset, offset_of}
use Rattle.thr_frame.specs.declared.coded.Coded.{Coded}

-- whether the frame is intra; QIS; the coded flags, the vectors, the places in QIS, the coefficients in zigzag order with their
-- DC values, and the counts of the blocks; and the modes of the macro blocks
pub record CodedFrame : Type 0 where
  pub intra : Bool
  pub qis : List ℕ
  pub flags : List Bool
  pub modes : List ℕ
  pub vectors : List Offset
  pub places : List ℕ
  pub values : List (List ℤ)
  pub counts : List ℕ

-- what the code's value says
unfoldable pub frame_of : Coded → CodedFrame
frame_of c = record {
  intra = c.intra;
  qis = c.qis.items;
  flags = c.flags.items;
  modes = c.modes.items;
  vectors = map offset_of c.vectors.items;
  places = c.places.items;
  values = c.coeffs.values.items;
  counts = c.coeffs.counts.items;
}

-- the modes by number (Theora I, 7.4)
abbrev pub intra_mode : ℕ
intra_mode = 1

-- whether a mode predicts from the golden frame: INTER_GOLDEN_NOMV and INTER_GOLDEN_MV
abbrev pub is_golden : ℕ → Bool
is_golden mode = mode == 5 || mode == 6

-- what a mode predicts from: 0 nothing, 1 the previous frame, 2 the golden frame
abbrev pub kind_of : ℕ → ℕ
kind_of mode = if mode == intra_mode then 0 else if is_golden mode then 2 else 1

-- the mode of each block
abbrev pub block_modes : Shape → List ℕ → List ℕ
block_modes s modes = by_block s 0 modes

-- the reference kind of each block
abbrev pub kinds_of : Shape → List ℕ → List ℕ
kinds_of s modes = map kind_of (block_modes s modes)

-- its lists have the lengths of a frame of that shape
pub record IsSized (s : Shape) (f : CodedFrame) : Type 0 where
  pub flags : length f.flags ≡ length (order_of s)
  pub modes : length f.modes ≡ length (macro_blocks s)
  pub vectors : length f.vectors ≡ length (order_of s)
  pub places : length f.places ≡ length (order_of s)
  pub values : length f.values ≡ length (order_of s)
  pub counts : length f.counts ≡ length (order_of s)

-- a frame of that shape can be rebuilt from it
pub record IsCodedFrame (s : Shape) (f : CodedFrame) : Type 0 where
  pub sized : IsSized s f
  pub some : 0 < length f.qis
  pub few : length f.qis ≤ 3
  pub small : All (λ qi. qi < 64) f.qis
  pub modes : All (λ mode. mode < 8) f.modes
  pub places : All (λ place. place < length f.qis) f.places
  pub all_coded : f.intra ≡ true → f.flags ≡ replicate (length (order_of s)) true
  pub all_intra : f.intra ≡ true → f.modes ≡ replicate (length (macro_blocks s)) intra_mode
