-- (private) A packet before its frame is rebuilt, and the lists that it is made with (own).
use Rattle.std.specs.Prelude.{◌≡◌, ℕ, ◌<◌, ◌^◌, Bool, true, not, List, [], ◌∷◌, Option, Some, None, Ok, length, map, replicate, if◌then◌else◌}
use Rattle.vid_base.specs.declared.shape.Shape.{Shape}
use Rattle.vid_geom.specs.CodedOrder.{order_of}
use Rattle.vid_geom.specs.MacroBlocks.{macro_blocks}
use Rattle.vid_plane.specs.declared.frame.Frame.{Frame}
use Rattle.thr_setup.specs.Setup.{Contents}
use Rattle.thr_modes.specs.Vectors.{Offset, offset_of, still}
use Rattle.thr_frame.specs.declared.coded.Coded.{Coded}
use Rattle.thr_frame.specs.CodedFrame.{CodedFrame, intra_mode}
use Rattle.thr_frame.specs.Parsed.{coded_in, needs_frame}
use Rattle.thr_frame.specs.Rebuilt.{Pair}
use Rattle.thr_frame.specs.Step.{is_key}
use Rattle.enc_near.specs.Near.{IsNearFrame}

-- a packet says a frame that is near its target; all blocks are coded
pub record IsDraft (setup : Contents) (s : Shape) (refs : Pair) (target : Frame) (key : Bool) (qi : ℕ) (mbmodes : List ℕ) (mvects : List Offset) (packet : List ℕ) : Type 0 where
  pub coded : CodedFrame
  pub says : coded_in setup s packet ≡ Ok coded
  pub intra : coded.intra ≡ key
  pub one : coded.qis ≡ qi ∷ []
  pub flags : coded.flags ≡ replicate (length (order_of s)) true
  pub modes : coded.modes ≡ mbmodes
  pub vectors : coded.vectors ≡ mvects
  pub near : IsNearFrame setup s refs target coded
  pub needs : needs_frame packet ≡ not key
  pub is : is_key packet ≡ key
  pub some : 0 < length packet
  pub few : length packet < 2 ^ 30

-- lists of an intra frame, of whose coefficients nothing is known
pub record IsWhole (s : Shape) (c : Coded) : Type 0 where
  pub flags : c.flags.items ≡ replicate (length (order_of s)) true
  pub modes : c.modes.items ≡ replicate (length (macro_blocks s)) intra_mode
  pub vectors : map offset_of c.vectors.items ≡ replicate (length (order_of s)) still
  pub values : length c.coeffs.values.items ≡ length (order_of s)
  pub counts : length c.coeffs.counts.items ≡ length (order_of s)

-- the last target, if there was one
abbrev pub target_of : Bool → Frame → Option Frame
target_of started target = if started then Some target else None
