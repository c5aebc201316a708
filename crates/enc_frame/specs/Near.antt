-- A packet that is near its target (own). s is the frame's shape, setup what the setup header says, state the frames that were decoded
-- before, target the frame that is to be shown, qi the quantiser index.
use Rattle.std.specs.Prelude.{◌≡◌, ℕ, false, List, [], ◌∷◌, Option, Some, Ok, is_some}
use Rattle.vid_base.specs.declared.shape.Shape.{Shape}
use Rattle.vid_plane.specs.declared.frame.Frame.{Frame}
use Rattle.thr_setup.specs.Setup.{Contents}
use Rattle.thr_frame.specs.CodedFrame.{CodedFrame}
use Rattle.thr_frame.specs.Parsed.{frame_in}
use Rattle.thr_frame.specs.Rebuilt.{Pair}
use Rattle.thr_frame.specs.Step.{pair_of}
use Rattle.enc_search.specs.Searched.{IsSearched}
use Rattle.enc_near.specs.Near.{IsNearFrame, prediction}

-- the packet has bytes and no fault, one quantiser index, and nearest coefficients; the luma of an inter frame is predicted no worse than
-- by any candidate
pub record Near (setup : Contents) (s : Shape) (state : Option Pair) (target : Frame) (qi : ℕ) (packet : List ℕ) : Type 0 where
  pub coded : CodedFrame
  pub says : frame_in setup s (is_some state) packet ≡ Ok (Some coded)
  pub one : coded.qis ≡ qi ∷ []
  pub near : IsNearFrame setup s (pair_of s state) target coded
  pub searched : coded.intra ≡ false → IsSearched s (pair_of s state) target (prediction s (pair_of s state) coded)
