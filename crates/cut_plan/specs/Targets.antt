-- The pictures that frames of sources are to show (own).
use Rattle.std.specs.Prelude.{ℕ, Bool, List}
use Rattle.vid_base.specs.declared.shape.Shape.{Shape}
use Rattle.vid_desk.specs.Meaning.{File}
use Rattle.vid_plane.specs.declared.frame.Frame.{Frame}

-- a number above every id of an input that is read, the frames that are covered, for each of them its shape, and the picture to
-- show, by the inputs; and whether these pictures were made from such inputs
pub record TargetMeaning : Type 0 where
  pub above : ℕ
  pub covers : ℕ → ℕ → Bool
  pub shape : ℕ → ℕ → Shape
  pub picture : List File → ℕ → ℕ → Frame
  pub made : List File → Bool
