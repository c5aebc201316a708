-- Frames of three planes, and the frames that a decoder keeps (Theora I, 2.1 and 7.1): f is a frame, pli is 0 for Y, 1 for Cb and 2 for Cr.
use Rattle.std.specs.Prelude.{◌≡◌, ℕ, Bool, ◌==◌, if◌then◌else◌}
use Rattle.vid_base.specs.declared.shape.Shape.{Shape}
use Rattle.vid_base.specs.Sizes.{plane_width, plane_height}
use Rattle.vid_plane.specs.Picture.{Picture, sealed_picture, blank}
use Rattle.vid_plane.specs.declared.frame.Frame.{Frame}

-- the sizes of that plane
pub record IsPlaneOf (s : Shape) (pli : ℕ) (p : Picture) : Type 0 where
  pub width : p.width ≡ plane_width s.fmbw s.pf pli
  pub height : p.height ≡ plane_height s.fmbh s.pf pli

-- the sizes of all three
pub record IsFrameOf (s : Shape) (f : Frame) : Type 0 where
  pub y : IsPlaneOf s 0 f.y
  pub cb : IsPlaneOf s 1 f.cb
  pub cr : IsPlaneOf s 2 f.cr

abbrev pub plane_of : Frame → ℕ → Picture
plane_of f pli = if pli == 0 then f.y else if pli == 1 then f.cb else f.cr

-- that plane changed
abbrev pub with_plane : Frame → ℕ → Picture → Frame
with_plane f pli p = if pli == 0 then record f { y = p } else if pli == 1 then record f { cb = p } else record f { cr = p }

-- the same samples, with each plane sealed
abbrev pub sealed_frame : Frame → Frame
sealed_frame f = record { y = sealed_picture f.y; cb = sealed_picture f.cb; cr = sealed_picture f.cr }

-- all samples 0, and sealed
unfoldable pub blank_plane : Shape → ℕ → Picture
blank_plane s pli = blank (plane_width s.fmbw s.pf pli) (plane_height s.fmbh s.pf pli)

abbrev pub blank_frame : Shape → Frame
blank_frame s = record { y = blank_plane s 0; cb = blank_plane s 1; cr = blank_plane s 2 }

-- The frames of a decoder: the one that is painted next, the previous and the golden one. The three that it keeps are now, prev and spare; golden is prev
-- or spare.
pub record References : Type 0 where
  pub now : Frame
  pub prev : Frame
  pub golden : Frame
  pub spare : Frame
  pub started : Bool

-- all of them have the sizes of that shape
pub record AreOf (s : Shape) (r : References) : Type 0 where
  pub now : IsFrameOf s r.now
  pub prev : IsFrameOf s r.prev
  pub golden : IsFrameOf s r.golden
  pub spare : IsFrameOf s r.spare
