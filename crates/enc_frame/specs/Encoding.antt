-- An encoder (own): what its packets are made for, the state of a decoder that took them, and the last frame that was to be shown.
use Rattle.std.specs.Prelude.{◌≡◌, ℕ, List, Option, Some, Ok, length, drop}
use Rattle.vid_base.specs.declared.shape.Shape.{Shape}
use Rattle.vid_plane.specs.declared.frame.Frame.{Frame}
use Rattle.thr_setup.specs.Setup.{Contents}
use Rattle.thr_frame.specs.Rebuilt.{Pair}
use Rattle.thr_frame.specs.Step.{step}

-- what a clause sees of an encoder
pub record Encoding : Type 0 where
  pub setup : Contents
  pub shape : Shape
  pub state : Option Pair
  pub target : Option Frame

-- what was appended
abbrev pub added : List ℕ → List ℕ → List ℕ
added old new = drop (length old) new

-- a packet leads from one state to the next
pub record Leads (setup : Contents) (s : Shape) (state : Option Pair) (packet : List ℕ) (next : Option Pair) : Type 0 where
  pub pair : Pair
  pub steps : step setup s state packet ≡ Ok pair
  pub becomes : next ≡ Some pair
