-- What the walk through a plane does (own).
use Rattle.std.specs.Prelude.{ℕ, ◌≡◌, ◌≢◌, ◌<◌, ℤ, Bool, List, set, get_or, Option, None, IfSome, All, FitsSigned}
use Rattle.std.specs.Int.{w16}
use Rattle.vid_base.specs.declared.shape.Shape.{Shape}
use Rattle.vid_geom.specs.CodedOrder.{block_columns}
use Rattle.thr_dc.specs.Blocks.{Coded}
use Rattle.thr_dc.specs.declared.plane.Plane.{Plane}
use Rattle.thr_dc.specs.Frames.{ChangesDc, plane_of}

-- the blocks of a plane
abbrev pub blocks_of : Plane → List (List ℤ) → List (Option Coded)
blocks_of plane values = plane_of plane.geom.now plane.flags.now plane.kinds.now values plane.pli

-- a coded block's value has 16 bits
abbrev pub IsShort : Option Coded → Type 0
IsShort block = IfSome block (λ dc. FitsSigned w16 dc.value)

-- and none of another plane than this
pub record ChangesIn (s : Shape) (flags : List Bool) (kinds : List ℕ) (pli : ℕ) (old new : List (List ℤ)) : Type 0 where
  pub changes : ChangesDc flags old new
  pub others : (other : ℕ) → other < 3 → other ≢ pli → plane_of s flags kinds new other ≡ plane_of s flags kinds old other

-- one block of a plane, whose value had 16 bits, becomes this, and nothing else changes
pub record Replaces (plane : Plane) (place : ℕ) (block : Option Coded) (old new : List (List ℤ)) : Type 0 where
  pub blocks : blocks_of plane new ≡ set (blocks_of plane old) place block
  pub short : IsShort (get_or (blocks_of plane old) place None)
  pub rest : ChangesIn plane.geom.now plane.flags.now plane.kinds.now plane.pli old new

-- a plane becomes what f makes of it, and nothing else changes
pub record Rewrites (f : ℕ → List (Option Coded) → List (Option Coded)) (s : Shape) (flags : List Bool) (kinds : List ℕ) (pli : ℕ) (old new : List (List ℤ)) : Type 0 where
  pub blocks : plane_of s flags kinds new pli ≡ f (block_columns s pli) (plane_of s flags kinds old pli)
  pub short : All IsShort (plane_of s flags kinds old pli)
  pub rest : ChangesIn s flags kinds pli old new

-- each plane of a frame becomes what f makes of it, and nothing else changes
pub record RewritesAll (f : ℕ → List (Option Coded) → List (Option Coded)) (s : Shape) (flags : List Bool) (kinds : List ℕ) (old new : List (List ℤ)) : Type 0 where
  pub planes : (pli : ℕ) → pli < 3 → plane_of s flags kinds new pli ≡ f (block_columns s pli) (plane_of s flags kinds old pli)
  pub short : (pli : ℕ) → pli < 3 → All IsShort (plane_of s flags kinds old pli)
  pub changes : ChangesDc flags old new
