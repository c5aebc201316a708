-- How far blocks have come, as lists of the parts of their progress (own).
use Rattle.std.specs.Prelude.{ℕ, ℤ, Bool, List, [], ◌∷◌, map}
use Rattle.vid_base.specs.declared.shape.Shape.{Shape}
use Rattle.vid_geom.specs.CodedOrder.{order_of}
use Rattle.thr_token.specs.Coefficients.{Progress, is_luma}

-- the progress of one block
abbrev pub progress : Bool → ℕ → List ℤ → ℕ → Progress
progress luma place values count = record { luma = luma; place = place; values = values; count = count }

-- that of blocks, from whether they are of luma, their places, values and counts
unfoldable pub standing : List Bool → List ℕ → List (List ℤ) → List ℕ → List Progress
standing [] places values counts = []
standing (luma ∷ lumas) [] values counts = []
standing (luma ∷ lumas) (place ∷ places) [] counts = []
standing (luma ∷ lumas) (place ∷ places) (block ∷ values) [] = []
standing (luma ∷ lumas) (place ∷ places) (block ∷ values) (count ∷ counts) = progress luma place block count ∷ standing lumas places values counts

-- which blocks of a frame are of luma
abbrev pub lumas_of : Shape → List Bool
lumas_of s = map is_luma (order_of s)
