-- What a plane shows (Theora I, 2.1): x counts columns from the left and y counts rows from the lowest, which is row 0; v is a sample.
use Rattle.std.specs.Prelude.{◌≡◌, ℕ, ◌+◌, ◌*◌, ◌%◌, ◌<◌, ◌≤◌, Bool, true, false, List, [], ◌∷◌, get_or, set, length, map, replicate}
use Rattle.std.specs.List.{range_with_len}

-- its samples, row after row from the lowest and each from the left, and whether its border is filled
pub record Picture : Type 0 where
  pub width : ℕ
  pub height : ℕ
  pub samples : List ℕ
  pub sealed : Bool

-- the sample in column x of row y
unfoldable pub pixel : Picture → ℕ → ℕ → ℕ
pixel p x y = get_or p.samples (y * p.width + x) 0

-- n samples of row y, from column x on
unfoldable pub run_of : Picture → ℕ → ℕ → ℕ → List ℕ
run_of p x y n = map (λ k. pixel p (x + k) y) (range_with_len 0 n)

-- row y
abbrev pub row_of : Picture → ℕ → List ℕ
row_of p y = run_of p 0 y p.width

-- that sample changed
unfoldable pub with_pixel : Picture → ℕ → ℕ → ℕ → Picture
with_pixel p x y v = record p { samples = set p.samples (y * p.width + x) v; sealed = false }

-- samples of row y changed, one after another from column x on
unfoldable pub with_row : Picture → ℕ → ℕ → List ℕ → Picture
with_row p x y [] = p
with_row p x y (v ∷ vs) = with_row (with_pixel p x y v) (x + 1) y vs

-- runs of samples changed, each in the row above the one before it
unfoldable pub with_rows : Picture → ℕ → ℕ → List (List ℕ) → Picture
with_rows p x y [] = p
with_rows p x y (row ∷ rows) = with_rows (with_row p x y row) x (y + 1) rows

-- the same samples, sealed
unfoldable pub sealed_picture : Picture → Picture
sealed_picture p = record p { sealed = true }

-- samples of 0, sealed
unfoldable pub blank : ℕ → ℕ → Picture
blank width height = record { width = width; height = height; samples = replicate (width * height) 0; sealed = true }

-- sizes of a plane of a coded frame, and a sample at each place
pub record IsPicture (p : Picture) : Type 0 where
  pub wide : 0 < p.width
  pub high : 0 < p.height
  pub columns : p.width % 8 ≡ 0
  pub rows : p.height % 8 ≡ 0
  pub narrow : p.width ≤ 1048560
  pub short : p.height ≤ 1048560
  pub small : p.width * p.height ≤ 33554432
  pub whole : length p.samples ≡ p.width * p.height

-- planes of one size
pub record IsLike (p q : Picture) : Type 0 where
  pub same_width : p.width ≡ q.width
  pub same_height : p.height ≡ q.height
