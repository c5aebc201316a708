-- (private) How a plane stands in its buffer: w columns and h rows in the middle, 16 more on each side; X and Y count from the buffer's corner.
use Rattle.std.specs.Prelude.{◌≡◌, ℕ, ◌+◌, ◌-◌, ◌*◌, ◌/◌, ◌%◌, ◌<◌, ◌≤◌, Bool, true, List, [], ◌∷◌, get_or, set, length, map, min}
use Rattle.std.specs.List.{range_with_len}
use Rattle.vid_plane.specs.Picture.{Picture}

-- the place of column X of row Y
abbrev pub cell : ℕ → ℕ → ℕ → ℕ
cell w X Y = Y * (w + 32) + X

-- the samples in the middle
unfoldable pub inner : ℕ → ℕ → List ℕ → List ℕ
inner w h buffer = map (λ k. get_or buffer (cell w (k % w + 16) (k / w + 16)) 0) (range_with_len 0 (w * h))

-- what a plane with that buffer shows
abbrev pub shown : ℕ → ℕ → List ℕ → Bool → Picture
shown w h buffer sealed = record { width = w; height = h; samples = inner w h buffer; sealed = sealed }

-- the buffer with samples written one after another from a place on
unfoldable pub written : List ℕ → ℕ → List ℕ → List ℕ
written buffer at [] = buffer
written buffer at (v ∷ vs) = written (set buffer at v) (at + 1) vs

-- the column or row in the middle that is nearest to one of the buffer
abbrev pub nearest : ℕ → ℕ → ℕ
nearest at size = min (at - 16) (size - 1)

-- rows of the middle are extended to both sides
unfoldable pub IsWidened : ℕ → ℕ → List ℕ → List ℕ → Type 0
IsWidened w h old new = (X Y : ℕ) → X < w + 32 → Y < h → get_or new (cell w X (Y + 16)) 0 ≡ get_or old (cell w (nearest X w + 16) (Y + 16)) 0

-- all rows of the buffer are those of the middle that are nearest
unfoldable pub IsStretched : ℕ → ℕ → List ℕ → List ℕ → Type 0
IsStretched w h old new = (X Y : ℕ) → X < w + 32 → Y < h + 32 → get_or new (cell w X Y) 0 ≡ get_or old (cell w X (nearest Y h + 16)) 0

-- each sample of the buffer is the nearest of the middle
unfoldable pub IsFramed : ℕ → ℕ → List ℕ → Type 0
IsFramed w h buffer = (X Y : ℕ) → X < w + 32 → Y < h + 32 → get_or buffer (cell w X Y) 0 ≡ get_or buffer (cell w (nearest X w + 16) (nearest Y h + 16)) 0

-- what is true of every plane
pub record IsPlane (w h : ℕ) (buffer : List ℕ) (sealed : Bool) : Type 0 where
  pub size : length buffer ≡ (w + 32) * (h + 32)
  pub wide : 0 < w
  pub high : 0 < h
  pub columns : w % 8 ≡ 0
  pub rows : h % 8 ≡ 0
  pub narrow : w ≤ 1048560
  pub short : h ≤ 1048560
  pub small : w * h ≤ 33554432
  pub framed : sealed ≡ true → IsFramed w h buffer
