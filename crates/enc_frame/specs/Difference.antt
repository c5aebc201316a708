-- How far two frames are apart: the greatest of the differences of their samples, and the sum of all (own).
use Rattle.std.specs.Prelude.{ℕ, List, [], ◌∷◌, ◌++◌, ◌+◌, max}
use Rattle.std.specs.Int.{abs_diff}
use Rattle.vid_plane.specs.declared.frame.Frame.{Frame}

-- the samples of the three planes, Y, then Cb, then Cr: row after row from the lowest, each from the left
unfoldable pub samples_of : Frame → List ℕ
samples_of f = f.y.samples ++ f.cb.samples ++ f.cr.samples

-- how far the samples at each place are apart
unfoldable pub differences : List ℕ → List ℕ → List ℕ
differences [] ys = []
differences (a ∷ xs) [] = []
differences (a ∷ xs) (b ∷ ys) = abs_diff a b ∷ differences xs ys

-- the greatest of numbers; of none it is 0
unfoldable pub greatest : List ℕ → ℕ
greatest [] = 0
greatest (n ∷ ns) = max n (greatest ns)

-- the sum of numbers
unfoldable pub total : List ℕ → ℕ
total [] = 0
total (n ∷ ns) = n + total ns
