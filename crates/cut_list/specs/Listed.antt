-- What holds of the slices of every edit list (own): lines rise, each slice has a frame, and numbers are in their limits.
use Rattle.std.specs.Prelude.{ℕ, ◌+◌, ◌<◌, ◌≤◌, ⊤, [], ◌∷◌}
use Rattle.cut_list.specs.Slices.{Slice, Slices}

-- a slice that a line can say
pub record IsSlice (slice : Slice) : Type 0 where
  pub line : slice.line ≤ 10000
  pub src : slice.src ≤ 2147483647
  pub past : slice.past ≤ 2147483647
  pub ordered : slice.first < slice.past

-- slices of lines that rise, from line n on
abbrev pub AreSlices : ℕ → Slices → Type 0
AreSlices n [] = ⊤
AreSlices n (slice ∷ slices) = (n ≤ slice.line) × IsSlice slice × AreSlices (slice.line + 1) slices
