-- Sizes of a coded frame's planes; fmbw and fmbh count macro blocks, pf is the pixel format, pli the plane (Theora I, 2.1 and 4.4).
use Rattle.std.specs.Prelude.{ℕ, ◌≢◌, ◌*◌, ◌<◌, ◌≤◌, ◌==◌, ◌||◌, if◌then◌else◌}

-- the most macro blocks of a frame (own)
abbrev pub most_macro_blocks : ℕ
most_macro_blocks = 131072

-- sizes and a format that a frame can have
abbrev pub IsShape : ℕ → ℕ → ℕ → Type 0
IsShape fmbw fmbh pf = (0 < fmbw) × (0 < fmbh) × (fmbw * fmbh ≤ most_macro_blocks) × (pf ≤ 3) × (pf ≢ 1)

-- samples in a row: chroma is half as wide but in 4:4:4
abbrev pub plane_width : ℕ → ℕ → ℕ → ℕ
plane_width fmbw pf pli = if pli == 0 || pf == 3 then 16 * fmbw else 8 * fmbw

-- rows of samples: chroma is half as high in 4:2:0 alone
abbrev pub plane_height : ℕ → ℕ → ℕ → ℕ
plane_height fmbh pf pli = if pli == 0 then 16 * fmbh else if pf == 0 then 8 * fmbh else 16 * fmbh
