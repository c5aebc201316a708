-- Pictures for tests (own): slopes that move by one row and two columns from frame to frame. x and y count columns and rows of a plane from the left and the top, n is the frame, and start says where the first begins.
use Rattle.std.specs.Prelude.{ℕ, ◌+◌, ◌-◌, ◌*◌, ◌/◌, ◌%◌, List, map, nat_lt, if◌then◌else◌}
use Rattle.std.specs.List.{range_with_len}
use Rattle.y4m_io.specs.declared.head.Head.{Head}
use Rattle.y4m_io.specs.Pictures.{Samples, chroma_columns, chroma_rows}

-- up from 0 to 63, and down again
abbrev pub tri_of : ℕ → ℕ
tri_of m = if nat_lt m 64 then m else 127 - m

unfoldable pub tri : ℕ → ℕ
tri v = tri_of (v % 128)

-- how far the first frame lies to the left and above
abbrev pub left_by : ℕ → ℕ
left_by start = start % 128

abbrev pub up_by : ℕ → ℕ
up_by start = start / 128 % 128

abbrev pub luma_at : ℕ → ℕ → ℕ → ℕ → ℕ
luma_at start n x y = 32 + tri (x + 2 * n + left_by start) + tri (y + n + up_by start)

abbrev pub cb_at : ℕ → ℕ → ℕ → ℕ
cb_at start n x = 96 + tri (x + n + left_by start)

abbrev pub cr_at : ℕ → ℕ → ℕ → ℕ
cr_at start n y = 160 - tri (y + n + up_by start)

-- the samples of a plane of so many columns
abbrev pub by_places : (ℕ → ℕ → ℕ) → ℕ → ℕ → List ℕ
by_places f columns size = map (λ k. f (k % columns) (k / columns)) (range_with_len 0 size)

-- frame n of w columns and h rows in 4:2:0
unfoldable pub generated : ℕ → ℕ → ℕ → ℕ → Samples
generated start n w h = record {
  w = w;
  h = h;
  pf = 0;
  y = by_places (luma_at start n) w (h * w);
  cb = by_places (λ x y. cb_at start n x) (chroma_columns w 0) (chroma_rows h 0 * chroma_columns w 0);
  cr = by_places (λ x y. cr_at start n y) (chroma_columns w 0) (chroma_rows h 0 * chroma_columns w 0);
}

-- the head of these pictures: 25 in a second, square samples
abbrev pub generated_head : ℕ → ℕ → Head
generated_head w h = record { w = w; h = h; frn = 25; frd = 1; parn = 1; pard = 1; pf = 0 }

-- so many frames
abbrev pub generated_frames : ℕ → ℕ → ℕ → ℕ → List Samples
generated_frames start frames w h = map (λ n. generated start n w h) (range_with_len 0 frames)
