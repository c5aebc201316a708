-- A picture in a coded frame (own): it stands at the lower left, its last column is repeated to the right and then its top row upwards. n and m are a picture's columns and rows of a plane; x and y count columns and rows of the frame, y from the lowest.
use Rattle.std.specs.Prelude.{ℕ, ◌+◌, ◌-◌, ◌*◌, ◌/◌, ◌%◌, List, get_or, map, min, true}
use Rattle.std.specs.List.{range_with_len}
use Rattle.vid_plane.specs.Picture.{Picture}
use Rattle.vid_plane.specs.declared.frame.Frame.{Frame}
use Rattle.y4m_io.specs.Pictures.{Samples, chroma_columns, chroma_rows}

-- the sample of the picture that is nearest to that place
abbrev pub nearest_sample : ℕ → ℕ → List ℕ → ℕ → ℕ → ℕ
nearest_sample n m samples x y = get_or samples ((m - 1 - min y (m - 1)) * n + min x (n - 1)) 0

-- a plane of so many columns and rows
unfoldable pub padded_plane : ℕ → ℕ → ℕ → ℕ → List ℕ → Picture
padded_plane width height n m samples = record {
  width = width;
  height = height;
  samples = map (λ k. nearest_sample n m samples (k % width) (k / width)) (range_with_len 0 (width * height));
  sealed = true;
}

-- the picture in a frame of the size that one has
unfoldable pub pad_of : Samples → Frame → Frame
pad_of p f = record {
  y = padded_plane f.y.width f.y.height p.w p.h p.y;
  cb = padded_plane f.cb.width f.cb.height (chroma_columns p.w p.pf) (chroma_rows p.h p.pf) p.cb;
  cr = padded_plane f.cr.width f.cr.height (chroma_columns p.w p.pf) (chroma_rows p.h p.pf) p.cr;
}
