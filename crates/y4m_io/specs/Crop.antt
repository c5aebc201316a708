-- The picture that lies in a decoded frame (Theora I, 2.2): x and y are the column and the row of the frame where it begins, counted from the left and from the lowest row.
use Rattle.std.specs.Prelude.{ℕ, zero, suc, ◌+◌, ◌/◌, ◌==◌, List, [], ◌++◌, if◌then◌else◌}
use Rattle.vid_base.specs.declared.shape.Shape.{Shape}
use Rattle.thr_ident.specs.declared.ident.Ident.{Ident}
use Rattle.vid_plane.specs.Picture.{Picture, run_of}
use Rattle.vid_plane.specs.declared.frame.Frame.{Frame}
use Rattle.y4m_io.specs.Pictures.{Samples, chroma_columns, chroma_rows}

-- n samples of each of m rows of a plane, from column x on; from the highest of the rows down to row y
unfoldable pub rows_down : Picture → ℕ → ℕ → ℕ → ℕ → List ℕ
rows_down p x y n zero = []
rows_down p x y n (suc m) = run_of p x (y + m) n ++ rows_down p x y n m

-- the column and the row where chroma begins: on an axis on which it is subsampled, halved downwards
abbrev pub chroma_left : ℕ → ℕ → ℕ
chroma_left x pf = if pf == 3 then x else x / 2

abbrev pub chroma_lower : ℕ → ℕ → ℕ
chroma_lower y pf = if pf == 0 then y / 2 else y

-- the picture's part of a plane of chroma
abbrev pub chroma_of : Ident → Picture → List ℕ
chroma_of i p = rows_down p (chroma_left i.picx i.pf) (chroma_lower i.picy i.pf) (chroma_columns i.picw i.pf) (chroma_rows i.pich i.pf)

-- the picture that a header says to lie in a frame
unfoldable pub crop_of : Ident → Frame → Samples
crop_of i f = record {
  w = i.picw;
  h = i.pich;
  pf = i.pf;
  y = rows_down f.y i.picx i.picy i.picw i.pich;
  cb = chroma_of i f.cb;
  cr = chroma_of i f.cr;
}

-- the shape of the frames of a stream with this header
abbrev pub shape_of : Ident → Shape
shape_of i = record { fmbw = i.fmbw; fmbh = i.fmbh; pf = i.pf; wide = i.coded.0; high = i.coded.1; small = i.small; format = i.format }
