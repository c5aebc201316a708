-- Pictures of three planes (own): w columns and h rows of luma; pf is the pixel format, 0 for 4:2:0, 2 for 4:2:2 and 3 for 4:4:4.
use Rattle.std.specs.Prelude.{◌≡◌, ◌≢◌, ℕ, ◌+◌, ◌*◌, ◌/◌, ◌<◌, ◌≤◌, ◌==◌, List, length, replicate, if◌then◌else◌}
use Rattle.y4m_io.specs.declared.picture.Picture.{Picture}

-- its samples: planes Y, Cb and Cr, row after row from the top and each from the left
pub record Samples : Type 0 where
  pub w : ℕ
  pub h : ℕ
  pub pf : ℕ
  pub y : List ℕ
  pub cb : List ℕ
  pub cr : List ℕ

-- what a clause sees of a picture
abbrev pub samples_of : Picture → Samples
samples_of p = record { w = p.w; h = p.h; pf = p.pf; y = p.y.items; cb = p.cb.items; cr = p.cr.items }

-- columns of chroma
abbrev pub chroma_columns : ℕ → ℕ → ℕ
chroma_columns w pf = if pf == 3 then w else (w + 1) / 2

-- rows of chroma
abbrev pub chroma_rows : ℕ → ℕ → ℕ
chroma_rows h pf = if pf == 0 then (h + 1) / 2 else h

-- sizes and a format of which there is a picture: it lies in a coded frame of at most 131,072 macro blocks
pub record IsSize (w h pf : ℕ) : Type 0 where
  pub wide : 0 < w
  pub high : 0 < h
  pub small : ((w + 15) / 16) * ((h + 15) / 16) ≤ 131072
  pub format : (pf ≤ 3) × (pf ≢ 1)

-- a sample at each place of a picture of that size
pub record IsPictureOf (w h pf : ℕ) (p : Samples) : Type 0 where
  pub width : p.w ≡ w
  pub height : p.h ≡ h
  pub format : p.pf ≡ pf
  pub y : length p.y ≡ h * w
  pub cb : length p.cb ≡ chroma_rows h pf * chroma_columns w pf
  pub cr : length p.cr ≡ chroma_rows h pf * chroma_columns w pf

-- a picture of some size, with a sample at each of its places
pub record IsPicture (p : Samples) : Type 0 where
  pub size : IsSize p.w p.h p.pf
  pub whole : IsPictureOf p.w p.h p.pf p

-- samples of 0
abbrev pub blank_samples : ℕ → ℕ → ℕ → Samples
blank_samples w h pf = record {
  w = w;
  h = h;
  pf = pf;
  y = replicate (h * w) 0;
  cb = replicate (chroma_rows h pf * chroma_columns w pf) 0;
  cr = replicate (chroma_rows h pf * chroma_columns w pf) 0;
}
