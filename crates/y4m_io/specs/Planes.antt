-- The planes of a picture, filled from bytes (private): old is the picture before, new the one after.
use Rattle.std.specs.Prelude.{◌≡◌, ℕ, ◌+◌, List, length, take, drop}
use Rattle.y4m_io.specs.Pictures.{Samples}

-- the same size and format, and as many samples
pub record IsLike (old new : Samples) : Type 0 where
  pub w : new.w ≡ old.w
  pub h : new.h ≡ old.h
  pub pf : new.pf ≡ old.pf
  pub y : length new.y ≡ length old.y
  pub cb : length new.cb ≡ length old.cb
  pub cr : length new.cr ≡ length old.cr

-- the samples are the bytes from `at` on, plane after plane
pub record ArePlanes (old new : Samples) (at : ℕ) (bytes : List ℕ) : Type 0 where
  pub y : new.y ≡ take (length old.y) (drop at bytes)
  pub cb : new.cb ≡ take (length old.cb) (drop (at + length old.y) bytes)
  pub cr : new.cr ≡ take (length old.cr) (drop (at + length old.y + length old.cb) bytes)
