-- The shape of the frames that an identification header announces (Theora I, 6.2).
use Rattle.std.proofs.Common.{◌≡◌, ◌≢◌, ℕ, ◌*◌, ◌<◌, ◌≤◌, ◌⊎◌, inl, inr, arith}
use Rattle.std.proofs.lemmas.Bool.{cases_lt, cases_eq}
use Rattle.vid_base.specs.declared.shape.Shape.{Shape}
use Rattle.thr_ident.specs.Header.{Header}

-- one macro block in 4:2:0
abbrev pub smallest : Shape
smallest = record { fmbw = 1; fmbh = 1; pf = 0; wide = omega arith; high = omega arith; small = omega arith; format = (omega arith, λ e. absurd (omega (arith, e))) }

-- these sizes and this format where they are those of a shape, and else the smallest
abbrev pub shape_by : (w h pf : ℕ) → (0 < w) ⊎ (w ≤ 0) → (0 < h) ⊎ (h ≤ 0) → (131072 < w * h) ⊎ (w * h ≤ 131072) → (3 < pf) ⊎ (pf ≤ 3) → (pf ≡ 1) ⊎ (pf ≡ 1 → ⊥) → Shape
shape_by w h pf (inl wide) (inl high) (inr small) (inr known) (inr sound) = record { fmbw = w; fmbh = h; pf = pf; wide = wide; high = high; small = small; format = (known, sound) }
shape_by w h pf wide high small known sound = smallest

-- the shape that a header announces; a header that keeps its rules announces one
unfoldable pub shape_of : Header → Shape
shape_of header = shape_by header.fmbw header.fmbh header.pf (cases_lt 0 header.fmbw) (cases_lt 0 header.fmbh) (cases_lt 131072 (header.fmbw * header.fmbh)) (cases_lt 3 header.pf) (cases_eq header.pf 1)
