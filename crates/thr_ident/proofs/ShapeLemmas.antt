-- A shape is its sizes and its format, and a header that keeps its rules announces its own. `Ident::shape` cites these.
use Rattle.std.proofs.Common.{◌≡◌, ◌≢◌, ℕ, ◌*◌, ◌<◌, ◌≤◌, ◌⊎◌, inl, inr, refl, sym, ◌∙◌, arith}
use Rattle.std.proofs.lemmas.Bool.{cases_lt, cases_eq}
use Rattle.std.proofs.Math.Path.{to_path_p}
use Rattle.std.proofs.Props.{props}
use Rattle.vid_base.specs.declared.shape.Shape.{Shape}
use Rattle.thr_ident.specs.Header.{Header}
use Rattle.thr_ident.specs.Shape.{shape_by, shape_of}

-- shapes with the same fields are the same
pub shape_same : (s t : Shape) → s.fmbw ≡ t.fmbw → s.fmbh ≡ t.fmbh → s.pf ≡ t.pf → s ≡ t
shape_same s t w h f =
    let wide : IsProp (0 < t.fmbw) = hlevel props in
    let high : IsProp (0 < t.fmbh) = hlevel props in
    let small : IsProp (t.fmbw * t.fmbh ≤ 131072) = hlevel props in
    let format : IsProp ((t.pf ≤ 3) × (t.pf ≢ 1)) = hlevel props in
    λ i. record {
      fmbw = w i;
      fmbh = h i;
      pf = f i;
      wide = to_path_p (λ j. 0 < w j) {a = s.wide} {b = t.wide} (wide _ t.wide) i;
      high = to_path_p (λ j. 0 < h j) {a = s.high} {b = t.high} (high _ t.high) i;
      small = to_path_p (λ j. w j * h j ≤ 131072) {a = s.small} {b = t.small} (small _ t.small) i;
      format = to_path_p (λ j. (f j ≤ 3) × (f j ≢ 1)) {a = s.format} {b = t.format} (format _ t.format) i;
    }

by_fields : (s : Shape) (wide : (0 < s.fmbw) ⊎ (s.fmbw ≤ 0)) (high : (0 < s.fmbh) ⊎ (s.fmbh ≤ 0)) (small : (131072 < s.fmbw * s.fmbh) ⊎ (s.fmbw * s.fmbh ≤ 131072)) (known : (3 < s.pf) ⊎ (s.pf ≤ 3)) (sound : (s.pf ≡ 1) ⊎ (s.pf ≡ 1 → ⊥))
    → s ≡ shape_by s.fmbw s.fmbh s.pf wide high small known sound
by_fields s (inr none) high small known sound = absurd (omega (arith, s.wide, none))
by_fields s (inl wide) (inr none) small known sound = absurd (omega (arith, s.high, none))
by_fields s (inl wide) (inl high) (inl large) known sound = absurd (omega (arith, s.small, large))
by_fields s (inl wide) (inl high) (inr small) (inl unknown) sound = absurd (omega (arith, s.format.0, unknown))
by_fields s (inl wide) (inl high) (inr small) (inr known) (inl reserved) = absurd (s.format.1 reserved)
by_fields s (inl wide) (inl high) (inr small) (inr known) (inr sound) = shape_same s _ refl refl refl

-- a header with the sizes and the format of a shape announces it
pub announced : (s : Shape) (header : Header) → s.fmbw ≡ header.fmbw → s.fmbh ≡ header.fmbh → s.pf ≡ header.pf → s ≡ shape_of header
unfolding shape_of
announced s header w h f =
    by_fields s (cases_lt 0 s.fmbw) (cases_lt 0 s.fmbh) (cases_lt 131072 (s.fmbw * s.fmbh)) (cases_lt 3 s.pf) (cases_eq s.pf 1)
    ∙ (λ i. shape_by (w i) (h i) (f i) (cases_lt 0 (w i)) (cases_lt 0 (h i)) (cases_lt 131072 (w i * h i)) (cases_lt 3 (f i)) (cases_eq (f i) 1))
