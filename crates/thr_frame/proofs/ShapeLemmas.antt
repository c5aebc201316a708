-- A header says one shape. The law on it cites this.
use Rattle.std.proofs.Common.{◌≡◌, ◌≢◌, ◌∙◌, ℕ, ◌*◌, ◌<◌, ◌≤◌, ap, sym, subst}
use Rattle.std.proofs.Math.Bridge.{le_prop}
use Rattle.vid_base.specs.declared.shape.Shape.{Shape}
use Rattle.thr_ident.specs.declared.ident.Ident.{Ident}
use Rattle.thr_frame.specs.Decoding.{IsShapeOf}

abbrev shape : (w h f : ℕ) → 0 < w → 0 < h → w * h ≤ 131072 → (f ≤ 3) × (f ≢ 1) → Shape
shape w h f a b c d = record { fmbw = w; fmbh = h; pf = f; wide = a; high = b; small = c; format = d }

none_is : (u v : ⊥) → u ≡ v
none_is u v = absurd u

-- that two things differ has one proof
differ_is : (x y : ℕ) (a b : x ≢ y) → a ≡ b
differ_is x y a b = λ i e. none_is (a e) (b e) i

by_width : (w v h f : ℕ) → w ≡ v → (a : 0 < w) (b : 0 < v) (high : 0 < h) (c : w * h ≤ 131072) (d : v * h ≤ 131072) (format : (f ≤ 3) × (f ≢ 1)) → shape w h f a high c format ≡ shape v h f b high d format
by_width w v h f e a b high c d format =
    subst (λ x. (b : 0 < x) → (d : x * h ≤ 131072) → shape w h f a high c format ≡ shape x h f b high d format) e
    (λ b d. ap (λ t. shape w h f t high c format) (le_prop a b) ∙ ap (λ t. shape w h f b high t format) (le_prop c d)) b d

by_height : (w h g f : ℕ) → h ≡ g → (wide : 0 < w) (a : 0 < h) (b : 0 < g) (c : w * h ≤ 131072) (d : w * g ≤ 131072) (format : (f ≤ 3) × (f ≢ 1)) → shape w h f wide a c format ≡ shape w g f wide b d format
by_height w h g f e wide a b c d format =
    subst (λ x. (b : 0 < x) → (d : w * x ≤ 131072) → shape w h f wide a c format ≡ shape w x f wide b d format) e
    (λ b d. ap (λ t. shape w h f wide t c format) (le_prop a b) ∙ ap (λ t. shape w h f wide b t format) (le_prop c d)) b d

by_format : (w h f g : ℕ) → f ≡ g → (wide : 0 < w) (high : 0 < h) (small : w * h ≤ 131072) (a : (f ≤ 3) × (f ≢ 1)) (b : (g ≤ 3) × (g ≢ 1)) → shape w h f wide high small a ≡ shape w h g wide high small b
by_format w h f g e wide high small a b =
    subst (λ x. (b : (x ≤ 3) × (x ≢ 1)) → shape w h f wide high small a ≡ shape w h x wide high small b) e
    (λ b. ap (λ t. shape w h f wide high small (t, a.1)) (le_prop a.0 b.0) ∙ ap (λ t. shape w h f wide high small (b.0, t)) (differ_is f 1 a.1 b.1)) b

pub one_shape : (ident : Ident) (a b : Shape) → IsShapeOf ident a → IsShapeOf ident b → a ≡ b
one_shape ident a b is also =
    let w : a.fmbw ≡ b.fmbw = is.wide ∙ sym also.wide in
    let h : a.fmbh ≡ b.fmbh = is.high ∙ sym also.high in
    let f : a.pf ≡ b.pf = is.format ∙ sym also.format in
    let small : b.fmbw * a.fmbh ≤ 131072 = subst (λ k. k * a.fmbh ≤ 131072) w a.small in
    by_width a.fmbw b.fmbw a.fmbh a.pf w a.wide b.wide a.high a.small small a.format
    ∙ by_height b.fmbw a.fmbh b.fmbh a.pf h b.wide a.high b.high small b.small a.format
    ∙ by_format b.fmbw b.fmbh a.pf b.pf f b.wide b.high b.small a.format b.format
