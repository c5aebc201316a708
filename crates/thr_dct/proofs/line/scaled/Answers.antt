use Rattle.std.proofs.Common.{arith, refl, ◌≡◌, ◌+ℤ◌, ◌*ℤ◌, ap, ◌∙◌}
use Rattle.std.specs.Int.{int_wrap, w16}
use Rattle.std.specs.Int.Signed.{shr_z}
use Rattle.std.proofs.lemmas.Int.{to_z-of_z, to_z_pos, wrapping_add_is, int_wrap_fits}
use Rattle.thr_dct.specs.Line.{m}
use Rattle.thr_dct.proofs.ProductLemmas.{scaled_fits, more_by_one}
use Rattle.thr_dct.proofs.line.scaled.Goals as goal
use mir.Val.{SFits}

pub returns-then-c-lt32768 : goal.returns-then-c-lt32768
unfolding m
returns-then-c-lt32768 c =
    let fits = scaled_fits c.args.c c.args.v (omega arith) c.ranges.v in
    grind (arith, to_z-of_z, to_z_pos)

pub returns-else-c-lt32768 : goal.returns-else-c-lt32768
unfolding m
returns-else-c-lt32768 c =
    let constant_fits : SFits w16 c.cast_signed.result = record { sfits = c.cast_signed.type_inv } in
    let part_fits : SFits w16 c.high-part.result = record { sfits = c.high-part.type_inv } in
    let part : c.high-part.result ≡ shr_z (c.cast_signed.result *ℤ c.args.v) 65536 = rw (c.high-part.ensures, to_z-of_z w16 _ constant_fits, to_z-of_z w16 _ c.ranges.v) refl in
    wrapping_add_is w16 c.high-part.result c.args.v part_fits c.ranges.v
    ∙ ap (int_wrap w16) (ap (λ z. z +ℤ c.args.v) part ∙ more_by_one c.cast_signed.result c.args.c c.args.v c.cast_signed.ensures constant_fits (omega arith) (omega arith))
    ∙ int_wrap_fits w16 _ (scaled_fits c.args.c c.args.v (omega arith) c.ranges.v)
