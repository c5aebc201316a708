use Rattle.std.proofs.Common.{◌≡◌, pos, ◌+ℤ◌, w8, to_z, of_z, arith}
use Rattle.std.proofs.lemmas.Int.{to_z-of_z}
use Rattle.vid_base.specs.Arithmetic.{rounded}
use Rattle.thr_modes.specs.Vectors.{offset_of}
use Rattle.thr_modes.proofs.MeanLemmas.{mean_of_four_is}
use Rattle.thr_modes.proofs.mean.mean_of_four.Goals as goal

pub returns : goal.returns
unfolding offset_of
returns c =
    let across : to_z w8 (of_z w8 c.component_of_four.result) ≡ rounded ((c.args.a.x +ℤ c.args.b.x) +ℤ (c.args.c.x +ℤ c.args.d.x)) (pos 4) = grind (arith, to_z-of_z) in
    let upwards : to_z w8 (of_z w8 c.component_of_four-2.result) ≡ rounded ((c.args.a.y +ℤ c.args.b.y) +ℤ (c.args.c.y +ℤ c.args.d.y)) (pos 4) = grind (arith, to_z-of_z) in
    mean_of_four_is (offset_of c.args.a) (offset_of c.args.b) (offset_of c.args.c) (offset_of c.args.d) _ _ across upwards
