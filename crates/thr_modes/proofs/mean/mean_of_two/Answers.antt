use Rattle.std.proofs.Common.{◌≡◌, pos, ◌+ℤ◌, w8, to_z, of_z, arith}
use Rattle.std.proofs.lemmas.Int.{to_z-of_z}
use Rattle.vid_base.specs.Arithmetic.{rounded}
use Rattle.thr_modes.specs.Vectors.{offset_of}
use Rattle.thr_modes.proofs.MeanLemmas.{mean_of_two_is}
use Rattle.thr_modes.proofs.mean.mean_of_two.Goals as goal

pub returns : goal.returns
unfolding offset_of
returns c =
    let across : to_z w8 (of_z w8 c.half_of.result) ≡ rounded (c.args.a.x +ℤ c.args.b.x) (pos 2) = grind (arith, to_z-of_z) in
    let upwards : to_z w8 (of_z w8 c.half_of-2.result) ≡ rounded (c.args.a.y +ℤ c.args.b.y) (pos 2) = grind (arith, to_z-of_z) in
    mean_of_two_is (offset_of c.args.a) (offset_of c.args.b) _ _ across upwards
