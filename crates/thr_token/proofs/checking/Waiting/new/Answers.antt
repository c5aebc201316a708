use Rattle.std.proofs.Common.{◌≡◌, ◌*◌, refl, arith}
use Rattle.vid_geom.specs.CodedOrder.{plane_blocks}
use Rattle.vid_geom.proofs.MacroBlockLemmas.{plane_blocks_is}
use Rattle.vid_geom.proofs.OrderLemmas.{length-order_of}
use Rattle.thr_token.proofs.CheckingLemmas.{begun}
use Rattle.thr_token.proofs.ReadingLemmas.{few_blocks}
use Rattle.thr_token.proofs.checking.Waiting.new.Goals as goal

pub split_at-requires : goal.split_at-requires
split_at-requires c = omega (arith, plane_blocks_is c.args.geom.now 0, c.macro_blocks.ensures.product, length-order_of c.args.geom.now, c.requires)

pub overflow_cast-chroma : goal.overflow_cast-chroma
overflow_cast-chroma c = omega (arith, few_blocks c.args.geom.now, c.requires, c.coded-in_chroma.ensures.few, c.split_at.ensures.back_len)

pub returns : goal.returns
returns c =
    let lumas : 4 * c.macro_blocks.result ≡ plane_blocks c.args.geom.now 0 = omega (arith, plane_blocks_is c.args.geom.now 0, c.macro_blocks.ensures.product) in
    begun c.args.geom.now c.args.flags.now (4 * c.macro_blocks.result) _ c.requires (omega (arith, few_blocks c.args.geom.now, c.requires)) lumas
    (rw (c.coded-in_luma.ensures.value, c.split_at.ensures.front) refl) (rw (c.coded-in_chroma.ensures.value, c.split_at.ensures.back) refl)
    (rw (c.coded-in_luma.ensures.value, c.split_at.ensures.front, c.coded-in_chroma.ensures.value, c.split_at.ensures.back) refl)
