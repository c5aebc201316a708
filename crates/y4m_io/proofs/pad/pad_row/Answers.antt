use Rattle.std.proofs.Common.{◌≡◌, ◌+◌, ◌-◌, ◌*◌, ◌≤◌, ℕ, length, get_or, subst, arith}
use Rattle.std.specs.Prelude.{min}
use Rattle.vid_plane.specs.Paints.{Paints}
use Rattle.y4m_io.proofs.PadLemmas.{block_more}
use Rattle.y4m_io.proofs.pad.pad_row.Goals as goal

pub loop-block-preserved : goal.loop-block-preserved
loop-block-preserved c =
    let p = c.args.into.now in
    let row = c.args.row.now in
    let x = 8 * c.loop-block.block in
    let wide : x + 8 ≤ p.width = omega (arith, c.width-block-end.ensures.value, c.loop-block-test.true) in
    let next : x + 8 ≡ 8 * (c.loop-block.block + 1) = omega arith in
    subst (λ (i : ℕ). Paints p c.put_row8.new.self 0 c.args.y i 1 (λ u _. get_or row (min u (length row - 1)) 0)) next
    (block_more p c.loop-block.into c.put_row8.new.self c.args.y x row c.eight.result c.loop-block.invariant c.eight.ensures c.put_row8.ensures.paints wide c.requires.y)
