use Rattle.std.proofs.Common.{arith, ◌≡◌, ◌∙◌, ap, get_or, length, take, true, false, refl}
use Rattle.std.proofs.lemmas.List.{take_all}
use Rattle.vid_geom.specs.CodedOrder.{superblocks}
use Rattle.vid_geom.proofs.SuperblockLemmas.{past_last}
use Rattle.thr_flags.specs.Flags.{partial_blocks, sizes_of}
use Rattle.thr_flags.proofs.FlagLemmas.{length-sizes_of, partial_more, size_at}
use Rattle.thr_flags.proofs.flag_reading.partial_blocks.Goals.{then-partly-s, else-partly-s}
use Rattle.thr_flags.proofs.flag_reading.partial_blocks.Goals as goal

pub superblocks-init : goal.superblocks-init
unfolding partial_blocks
superblocks-init c = record { counted = refl; most = omega arith }

pub superblocks-preserved : goal.superblocks-preserved
superblocks-preserved c =
    let s = c.superblocks.s in
    let sizes = sizes_of c.args.geom.now in
    let size = size_at c.args.geom.now s c.superblock-first.result.0 c.superblock-first.result.1 (omega arith) c.superblock-first.ensures.first c.superblock-first.ensures.past in
    let more = partial_more sizes c.args.partly.now s (omega (arith, length-sizes_of c.args.geom.now)) (omega arith) in
    elim c.if-partly-s.branch [
      | then-partly-s w ↦
          let yes : get_or c.args.partly.now s false ≡ true = w.if-partly-s.true in
          record { counted = w.count-is ∙ omega (arith, rw yes at more); most = omega arith }
      | else-partly-s w ↦
          let no : get_or c.args.partly.now s false ≡ false = w.if-partly-s.false in
          record { counted = w.count-is ∙ omega (arith, rw no at more); most = omega arith }
    ]

pub returns-clause-value : goal.returns-clause-value
returns-clause-value c =
    let s = c.superblocks.s in
    c.superblocks.invariant.counted ∙ ap (λ n. partial_blocks n (take s c.args.partly.now)) (take_all s (sizes_of c.args.geom.now) (omega (arith, length-sizes_of c.args.geom.now)))
    ∙ ap (partial_blocks (sizes_of c.args.geom.now)) (take_all s c.args.partly.now (omega arith))

pub returns-clause-most : goal.returns-clause-most
returns-clause-most c =
    let last : c.superblocks.s ≡ length (superblocks c.args.geom.now) = omega arith in
    omega (arith, rw last at c.superblocks.invariant.most, past_last c.args.geom.now)
