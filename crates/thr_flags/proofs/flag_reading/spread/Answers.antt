use Rattle.std.proofs.Common.{arith, ◌≡◌, ◌∙◌, ◌+◌, ◌-◌, ◌<◌, ◌++◌, not, ap, get_or, length, take, drop, true, false, refl, sym}
use Rattle.std.proofs.lemmas.List.{append-nil, drop_all, length-drop, length-take, take_all}
use Rattle.std.proofs.lemmas.List.Sums.{count_by_more_no, count_by_more_yes}
use Rattle.vid_geom.specs.Squares.{joined}
use Rattle.vid_geom.specs.CodedOrder.{superblocks}
use Rattle.vid_geom.proofs.SuperblockLemmas.{past_last}
use Rattle.thr_flags.specs.Flags.{partial_blocks, sizes_of, spread}
use Rattle.thr_flags.proofs.FlagLemmas.{length-sizes_of, partial_more, single_fits, size_at, spread_single, spread_whole, whole_fits}
use Rattle.thr_flags.proofs.flag_reading.spread.Goals.{then-partly-s, else-partly-s}
use Rattle.thr_flags.proofs.flag_reading.spread.Goals as goal

pub superblocks-init : goal.superblocks-init
unfolding joined partial_blocks
superblocks-init c = record { same = refl; fully_is = refl; single_is = refl }

pub overflow_add-single_at : goal.overflow_add-single_at
overflow_add-single_at c =
    let s = c.superblocks.s in
    let size = size_at c.args.geom.now s c.superblock-first.result.0 c.superblock-first.result.1 (omega arith) c.superblock-first.ensures.first c.superblock-first.ensures.past in
    omega (arith, size, single_fits (sizes_of c.args.geom.now) c.args.partly.now s (omega (arith, length-sizes_of c.args.geom.now)) (omega arith) c.if-partly-s.true)

pub slice_bounds-copy_values-end : goal.slice_bounds-copy_values-end
slice_bounds-copy_values-end c =
    let s = c.superblocks.s in
    let size = size_at c.args.geom.now s c.superblock-first.result.0 c.superblock-first.result.1 (omega arith) c.superblock-first.ensures.first c.superblock-first.ensures.past in
    omega (arith, size, single_fits (sizes_of c.args.geom.now) c.args.partly.now s (omega (arith, length-sizes_of c.args.geom.now)) (omega arith) c.if-partly-s.true)

pub bounds-fully-fully_at : goal.bounds-fully-fully_at
bounds-fully-fully_at c = omega (arith, whole_fits c.args.partly.now c.superblocks.s (omega arith) c.if-partly-s.false)

pub overflow_add-fully_at : goal.overflow_add-fully_at
overflow_add-fully_at c = omega (arith, whole_fits c.args.partly.now c.superblocks.s (omega arith) c.if-partly-s.false)

pub superblocks-preserved : goal.superblocks-preserved
superblocks-preserved c =
    let s = c.superblocks.s in
    let sizes = sizes_of c.args.geom.now in
    let partly = c.args.partly.now in
    let single = c.args.single.now in
    let first = c.superblock-first.result.0 in
    let past = c.superblock-first.result.1 in
    let n = past - first in
    let b = c.superblocks.single_at in
    let size = size_at c.args.geom.now s first past (omega arith) c.superblock-first.ensures.first c.superblock-first.ensures.past in
    let h : s < length sizes = omega (arith, length-sizes_of c.args.geom.now) in
    let l : s < length partly = omega arith in
    let is : n ≡ get_or sizes s 0 = omega arith in
    let more = partial_more sizes partly s h l in
    let step : past ≡ first + n = omega arith in
    let same = rw (← c.superblock-first.ensures.first) at c.superblocks.invariant.same in
    elim c.if-partly-s.branch [
      | then-partly-s w ↦
          let yes : get_or partly s false ≡ true = w.if-partly-s.true in
          let width : b + n - b ≡ n = omega arith in
          let end : past ≡ first + length (take (b + n - b) (drop b single)) = rw width (omega (arith, length-take n (drop b single), length-drop b single, single_fits sizes partly s h l yes)) in
          record {
            same = rw (← c.superblock-first.ensures.past, w.flags-is, w.fully_at-is, w.single_at-is)
                (spread_single sizes partly (drop c.superblocks.fully_at c.args.fully.now) single (take first c.superblocks.flags) (take past w.copy_values.new.into) s n b h l yes is
                (ap (λ k. take k w.copy_values.new.into) end ∙ w.copy_values.ensures ∙ ap (λ k. take first c.superblocks.flags ++ take k (drop b single)) width) same);
            fully_is = w.fully_at-is ∙ c.superblocks.invariant.fully_is ∙ sym (count_by_more_no not partly s false l (ap not yes));
            single_is = w.single_at-is ∙ omega (arith, rw yes at more);
          }
      | else-partly-s w ↦
          let no : get_or partly s false ≡ false = w.if-partly-s.false in
          record {
            same = rw (← c.superblock-first.ensures.past, w.flags-is, w.fully_at-is, w.single_at-is)
                (spread_whole sizes partly c.args.fully.now (drop b single) (take first c.superblocks.flags) (take past w.fill_run.new.into) s n c.superblocks.fully_at h l no is
                (omega (arith, whole_fits partly s l no)) (ap (λ k. take k w.fill_run.new.into) step ∙ w.fill_run.ensures.front) same);
            fully_is = w.fully_at-is ∙ omega (arith, count_by_more_yes not partly s false l (ap not no));
            single_is = w.single_at-is ∙ omega (arith, rw no at more);
          }
    ]

pub returns : goal.returns
unfolding spread
returns c =
    let s = c.superblocks.s in
    let last : s ≡ length (superblocks c.args.geom.now) = omega arith in
    let all = take_all (length (joined (take s (superblocks c.args.geom.now)))) c.superblocks.flags (omega (arith, ap (λ k. length (joined (take k (superblocks c.args.geom.now)))) last, past_last c.args.geom.now)) in
    let none = drop_all s (sizes_of c.args.geom.now) (omega (arith, length-sizes_of c.args.geom.now)) in
    sym (append-nil c.superblocks.flags) ∙ rw (all, none) at c.superblocks.invariant.same
