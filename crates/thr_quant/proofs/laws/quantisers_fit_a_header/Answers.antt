use Rattle.std.proofs.Common.{rules, ◌≡◌, length, vec_len}
use Rattle.thr_quant.proofs.laws.quantisers_fit_a_header.Goals as goal

pub returns : goal.returns
returns c =
    let count : vec_len c.ramps.inside.matrices ≡ length c.ramps.inside.matrices.items = search rules in
    let complete = rw count at c.ramps.invariant in
    rw (← c.ramps.view_is) (record {
      ac = c.scales_fit_a_header.ensures;
      dc = c.scales_fit_a_header-2.ensures;
      count = complete.count;
      matrices = rw c.deref.ensures.value at c.matrices_fit_a_header.ensures;
      intra = record { planes = c.ranges_are_whole.ensures.planes; whole = c.ranges_are_whole.ensures.whole; named = complete.intra_named };
      inter = record { planes = c.ranges_are_whole-2.ensures.planes; whole = c.ranges_are_whole-2.ensures.whole; named = complete.inter_named };
    })
