use Rattle.std.proofs.Common.{◌≡◌, ◌-◌}
use Rattle.vid_base.specs.Reading.{SameEnd}
use Rattle.thr_modes.specs.Modes.{rank_in}
use Rattle.thr_modes.proofs.RankLemmas.{behind_ones}
use Rattle.thr_modes.proofs.alphabet.read_rank.Given as goal

abbrev pub invariant-bits : goal.invariant-bits
invariant-bits l = record {
  read : behind_ones l.rank (rank_in (7 - l.rank) l.r.left) ≡ rank_in 7 l.fn.r.left;
  end : SameEnd l.fn.r l.r;
}
