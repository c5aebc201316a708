use Rattle.std.proofs.Common.{◌≡◌, map, drop}
use Rattle.vid_desk.specs.Entry.{failing_of}
use Rattle.vid_desk.specs.Memory.{part_at}
use Rattle.vid_desk.proofs.failing.next_call.Given as goal

-- the failures that are left decide
abbrev pub invariant-loop-failure : goal.invariant-loop-failure
invariant-loop-failure l = part_at (map failing_of l.failing) l.call ≡ part_at (map failing_of (drop l.failure-index l.failing)) l.call
