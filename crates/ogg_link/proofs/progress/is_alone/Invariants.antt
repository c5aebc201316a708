use Rattle.std.proofs.Common.{◌≡◌, drop}
use Rattle.ogg_link.specs.Progress.{is_alone}
use Rattle.ogg_link.proofs.progress.is_alone.Given as goal

abbrev pub invariant-lacing : goal.invariant-lacing
invariant-lacing l = is_alone (drop l.i l.fn.lacing) ≡ is_alone l.fn.lacing
