use Rattle.std.proofs.Common.{◌≡◌, drop}
use Rattle.ogg_link.specs.Progress.{is_crowded}
use Rattle.ogg_link.proofs.progress.is_crowded.Given as goal

abbrev pub invariant-lacing : goal.invariant-lacing
invariant-lacing l = is_crowded l.packets (drop l.i l.fn.lacing) ≡ is_crowded l.fn.packets l.fn.lacing
