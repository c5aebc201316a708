use Rattle.std.proofs.Common.{◌≡◌, drop, sum, length}
use Rattle.ogg_page.specs.Packets.{segments}
use Rattle.ogg_link.specs.Progress.{after_pieces}
use Rattle.ogg_link.proofs.progress.after_page.Given as goal

-- the segments that are left decide the rest
abbrev pub invariant-lacing : goal.invariant-lacing
invariant-lacing l = record {
  sizes : sum (drop l.size-index l.fn.lacing) ≡ length l.rest;
  pieces : after_pieces l.known (segments (drop l.size-index l.fn.lacing) l.rest) ≡ after_pieces l.fn.known (segments l.fn.lacing l.fn.body);
}
