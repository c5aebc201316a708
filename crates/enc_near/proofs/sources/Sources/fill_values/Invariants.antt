use Rattle.std.proofs.Common.{◌≡◌, length}
use Rattle.vid_geom.specs.CodedOrder.{order_of}
use Rattle.enc_near.specs.Sources.{AreMadeBefore}
use Rattle.enc_near.proofs.sources.Sources.fill_values.Given as goal

abbrev pub invariant-loop-place : goal.invariant-loop-place
invariant-loop-place l = record {
  long : length l.values ≡ length (order_of l.self.geom.now);
  made : AreMadeBefore l.self l.place l.values;
}
