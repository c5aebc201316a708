use Rattle.std.proofs.Common.{All, drop}
use Rattle.vid_geom.specs.CodedOrder.{block_columns}
use Rattle.thr_dc.specs.Changes.{value_by}
use Rattle.thr_dc.specs.Walks.{ChangesIn, IsShort, blocks_of}
use Rattle.thr_dc.proofs.WalkLemmas.{IsHalfWay}
use Rattle.thr_dc.proofs.plane.Plane.change_downwards.Given as goal

-- the blocks before the place are old, and those behind it have become what they become
abbrev pub invariant-places : goal.invariant-places
invariant-places l = record {
  blocks : IsHalfWay (value_by l.change) (block_columns l.self.geom.now l.self.pli) l.place (blocks_of l.self l.fn.values) (blocks_of l.self l.values);
  short : All IsShort (drop l.place (blocks_of l.self l.fn.values));
  rest : ChangesIn l.self.geom.now l.self.flags.now l.self.kinds.now l.self.pli l.fn.values l.values;
}
