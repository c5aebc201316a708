use Rattle.std.proofs.Common.{◌≡◌, ◌++◌, [], All, IfSome, take, drop, ◌<◌}
use Rattle.vid_geom.specs.CodedOrder.{block_columns}
use Rattle.thr_dc.specs.Changes.{value_by}
use Rattle.thr_dc.specs.Planes.{AreLast, IsAlong, IsKnown}
use Rattle.thr_dc.specs.Prediction.{by_new}
use Rattle.thr_dc.specs.Walks.{ChangesIn, IsShort, blocks_of}
use Rattle.thr_dc.proofs.plane.Plane.change_upwards.Given as goal

-- the blocks so far are new, and what becomes of the rest behind them makes the whole
abbrev pub invariant-places : goal.invariant-places
invariant-places l =
    let w = block_columns l.self.geom.now l.self.pli in
    let now = blocks_of l.self l.values in record {
      blocks : take l.place now ++ by_new (value_by l.change) w (take l.place now) (drop l.place now) ≡ by_new (value_by l.change) w [] (blocks_of l.self l.fn.values);
      along : l.place < l.self.blocks → IsAlong l.self.columns l.place l.column l.row;
      ahead : drop l.place now ≡ drop l.place (blocks_of l.self l.fn.values);
      short : All IsShort (take l.place (blocks_of l.self l.fn.values));
      carried : IfSome l.carried (IsKnown l.self.columns now l.column l.row);
      lasts : AreLast (take l.place now) l.lasts;
      rest : ChangesIn l.self.geom.now l.self.flags.now l.self.kinds.now l.self.pli l.fn.values l.values;
    }
