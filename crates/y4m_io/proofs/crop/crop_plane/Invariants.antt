use Rattle.std.proofs.Common.{◌≡◌, ◌*◌, ◌-◌, ◌++◌, take, length}
use Rattle.y4m_io.specs.Crop.{rows_down}
use Rattle.y4m_io.proofs.crop.crop_plane.Given as goal

-- the rows so far, and those that are left behind them, are all rows
abbrev pub invariant-loop-k : goal.invariant-loop-k
invariant-loop-k l = record {
  size : length l.into ≡ l.rows * l.columns;
  done : take (l.k * l.columns) l.into ++ rows_down l.plane l.x l.y l.columns (l.rows - l.k) ≡ rows_down l.plane l.x l.y l.columns l.rows;
}
