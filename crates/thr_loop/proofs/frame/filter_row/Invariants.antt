use Rattle.std.proofs.Common.{◌≡◌}
use Rattle.std.specs.List.{fold}
use Rattle.vid_plane.specs.Picture.{IsLike, IsPicture}
use Rattle.thr_loop.specs.EdgeRule.{edge_filtered}
use Rattle.thr_loop.specs.Filtered.{is_coded}
use Rattle.thr_loop.specs.Rows.{row_edges}
use Rattle.thr_loop.proofs.frame.filter_row.Given as goal

abbrev pub invariant-loop-col : goal.invariant-loop-col
invariant-loop-col l = record {
  so_far : l.plane ≡ fold (edge_filtered l.limit) l.fn.plane (row_edges (is_coded l.blocks.geom.now l.blocks.flags.now l.blocks.pli) l.blocks.columns l.blocks.rows l.col l.row);
  like : IsLike l.fn.plane l.plane;
  sized : IsPicture l.plane;
}
