-- Frames behind the loop filter (Theora I, 7.10.3). s is the frame's shape, flags has a flag for each block in coded order, l is the filter limit.
use Rattle.std.specs.Prelude.{ℕ, Bool, false, List, slice_index_or}
use Rattle.std.specs.List.{fold}
use Rattle.vid_base.specs.declared.shape.Shape.{Shape}
use Rattle.vid_geom.specs.Squares.{Cell}
use Rattle.vid_geom.specs.CodedOrder.{block_columns, block_rows, block_of, place_of}
use Rattle.vid_plane.specs.Picture.{Picture}
use Rattle.vid_plane.specs.declared.frame.Frame.{Frame}
use Rattle.thr_loop.specs.EdgeRule.{edge_filtered}
use Rattle.thr_loop.specs.Edges.{plane_edges}

-- whether a block of a plane is coded
unfoldable pub is_coded : Shape → List Bool → ℕ → Cell → Bool
is_coded s flags pli c = slice_index_or flags (place_of s (block_of pli c)) false

-- a plane filtered: its edges, one after another
unfoldable pub filtered_plane : Shape → List Bool → ℕ → ℕ → Picture → Picture
filtered_plane s flags l pli p = fold (edge_filtered l) p (plane_edges (is_coded s flags pli) (block_columns s pli) (block_rows s pli))

-- a frame filtered, plane by plane
unfoldable pub filtered_frame : Shape → List Bool → ℕ → Frame → Frame
filtered_frame s flags l f = record {
  y = filtered_plane s flags l 0 f.y;
  cb = filtered_plane s flags l 1 f.cb;
  cr = filtered_plane s flags l 2 f.cr;
}
