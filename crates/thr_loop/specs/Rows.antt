-- (private) The edges of a row of blocks (own).
use Rattle.std.specs.Prelude.{ℕ, Bool, List, map}
use Rattle.std.specs.List.{flat_map, range_with_len}
use Rattle.vid_geom.specs.Squares.{Cell, cell}
use Rattle.thr_loop.specs.EdgeRule.{Edge}
use Rattle.thr_loop.specs.Edges.{block_edges}

-- those of its first n blocks
unfoldable pub row_edges : (Cell → Bool) → ℕ → ℕ → ℕ → ℕ → List Edge
row_edges coded columns rows n row = flat_map (block_edges coded columns rows) (map (λ col. cell col row) (range_with_len 0 n))
