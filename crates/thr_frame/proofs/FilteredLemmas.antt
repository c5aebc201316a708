-- The loop filter asks whether a plane is sealed nowhere. `paint_frame` cites these.
use Rattle.std.proofs.Common.{◌≡◌, ◌∙◌, ℕ, Bool, List, [], ◌∷◌, map, refl, sym, ap}
use Rattle.std.specs.List.{fold, range_with_len}
use Rattle.vid_base.specs.declared.shape.Shape.{Shape}
use Rattle.vid_geom.specs.CodedOrder.{block_columns, block_rows}
use Rattle.vid_plane.specs.Picture.{Picture, pixel, with_pixel, sealed_picture}
use Rattle.vid_plane.specs.Frames.{sealed_frame}
use Rattle.vid_plane.specs.declared.frame.Frame.{Frame}
use Rattle.thr_loop.specs.EdgeRule.{Edge, Line, edge_filtered, line_filtered, line_of}
use Rattle.thr_loop.specs.Edges.{plane_edges}
use Rattle.thr_loop.specs.Filtered.{filtered_frame, filtered_plane, is_coded}

line_unsealed : (l : ℕ) (p : Picture) (line : Line) → line_filtered l p line ≡ line_filtered l (sealed_picture p) line
unfolding line_filtered with_pixel pixel sealed_picture
line_unsealed l p line = refl

edge_unsealed : (l : ℕ) (p : Picture) (edge : Edge) → edge_filtered l p edge ≡ edge_filtered l (sealed_picture p) edge
unfolding edge_filtered
edge_unsealed l p edge = ap (λ (q : Picture). fold (line_filtered l) q (map (line_of edge) (range_with_len 1 7))) (line_unsealed l p (line_of edge 0))

edges_sealed : (l : ℕ) (p : Picture) (edges : List Edge) → sealed_picture (fold (edge_filtered l) p edges) ≡ sealed_picture (fold (edge_filtered l) (sealed_picture p) edges)
unfolding sealed_picture
edges_sealed l p [] = refl
edges_sealed l p (edge ∷ edges) = ap (λ (q : Picture). sealed_picture (fold (edge_filtered l) q edges)) (edge_unsealed l p edge)

-- planes of the same samples
plane_sealed : (s : Shape) (flags : List Bool) (l pli : ℕ) (p q : Picture) → sealed_picture p ≡ sealed_picture q → sealed_picture (filtered_plane s flags l pli p) ≡ sealed_picture (filtered_plane s flags l pli q)
unfolding filtered_plane
plane_sealed s flags l pli p q e =
    let edges = plane_edges (is_coded s flags pli) (block_columns s pli) (block_rows s pli) in
    edges_sealed l p edges ∙ ap (λ (t : Picture). sealed_picture (fold (edge_filtered l) t edges)) e ∙ sym (edges_sealed l q edges)

-- frames of the same samples
pub filtered_sealed : (s : Shape) (flags : List Bool) (l : ℕ) (f g : Frame) → sealed_frame f ≡ sealed_frame g → sealed_frame (filtered_frame s flags l f) ≡ sealed_frame (filtered_frame s flags l g)
unfolding filtered_frame
filtered_sealed s flags l f g e =
    let y = plane_sealed s flags l 0 f.y g.y (ap (λ (t : Frame). t.y) e) in
    let cb = plane_sealed s flags l 1 f.cb g.cb (ap (λ (t : Frame). t.cb) e) in
    let cr = plane_sealed s flags l 2 f.cr g.cr (ap (λ (t : Frame). t.cr) e) in
    rw (y, cb, cr) refl
