use Rattle.std.proofs.Common.{◌≡◌, ◌∙◌, ◌/◌, ap}
use Rattle.std.specs.List.{fold}
use Rattle.vid_geom.specs.CodedOrder.{block_columns, block_rows}
use Rattle.thr_loop.specs.EdgeRule.{edge_filtered}
use Rattle.thr_loop.specs.Edges.{plane_edges}
use Rattle.thr_loop.specs.Filtered.{is_coded, filtered_plane}
use Rattle.thr_loop.proofs.frame.filter_plane.Goals as goal

pub returns-clause-value : goal.returns-clause-value
unfolding filtered_plane
returns-clause-value c =
    let s = c.args.geom.now in
    let coded = is_coded s c.args.flags.now c.args.pli in
    let across : c.width.result / 8 ≡ block_columns s c.args.pli = ap (λ n. n / 8) (c.width.ensures.value ∙ c.requires.sized.width) in
    let upwards : c.height.result / 8 ≡ block_rows s c.args.pli = ap (λ n. n / 8) (c.height.ensures.value ∙ c.requires.sized.height) in
    c.filter_rows.ensures.value
    ∙ ap (λ n. fold (edge_filtered c.args.limit) c.args.plane.now (plane_edges coded n (c.height.result / 8))) across
    ∙ ap (λ n. fold (edge_filtered c.args.limit) c.args.plane.now (plane_edges coded (block_columns s c.args.pli) n)) upwards
