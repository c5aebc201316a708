use Rattle.std.proofs.Common.{◌≡◌, ◌∙◌, ℕ, List, [], get_or, ap}
use Rattle.vid_plane.specs.Picture.{with_rows}
use Rattle.vid_plane.proofs.PaintLemmas.{Paints-by}
use Rattle.thr_recon.specs.Predicted.{shown}
use Rattle.thr_recon.specs.Rebuilt.{block_of, rebuilt}
use Rattle.thr_recon.proofs.RowLemmas.{rebuilt_again, get_or-block_of}
use Rattle.thr_recon.proofs.rebuilding.rebuild_block.Goals as goal

pub returns-clause-value : goal.returns-clause-value
returns-clause-value c =
    let rows : c.rebuilt_rows.result ≡ block_of (rebuilt (shown c.args.p.now) c.args.r.now) = rw (c.rebuilt_rows.ensures, c.block.ensures) (rebuilt_again (shown c.args.p.now) c.args.r.now) in
    c.set_block.ensures.value ∙ ap (λ (b : List (List ℕ)). with_rows c.args.now.now c.args.x c.args.y b) rows

pub returns-clause-paints : goal.returns-clause-paints
returns-clause-paints c =
    let rows : c.rebuilt_rows.result ≡ block_of (rebuilt (shown c.args.p.now) c.args.r.now) = rw (c.rebuilt_rows.ensures, c.block.ensures) (rebuilt_again (shown c.args.p.now) c.args.r.now) in
    Paints-by _ _ _ _ _ _ _ _ c.set_block.ensures.paints (λ u v across upwards.
    ap (λ (b : List (List ℕ)). get_or (get_or b v []) u 0) rows ∙ get_or-block_of (rebuilt (shown c.args.p.now) c.args.r.now) u v across upwards)
