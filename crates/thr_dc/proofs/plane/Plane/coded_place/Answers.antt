use Rattle.std.proofs.Common.{◌∙◌, ◌/◌, ◌%◌, ap}
use Rattle.vid_geom.specs.CodedOrder.{place_of}
use Rattle.thr_dc.specs.Frames.{block_at, raster_block}
use Rattle.thr_dc.proofs.plane.Plane.coded_place.Goals as goal

pub returns-clause-value : goal.returns-clause-value
unfolding raster_block
returns-clause-value c =
    let plane = c.args.self.now in
    c.coded_place_at.ensures.value ∙ ap (λ w. place_of plane.geom.now (block_at plane.pli (c.args.place % w) (c.args.place / w))) plane.is_plane.columns_are
