use Rattle.std.proofs.Common.{◌∙◌, ◌+◌, ap, sym}
use Rattle.vid_plane.specs.Picture.{pixel}
use Rattle.vid_plane.specs.Border.{nearest}
use Rattle.vid_plane.specs.Seen.{picture_of, left_of, lower_of}
use Rattle.vid_plane.proofs.WindowLemmas.{seen_is}
use Rattle.vid_plane.proofs.window.Window.at.Goals as goal

pub returns : goal.returns
unfolding picture_of left_of lower_of
returns c =
    let p = c.args.self.now.plane.now in
    c.near.ensures
    ∙ ap (λ d. pixel p (nearest (c.args.self.now.column + d) p.width) (nearest (c.args.self.now.row + c.from-2.result) p.height)) c.from.ensures
    ∙ ap (λ e. pixel p (nearest (c.args.self.now.column + c.args.dx) p.width) (nearest (c.args.self.now.row + e) p.height)) c.from-2.ensures
    ∙ sym (seen_is p c.args.self.now.column c.args.dx c.args.self.now.row c.args.dy)
