use Rattle.std.proofs.Common.{◌∙◌, refl, sym}
use Rattle.vid_plane.specs.Picture.{sealed_picture}
use Rattle.enc_frame.proofs.tests.drawn.Goals as goal

pub returns-clause-sized : goal.returns-clause-sized
unfolding sealed_picture
returns-clause-sized c =
    let first = c.in_ok-frame.ensures.sized in
    rw c.seal.ensures (record {
      y = record { width = sym c.draw.ensures.same_width ∙ first.y.width; height = sym c.draw.ensures.same_height ∙ first.y.height };
      cb = record { width = sym c.draw-2.ensures.same_width ∙ first.cb.width; height = sym c.draw-2.ensures.same_height ∙ first.cb.height };
      cr = record { width = sym c.draw-3.ensures.same_width ∙ first.cr.width; height = sym c.draw-3.ensures.same_height ∙ first.cr.height };
    })

pub returns-clause-sealed : goal.returns-clause-sealed
unfolding sealed_picture
returns-clause-sealed c = rw c.seal.ensures (record { y = refl; cb = refl; cr = refl })
