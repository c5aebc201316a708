use Rattle.std.proofs.Common.{◌≡◌, ◌∙◌, sym, ap, refl, subst}
use Rattle.vid_plane.specs.Frames.{IsFrameOf}
use Rattle.thr_setup.specs.Setup.{contents}
use Rattle.thr_setup.specs.declared.setup.Setup.{Setup}
use Rattle.thr_frame.specs.Ready.{IsStore}
use Rattle.thr_frame.proofs.DecodingLemmas.{blank_sealed}
use Rattle.enc_packet.specs.FullRows.{full_rows}
use Rattle.enc_frame.proofs.ListsLemmas.{whole_of}
use Rattle.enc_frame.proofs.encoder.Encoder.with_rows.Goals as goal

pub invariant_of-result : goal.invariant_of-result
invariant_of-result c =
    let s = c.shape-shape.result in
    let g = c.in_ok-geom.geom in
    let geom : g ≡ s = c.in_ok-geom.ensures in
    let store : IsStore s c.in_ok-store.store = record {
      sized = c.in_ok-store.ensures.sized;
      prev_sealed = rw c.in_ok-store.ensures.value (blank_sealed s);
      golden_sealed = rw c.in_ok-store.ensures.value (blank_sealed s);
      fresh = λ _. rw c.in_ok-store.ensures.value refl;
    } in
    (c.requires ∙ ap (λ (t : Setup). full_rows (contents t).forest) (sym c.in_ok-setup.ensures.cases), subst (λ g. IsStore g c.in_ok-store.store) (sym geom) store, whole_of g c.in_ok-made.made.0 c.in_ok-made.ensures.whole, c.in_ok-made.ensures.coded, c.in_ok-made.ensures.work, c.in_ok-made.ensures.target)
