-- (private) What a decoder holds between two steps.
use Rattle.std.specs.Prelude.{◌≡◌, false, None}
use Rattle.vid_base.specs.declared.shape.Shape.{Shape}
use Rattle.vid_plane.specs.Frames.{References, AreOf}
use Rattle.thr_frame.specs.declared.coded.Coded.{Coded}
use Rattle.thr_frame.specs.declared.work.Work.{Work}
use Rattle.thr_frame.specs.CodedFrame.{IsSized, frame_of}
use Rattle.thr_frame.specs.Parsed.{blank_values}
use Rattle.thr_frame.specs.Rebuilt.{pair_in}
use Rattle.thr_frame.specs.Painted.{AreSealed}
use Rattle.thr_frame.specs.Step.{pair_of}
use Rattle.thr_frame.specs.Work.{IsWorkFor}

-- frames that can be predicted from, blank before the first
pub record IsStore (s : Shape) (store : References) : Type 0 where
  pub sized : AreOf s store
  pub prev_sealed : AreSealed store.prev
  pub golden_sealed : AreSealed store.golden
  pub fresh : store.started ≡ false → pair_in store ≡ pair_of s None

-- lists of a frame, all values 0, and lists to parse with
pub record AreLists (s : Shape) (coded : Coded) (work : Work) : Type 0 where
  pub sized : IsSized s (frame_of coded)
  pub blank : coded.coeffs.values.items ≡ blank_values s
  pub works : IsWorkFor s work
