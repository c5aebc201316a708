-- (private) What the code rebuilds a frame from.
use Rattle.std.specs.Prelude.{ℕ, List}
use Rattle.vid_plane.specs.Picture.{Picture}
use Rattle.thr_setup.specs.Setup.{contents}
use Rattle.thr_frame.specs.CodedFrame.{frame_of}
use Rattle.thr_frame.specs.Rebuilt.{Pair}
use Rattle.thr_frame.specs.Painted.{IsPainted}
use Rattle.thr_frame.specs.declared.sources.Sources.{Sources}
use Rattle.thr_frame.specs.declared.sources.PlaneSources.{PlaneSources}

-- the frames that are predicted from
abbrev pub refs_of : Sources → Pair
refs_of from = record { prev = from.prev.now; golden = from.golden.now }

-- which samples of a plane are done
abbrev pub IsPaintedFrom : PlaneSources → ℕ → List ℕ → Picture → Type 0
IsPaintedFrom plane m places p = IsPainted (contents plane.from.setup.now) plane.from.geom.now (refs_of plane.from) (frame_of plane.from.coded.now) plane.pli m places p
