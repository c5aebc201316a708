-- (private) The frames of a store: k holds three, and the golden one is the previous or the spare one.
use Rattle.std.specs.Prelude.{Bool}
use Rattle.vid_plane.specs.Frames.{References}
use Rattle.vid_plane.specs.declared.frame.Frame.{Frame}
use Rattle.vid_plane.specs.declared.store.Kept.{Kept}
use Rattle.vid_plane.specs.declared.store.GoldenIs.{GoldenIs}
use Rattle.vid_plane.specs.declared.store.GoldenIs.TheVariants.{Prev, Spare}

abbrev pub golden_at : Kept → GoldenIs → Frame
golden_at k Prev = k.prev
golden_at k Spare = k.spare

abbrev pub golden_of : Kept → Frame
golden_of k = golden_at k k.golden

abbrev pub references_of : Kept → Bool → References
references_of k started = record { now = k.now; prev = k.prev; golden = golden_of k; spare = k.spare; started = started }
