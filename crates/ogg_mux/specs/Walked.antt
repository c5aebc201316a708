-- Written streams, and that a walk goes over their pages without a fault (RFC 3533, 4 to 6; Theora I, A.2).
use Rattle.std.specs.Prelude.{◌≡◌, ℕ, ◌^◌, ◌≤◌, ◌<◌, true, List, [], ◌∷◌, length, map, Ok}
use Rattle.ogg_page.specs.Page.{Page}
use Rattle.ogg_link.specs.declared.state.State.{State}
use Rattle.ogg_link.specs.Track.{begins_track, is_key}
use Rattle.ogg_link.specs.Spacing.{AreSpaced}
use Rattle.ogg_link.specs.Walk.{step, ended, is_of_track}
use Rattle.ogg_link.specs.Faultless.{stepped}
use Rattle.ogg_link.specs.Granules.{settled}
use Rattle.ogg_mux.specs.OutputPages.{Stream}

-- the numbers of a stream fit their fields, and so do the granule positions of so many frames
pub record HasRoom (stream : Stream) (packets : List (List ℕ)) : Type 0 where
  pub serial : stream.serial < 2 ^ 32
  pub shift : stream.shift ≤ 31
  pub base : stream.base ≤ 1
  pub count : length packets ≤ 2 ^ 24

-- a stream of the Theora track: the identification header fits one page, the first frame is a key frame, and a granule
-- position can count each frame
pub record IsOfTrack (stream : Stream) (packets : List (List ℕ)) : Type 0 where
  pub room : HasRoom stream packets
  pub begins : begins_track stream.ident ≡ true
  pub short : length stream.ident < 65025
  pub spaced : AreSpaced stream.shift (map is_key packets)

-- a walk goes over these pages, all of the track, to the end of the file, and neither they nor their granule positions nor
-- the end have a fault
unfoldable pub GoesOver : ℕ → State → List Page → Type 0
GoesOver shift state [] = ended state ≡ Ok state
GoesOver shift state (page ∷ pages) =
    (found : State) × (is_of_track state page ≡ true) × (step state page ≡ Ok (stepped state page)) × (settled (stepped state page) shift ≡ Ok found)
    × GoesOver shift found pages
