-- Muxing in progress: the pages that came of the packets so far, and what is still to come of others (own).
use Rattle.std.specs.Prelude.{ℕ, Bool, List, ◌++◌}
use Rattle.ogg_mux.specs.OutputPages.{Held, pages_from, frame_segments}

-- the end of a frame packet closes its page from this body size on
abbrev pub least_body : ℕ
least_body = 4096

-- a muxer that was given so many frames, the last key frame of which is `key`: the page that is held, and the bytes of those
-- before it that were not taken
pub record Muxing : Type 0 where
  pub serial : ℕ
  pub shift : ℕ
  pub base : ℕ
  pub frames : ℕ
  pub key : ℕ
  pub held : Held
  pub ready : List ℕ
  pub finished : Bool

-- the bytes still to be taken, if these frame packets come and no more
unfoldable pub rest_of : Muxing → List (List ℕ) → List ℕ
rest_of muxing packets = muxing.ready ++ pages_from muxing.serial 4 muxing.held (frame_segments least_body muxing.base muxing.shift muxing.frames muxing.key packets)
