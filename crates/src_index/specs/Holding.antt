-- What the packets so far keep, as lists (private).
use Rattle.std.specs.Prelude.{◌≡◌, ◌+◌, ◌-◌, ◌<◌, ◌≤◌, ℕ, Bool, List, Option, Some, None, map, length}
use Rattle.ogg_link.specs.declared.state.Progress.{Progress}
use Rattle.src_index.specs.declared.packets.Packets.{Packets}
use Rattle.src_index.specs.declared.packets.Place.{Place}
use Rattle.src_index.specs.declared.packets.Frame.{Frame}
use Rattle.src_index.specs.Index.{Place as PlaceIn, Frame as FrameIn}
use Rattle.src_index.specs.Headers.{packets_in, said_of}
use Rattle.src_index.specs.Said.{shift_of}
use Rattle.ogg_link.specs.Spacing.{AreSpaced, gap}
use Rattle.src_index.specs.Pages.{marks_of}
use Rattle.src_index.specs.Kept.{Kept}

abbrev pub place_of : Place → PlaceIn
place_of place = record { page = place.page; segment = place.segment }

abbrev pub frame_of : Frame → FrameIn
frame_of frame = record { place = record { page = frame.page; segment = frame.segment }; key = frame.key; quantiser = frame.quantiser }

abbrev pub kept_of : Packets → Kept
kept_of packets = record {
  headers = packets_in packets.headers;
  marks = marks_of packets.pages;
  frames = map frame_of packets.frames.items;
  quantiser = packets.quantiser;
  place = place_of packets.place;
  begun = packets.begun.items;
}

-- the last key frame, and 0 where there is none
abbrev pub last_of : Option ℕ → ℕ
last_of None = 0
last_of (Some key) = key

-- so many frames with these key marks are spaced, and this is the last key frame among them
pub record IsSpaced (shift count : ℕ) (last_key : Option ℕ) (keys : List Bool) : Type 0 where
  pub spaced : AreSpaced shift keys
  pub none : count ≡ 0 → last_key ≡ None
  pub before : last_of last_key ≤ count
  pub behind : gap 0 keys ≡ count - last_of last_key

-- so many packets that have ended are headers or frames, and no frame comes before three headers; the frames are spaced, and this
-- is the last key frame among them
pub record IsTallied (count : ℕ) (last_key : Option ℕ) (shift : ℕ) (kept : Kept) : Type 0 where
  pub all : count ≡ length kept.headers + length kept.frames
  pub headers_first : 0 < length kept.frames → length kept.headers ≡ 3
  pub spaced : IsSpaced shift (length kept.frames) last_key (map (λ frame. frame.key) kept.frames)

-- those that are kept are as many as a walk's book counts
abbrev pub AreTallied : Progress → Packets → Type 0
AreTallied book packets = IsTallied book.packets book.last_key (shift_of (said_of packets.headers)) (kept_of packets)
