-- The packets that the program found in a source's bytes.
use Rattle.std.specs.Prelude.{ℕ, List, ◌+◌, ◌/◌, ◌≤◌, length, map, All}
use Rattle.cut_slice.specs.declared.source.Source.{Source}
use Rattle.cut_slice.specs.declared.source.Headers.{Headers}
use Rattle.cut_slice.specs.Plain.{Packets}
use Rattle.cut_slice.specs.Copy.{IsShort}

abbrev pub packets_view : Source → Packets
packets_view source = record { ident = source.ident.now; comment = source.comment.now; setup = source.setup.now; frames = map (λ frame. frame.now) source.frames.items }

abbrev pub with_frames : List (List ℕ) → Headers → Packets
with_frames frames headers = record { ident = headers.ident.now; comment = headers.comment.now; setup = headers.setup.now; frames = frames }

-- each header stands on its page with at most 255 lacing values
pub record HaveShortHeaders (headers : Headers) : Type 0 where
  pub long : 42 ≤ length headers.ident.now
  pub ident : IsShort headers.ident.now
  pub others : length headers.comment.now / 255 + length headers.setup.now / 255 + 2 ≤ 255

-- each packet stands whole on one page
pub record IsCopyable (source : Source) : Type 0 where
  pub long : 42 ≤ length source.ident.now
  pub ident : IsShort source.ident.now
  pub others : length source.comment.now / 255 + length source.setup.now / 255 + 2 ≤ 255
  pub frames : All IsShort (map (λ frame. frame.now) source.frames.items)
