-- YUV4MPEG2 as it is read (own): a head, the pictures that stand whole, and the first departure from this form, where there is one; n counts the pictures before.
use Rattle.std.specs.Prelude.{◌≡◌, ℕ, ◌+◌, ◌*◌, ◌^◌, Bool, List, [], ◌∷◌, ◌++◌, length, take, drop, Option, Some, None, Result, Ok, Err, ◌==◌, ◌||◌, nat_eq, nat_le, codes, if◌then◌else◌}
use Rattle.std.specs.List.{starts_with}
use Rattle.std.specs.Option.{ok_or}
use Rattle.y4m_io.specs.declared.head.Head.{Head}
use Rattle.y4m_io.specs.declared.fault.Y4mWhy.{Y4mWhy}
use Rattle.y4m_io.specs.declared.fault.Y4mWhy.TheVariants.{Line, Frame, Short, Empty, TooMany}
use Rattle.y4m_io.specs.HeadLine.{head_in, longest_head}
use Rattle.y4m_io.specs.Pictures.{Samples, chroma_columns, chroma_rows}
use Rattle.y4m_io.specs.Places.{first_place}
use Rattle.y4m_io.specs.Steps.{◌>>=◌}

-- the most bytes of a frame's line with its line feed
abbrev pub longest_line : ℕ
longest_line = 256

-- the most frames
abbrev pub most_frames : ℕ
most_frames = 2 ^ 24

-- the first word of a frame's line, and what may stand behind it
abbrev pub begins_frame : List ℕ → Bool
begins_frame front = starts_with nat_eq front (codes "FRAME" ++ 10 ∷ []) || starts_with nat_eq front (codes "FRAME ")

-- how many bytes the line at the front of a text takes with its line feed; of the text this is as much as a line may take
unfoldable pub line_in : List ℕ → Result ℕ Y4mWhy
line_in front =
    if begins_frame front
    then (ok_or (first_place 10 front) (if nat_le longest_line (length front) then Line else Short) >>= λ end. Ok (end + 1))
    else Err Frame

-- samples of luma, and of each plane of chroma
abbrev pub luma_size : Head → ℕ
luma_size h = h.h * h.w

abbrev pub chroma_size : Head → ℕ
chroma_size h = chroma_rows h.h h.pf * chroma_columns h.w h.pf

abbrev pub planes_size : Head → ℕ
planes_size h = luma_size h + chroma_size h + chroma_size h

-- the picture of these bytes
unfoldable pub picture_in : Head → List ℕ → Samples
picture_in h bytes = record {
  w = h.w;
  h = h.h;
  pf = h.pf;
  y = take (luma_size h) bytes;
  cb = take (chroma_size h) (drop (luma_size h) bytes);
  cr = take (chroma_size h) (drop (luma_size h + chroma_size h) bytes);
}

-- a picture, and how many bytes it takes with its line
pub record FrameRead : Type 0 where
  pub picture : Samples
  pub size : ℕ

-- the frame at the front of these bytes
unfoldable pub frame_in : Head → List ℕ → Result FrameRead Y4mWhy
frame_in h bytes = do
  line ← line_in (take longest_line bytes)
  if nat_le (line + planes_size h) (length bytes) then Ok (record { picture = picture_in h (drop line bytes); size = line + planes_size h }) else Err Short

-- what comes behind n frames: nothing, where there was one; or a frame
unfoldable pub next_in : Head → ℕ → List ℕ → Result (Option FrameRead) Y4mWhy
next_in h n [] = if n == 0 then Err Empty else Ok None
next_in h n (c ∷ bytes) = if nat_le most_frames n then Err TooMany else (frame_in h (c ∷ bytes) >>= λ frame. Ok (Some frame))

-- a departure, and the number of whole frames before it
pub record Departure : Type 0 where
  pub frame : ℕ
  pub why : Y4mWhy

-- from byte `at` on, behind n frames, stand these pictures, and then that departure, or the end
unfoldable pub GoesOn : Head → ℕ → ℕ → List ℕ → List Samples → Option Departure → Type 0
GoesOn h n at bytes [] None = next_in h n (drop at bytes) ≡ Ok None
GoesOn h n at bytes [] (Some d) = (next_in h n (drop at bytes) ≡ Err d.why) × (d.frame ≡ n)
GoesOn h n at bytes (p ∷ ps) bad = (size : ℕ) × (next_in h n (drop at bytes) ≡ Ok (Some (record { picture = p; size = size }))) × GoesOn h (n + 1) (at + size) bytes ps bad

-- a text has that head, these pictures, and then that departure, where there is one
unfoldable pub IsY4m : List ℕ → Head → List Samples → Option Departure → Type 0
IsY4m bytes head pictures bad = (size : ℕ) × (head_in (take longest_head bytes) ≡ Ok (record { head = head; size = size })) × GoesOn head 0 size bytes pictures bad

-- a text departs in its head
abbrev pub HasBadHead : List ℕ → Y4mWhy → Type 0
HasBadHead bytes why = head_in (take longest_head bytes) ≡ Err why
