-- Joined slices (own): neighbours in the list of which one ends where the next begins, in the same source, are one.
use Rattle.std.specs.Prelude.{ℕ, ◌-◌, List, [], ◌∷◌, ◌++◌, map, ◌==◌, ◌&&◌, if◌then◌else◌}
use Rattle.std.specs.List.{range_with_len}
use Rattle.cut_list.specs.Slices.{Slice, Slices}

-- frames `first` to `past` - 1 of a source
pub record Span : Type 0 where
  pub src : ℕ
  pub first : ℕ
  pub past : ℕ

abbrev pub Spans : Type 0
Spans = List Span

-- the frames of a slice
abbrev pub span_of : Slice → Span
span_of slice = record { src = slice.src; first = slice.first; past = slice.past }

-- a span before joined ones
abbrev pub join : Span → Spans → Spans
join span [] = span ∷ []
join span (next ∷ spans) =
    if span.src == next.src && span.past == next.first then record { src = span.src; first = span.first; past = next.past } ∷ spans
    else span ∷ next ∷ spans

-- the joined slices of a list
unfoldable pub joined : Slices → Spans
joined [] = []
joined (slice ∷ slices) = join (span_of slice) (joined slices)

-- a frame of a source
pub record Frame : Type 0 where
  pub src : ℕ
  pub n : ℕ

abbrev pub Frames : Type 0
Frames = List Frame

-- the frames that a span names, one by one
unfoldable pub frames_of : Span → Frames
frames_of span = map (λ n. record { src = span.src; n = n }) (range_with_len span.first (span.past - span.first))

-- the frames that spans name
abbrev pub all_frames : Spans → Frames
all_frames [] = []
all_frames (span ∷ spans) = frames_of span ++ all_frames spans

-- slices as spans, not joined
abbrev pub spans_of : Slices → Spans
spans_of slices = map span_of slices
