-- Forced frames (own): no key frame stands at or before one in its joined slice. `marks` are, for each source, which of its
-- frames are key frames.
use Rattle.std.specs.Prelude.{ℕ, ◌+◌, ◌-◌, Bool, List, [], ◌∷◌, ◌++◌, map, not, ◌&&◌, ◌==◌, slice_index_or, slice_range}
use Rattle.std.specs.List.{list_any, range_with_len}
use Rattle.cut_plan.specs.Spans.{Span, Spans}

abbrev pub Marks : Type 0
Marks = List Bool

-- the marks of a source; sources count from 1
abbrev pub marks_of : List Marks → ℕ → Marks
marks_of marks src = slice_index_or marks (src - 1) []

-- whether frame n of a joined slice is forced
unfoldable pub is_forced : Marks → Span → ℕ → Bool
is_forced marks span n = not (list_any (λ key. key) (slice_range marks span.first (n + 1)))

-- how a listed frame is to be written: coded again or copied, and whether it is coded as a key frame
pub record Planned : Type 0 where
  pub src : ℕ
  pub n : ℕ
  pub coded : Bool
  pub key : Bool

-- the frames of a joined slice: forced ones are coded, the first as a key frame
unfoldable pub planned_in : Marks → Span → List Planned
planned_in marks span =
    map (λ n. record { src = span.src; n = n; coded = is_forced marks span n; key = is_forced marks span n && n == span.first })
    (range_with_len span.first (span.past - span.first))

-- the frames of all joined slices, one by one
abbrev pub planned : List Marks → Spans → List Planned
planned marks [] = []
planned marks (span ∷ spans) = planned_in (marks_of marks span.src) span ++ planned marks spans
