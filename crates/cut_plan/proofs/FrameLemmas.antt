-- Joining keeps the frames that slices name, one by one. The law of joined slices cites this.
use Rattle.std.proofs.Common.{◌≡◌, ℕ, ◌+◌, ◌-◌, ◌≤◌, Bool, true, false, List, [], ◌∷◌, ◌++◌, map, refl, ap, ◌∙◌, arith, append_assoc}
use Rattle.std.specs.Prelude.{◌==◌, ◌&&◌, ⊤, if◌then◌else◌}
use Rattle.std.specs.List.{range_with_len}
use Rattle.std.proofs.lemmas.Bool.{and_parts, eqb-true}
use Rattle.cut_list.specs.Slices.{slice_view, slices_view}
use Rattle.cut_list.specs.declared.list.Slice.{Slice as SliceStruct}
use Rattle.cut_plan.proofs.LawLemmas.{range_cut}
use Rattle.cut_plan.specs.Spans.{Frame, Span, Spans, all_frames, frames_of, join, joined, span_of, spans_of}

-- each span ends behind its first frame
Ordered : Spans → Type 0
Ordered [] = ⊤
Ordered (span ∷ spans) = (span.first ≤ span.past) × Ordered spans

map_append : (f : ℕ → Frame) (ns ms : List ℕ) → map f (ns ++ ms) ≡ map f ns ++ map f ms
map_append f [] ms = refl
map_append f (n ∷ ns) ms = ap (λ fs. f n ∷ fs) (map_append f ns ms)

-- two spans that touch have the frames of one
touching-frames : (src first middle past : ℕ) → first ≤ middle → middle ≤ past
    → frames_of (record { src = src; first = first; past = past }) ≡ frames_of (record { src = src; first = first; past = middle }) ++ frames_of (record { src = src; first = middle; past = past })
unfolding frames_of
touching-frames src first middle past low high =
    let f : ℕ → Frame = λ n. record { src = src; n = n } in
    let all : past - first ≡ (middle - first) + (past - middle) = omega (arith, low, high) in
    let at : first + (middle - first) ≡ middle = omega (arith, low) in
    ap (λ k. map f (range_with_len first k)) all ∙ ap (map f) (range_cut first (middle - first) (past - middle))
    ∙ map_append f (range_with_len first (middle - first)) (range_with_len (first + (middle - first)) (past - middle))
    ∙ ap (λ a. map f (range_with_len first (middle - first)) ++ map f (range_with_len a (past - middle))) at

join-frames : (span : Span) (spans : Spans) → span.first ≤ span.past → Ordered spans → Ordered (join span spans) × (all_frames (join span spans) ≡ frames_of span ++ all_frames spans)
unfolding Ordered
join-frames span [] one all = ((one, tt), refl)
join-frames span (next ∷ spans) one all = go (span.src == next.src && span.past == next.first) refl
  where
    go : (b : Bool) → (span.src == next.src && span.past == next.first) ≡ b
        → Ordered (if b then record { src = span.src; first = span.first; past = next.past } ∷ spans else span ∷ next ∷ spans)
        × (all_frames (if b then record { src = span.src; first = span.first; past = next.past } ∷ spans else span ∷ next ∷ spans) ≡ frames_of span ++ (frames_of next ++ all_frames spans))
    go false e = ((one, all), refl)
    go true e =
        let same : span.src ≡ next.src = eqb-true span.src next.src (and_parts (span.src == next.src) (span.past == next.first) e).0 in
        let touch : span.past ≡ next.first = eqb-true span.past next.first (and_parts (span.src == next.src) (span.past == next.first) e).1 in
        let high : span.past ≤ next.past = omega (arith, touch, all.0) in
        let parts = touching-frames span.src span.first span.past next.past one high in
        let second : frames_of (record { src = span.src; first = span.past; past = next.past }) ≡ frames_of next =
        ap (λ s. frames_of (record { src = s; first = span.past; past = next.past })) same ∙ ap (λ f. frames_of (record { src = next.src; first = f; past = next.past })) touch in (
          (omega (arith, one, high), all.1),
          ap (λ f. f ++ all_frames spans) (parts ∙ ap (λ f. frames_of span ++ f) second) ∙ append_assoc (frames_of span) (frames_of next) (all_frames spans),
        )

joined-both : (slices : List SliceStruct) → Ordered (joined (slices_view slices)) × (all_frames (joined (slices_view slices)) ≡ all_frames (spans_of (slices_view slices)))
unfolding joined Ordered
joined-both [] = (tt, refl)
joined-both (slice ∷ slices) =
    let rest = joined-both slices in
    let here = join-frames (span_of (slice_view slice)) (joined (slices_view slices)) (omega (arith, slice.ordered)) rest.0 in
    (here.0, here.1 ∙ ap (λ f. frames_of (span_of (slice_view slice)) ++ f) rest.1)

pub joined-frames : (slices : List SliceStruct) → all_frames (joined (slices_view slices)) ≡ all_frames (spans_of (slices_view slices))
joined-frames slices = (joined-both slices).1
