-- A slice joined to the span before it, or not. The loop that joins cites these.
use Rattle.std.proofs.Common.{◌≡◌, Bool, true, false, List, [], ◌∷◌, refl, arith}
use Rattle.std.specs.Prelude.{◌&&◌, ◌==◌, ◌≤◌, nat_lt, cond, Some, None, length, unwrap_or}
use Rattle.std.specs.List.{position, position_or_len}
use Rattle.std.proofs.lemmas.Bool.{ltb-false}
use Rattle.cut_plan.specs.Spans.{Span, Spans, join}

-- a span that ends where the next begins goes on in it, whatever the next is joined to
pub join_touching : (span next : Span) (later : Spans) → (span.src == next.src && span.past == next.first) ≡ true
    → join span (join next later) ≡ join (record { src = span.src; first = span.first; past = next.past }) later
join_touching span next [] touch = rw touch refl
join_touching span next (other ∷ later) touch = grind arith

-- a span that does not stays alone
pub join_apart : (span next : Span) (later : Spans) → (span.src == next.src && span.past == next.first) ≡ false
    → join span (join next later) ≡ span ∷ join next later
join_apart span next [] apart = rw apart refl
join_apart span next (other ∷ later) apart = grind arith

place-le : (marks : List Bool) → position_or_len (λ key. key) marks ≤ length marks
place-le [] = omega arith
place-le (true ∷ marks) = omega arith
place-le (false ∷ marks) = omega (arith, place-le marks)

-- the first key frame, or how many frames there are
pub place-or_len : (marks : List Bool) → unwrap_or (position (λ key. key) marks) (length marks) ≡ position_or_len (λ key. key) marks
place-or_len marks = go (nat_lt (position_or_len (λ key. key) marks) (length marks)) refl
  where
    go : (b : Bool) → nat_lt (position_or_len (λ key. key) marks) (length marks) ≡ b
        → unwrap_or (cond b (Some (position_or_len (λ key. key) marks)) None) (length marks) ≡ position_or_len (λ key. key) marks
    go true e = refl
    go false e = omega (arith, place-le marks, ltb-false _ _ e)
