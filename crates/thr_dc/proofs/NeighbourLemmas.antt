-- The blocks around a block by their columns and rows. The walk through a plane cites these.
use Rattle.std.proofs.Common.{◌≡◌, ◌≢◌, ◌∙◌, ℕ, zero, suc, ◌+◌, ◌-◌, ◌*◌, ◌<◌, ◌≤◌, ◌&&◌, nat_lt, nat_le, Bool, true, false, List, length, get_or, set, take, Option, None, refl, sym, ap, arith}
use Rattle.std.proofs.lemmas.Bool.Decides.{nat_tests}
use Rattle.std.proofs.lemmas.List.{get_or-set_same, get_or-set_other}
use Rattle.std.proofs.Math.Nat.{suc-mul}
use Rattle.thr_dc.specs.declared.plane.CodedBlock.{CodedBlock}
use Rattle.thr_dc.specs.declared.plane.Known.{Known}
use Rattle.thr_dc.specs.Blocks.{Coded}
use Rattle.thr_dc.specs.Planes.{IsAlong, IsKnown, at_lower_right, coded, found}
use Rattle.thr_dc.specs.Predictor.{from_neighbours}
use Rattle.thr_dc.specs.Prediction.{around, counted, neighbour}
use Rattle.thr_dc.proofs.PlaneLemmas.{along_below, along_left, along_right, column_is}
use Rattle.thr_dc.proofs.PredictionLemmas.{around_at}

-- a block has one below where it is not in the first row
below_there : (w place column row : ℕ) → IsAlong w place column row → nat_le w place ≡ nat_lt 0 row
below_there w place column zero along = grind (arith, nat_tests, along.inside, along.place_is)
below_there w place column (suc row) along = grind (arith, nat_tests, along.inside, along.place_is)

-- the block at a place by its column and row
found_at : (w kind place column row : ℕ) (blocks : List (Option Coded)) (there : Bool) → (there ≡ true → IsAlong w place column row) → neighbour kind blocks there place ≡ counted kind (found w blocks there column row)
found_at w kind place column row blocks true along = ap (λ p. counted kind (get_or blocks p None)) (along refl).place_is
found_at w kind place column row blocks false along = refl

-- what the blocks around a block predict
pub around_known : (w kind place column row : ℕ) (blocks : List (Option Coded)) (known : Known) (right : Option CodedBlock) → IsAlong w place column row → place ≤ length blocks
    → IsKnown w blocks column row known → coded right ≡ at_lower_right w blocks column row
    → around w (take place blocks) kind ≡ from_neighbours (counted kind (coded known.left)) (counted kind (coded known.lower_left)) (counted kind (coded known.below)) (counted kind (coded right))
around_known w kind place column row blocks known right along h is right_is =
    let here = rw (column_is w place column row along, below_there w place column row along) at (around_at w kind place blocks (omega (arith, along.inside)) h) in
    let low : nat_lt 0 row ≡ true → w ≤ place = λ e. grind (arith, nat_tests, below_there w place column row along, e) in
    let left = found_at w kind (place - 1) (column - 1) row blocks (nat_lt 0 column) (λ e. along_left w place column row (grind (arith, nat_tests, e)) along) in
    let below : nat_lt 0 row ≡ true → IsAlong w (place - w) column (row - 1) = λ e. along_below w place column row (low e) along in
    let lower_left = found_at w kind (place - w - 1) (column - 1) (row - 1) blocks (nat_lt 0 column && nat_lt 0 row) (λ e. along_left w (place - w) column (row - 1) (grind (arith, nat_tests, e)) (below (grind (arith, nat_tests, e)))) in
    let lower = found_at w kind (place - w) column (row - 1) blocks (nat_lt 0 row) below in
    let lower_right = found_at w kind (place - w + 1) (column + 1) (row - 1) blocks (nat_lt 0 row && nat_lt (column + 1) w) (λ e. along_right w (place - w) column (row - 1) (grind (arith, nat_tests, e)) (below (grind (arith, nat_tests, e)))) in
    here ∙ rw (left, lower_left, lower, lower_right, is.left, is.lower_left, is.below, right_is) refl

-- a block stays where another changes
found_still : (w place column row : ℕ) (blocks : List (Option Coded)) (block : Option Coded) (there : Bool) → (there ≡ true → row * w + column ≢ place) → found w (set blocks place block) there column row ≡ found w blocks there column row
found_still w place column row blocks block true apart = get_or-set_other blocks place (row * w + column) block None (apart refl)
found_still w place column row blocks block false apart = refl

-- a test that holds need not be asked
found_more : (w column row : ℕ) (blocks : List (Option Coded)) (there more : Bool) → more ≡ true → found w blocks (there && more) column row ≡ found w blocks there column row
found_more w column row blocks true more e = rw e refl
found_more w column row blocks false more e = refl

-- where a block has changed, what is known of the blocks around it is known of those around the block to its right
pub known_right : (w place column row : ℕ) (blocks : List (Option Coded)) (known : Known) (here right : Option CodedBlock) → IsAlong w place column row → place < length blocks → column + 1 < w
    → IsKnown w blocks column row known → coded right ≡ at_lower_right w blocks column row
    → IsKnown w (set blocks place (coded here)) (column + 1) row (record { left = here; lower_left = known.below; below = right })
known_right w place column row blocks known here right along h more is right_is =
    let some : nat_lt 0 (column + 1) ≡ true = grind (arith, nat_tests) in
    let inside : nat_lt (column + 1) w ≡ true = grind (arith, nat_tests) in
    let back : column + 1 - 1 ≡ column = omega arith in
    let low : nat_lt 0 row ≡ true → row * w ≡ (row - 1) * w + w = λ e.
    let some_row : 0 < row = grind (arith, nat_tests, e) in
    let next : row ≡ suc (row - 1) = omega arith in
    ap (λ r. r * w) next ∙ suc-mul (row - 1) w in
    record {
      left = rw (some, back, ← along.place_is) (sym (get_or-set_same blocks place (coded here) None h));
      lower_left = rw (some, back) (is.below ∙ sym (found_still w place column (row - 1) blocks (coded here) (nat_lt 0 row) (λ e. omega (arith, along.inside, along.place_is, low e))));
      below = right_is ∙ found_more w (column + 1) (row - 1) blocks (nat_lt 0 row) (nat_lt (column + 1) w) inside
          ∙ sym (found_still w place (column + 1) (row - 1) blocks (coded here) (nat_lt 0 row) (λ e. omega (arith, along.inside, along.place_is, low e)));
    }
