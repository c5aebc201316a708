use Rattle.std.proofs.Common.{ℕ, ◌<◌, List, length, sym, subst}
use Rattle.std.specs.List.{All}
use Rattle.enc_packet.proofs.RowLemmas.{rows_small, rows_some}
use Rattle.enc_packet.proofs.rows.Rows.new.Goals as goal

-- some row is full, since the least one was found
pub invariant_of-result : goal.invariant_of-result
invariant_of-result c =
    let full = c.in_ok-_first.ensures.full in
    let P : List ℕ → Type 0 = λ numbers. (0 < length numbers) × All (λ number. number < 16) numbers in
    subst P (sym c.numbers_of-numbers.ensures) (rows_some c.args.forest.now c.in_ok-_first._first full.0 full.1, rows_small c.args.forest.now)
