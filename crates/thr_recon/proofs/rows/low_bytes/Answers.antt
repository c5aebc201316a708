use Rattle.std.proofs.Common.{ℕ, ◌<◌, ◌∷◌, [], get_or, refl, arith, lit<}
use Rattle.thr_recon.proofs.RowLemmas.{eight, low_byte}
use Rattle.thr_recon.proofs.rows.low_bytes.Goals as goal
use lib.Lanes.{Each1}

pub returns : goal.returns
returns c =
    let at = λ (k : ℕ). get_or c.args.row k 0 in
    let row = at 0 ∷ at 1 ∷ at 2 ∷ at 3 ∷ at 4 ∷ at 5 ∷ at 6 ∷ at 7 ∷ [] in
    let fits : Each1 (λ x. x < 65536) row = (omega arith, (omega arith, (omega arith, (omega arith, (omega arith, (omega arith, (omega arith, (omega arith, tt)))))))) in
    eight (low_byte row 0 0 refl (lit< tt) fits) (low_byte row 1 2 refl (lit< tt) fits) (low_byte row 2 4 refl (lit< tt) fits) (low_byte row 3 6 refl (lit< tt) fits)
    (low_byte row 4 8 refl (lit< tt) fits) (low_byte row 5 10 refl (lit< tt) fits) (low_byte row 6 12 refl (lit< tt) fits) (low_byte row 7 14 refl (lit< tt) fits)
