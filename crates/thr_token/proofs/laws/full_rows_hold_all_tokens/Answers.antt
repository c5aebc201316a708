use Rattle.thr_token.proofs.RowLemmas.{held_by_row}
use Rattle.thr_token.proofs.laws.full_rows_hold_all_tokens.Goals as goal

pub returns : goal.returns
returns c = record { held_by_row = held_by_row }
