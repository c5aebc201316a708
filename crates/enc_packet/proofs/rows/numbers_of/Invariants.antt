use Rattle.std.proofs.Common.{◌≡◌, ◌≤◌, length}
use Rattle.std.specs.List.{filter, range_with_len}
use Rattle.thr_huff.specs.Rows.{is_full_row}
use Rattle.enc_packet.proofs.rows.numbers_of.Given as goal

abbrev pub invariant-rows : goal.invariant-rows
invariant-rows l = record {
  found : l.numbers.items ≡ filter (λ number. is_full_row l.forest number) (range_with_len 0 l.number);
  few : length l.numbers.items ≤ l.number;
}
