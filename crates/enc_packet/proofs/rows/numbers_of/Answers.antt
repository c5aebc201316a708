use Rattle.std.proofs.Common.{◌∙◌, ap, length, arith}
use Rattle.enc_packet.proofs.RowLemmas.{row_kept, row_left}
use Rattle.enc_packet.proofs.rows.numbers_of.Goals as goal
use Rattle.enc_packet.proofs.rows.numbers_of.Goals.{then-is_full_row, else-is_full_row}

pub rows-preserved : goal.rows-preserved
rows-preserved c =
    elim c.if-is_full_row.branch [
      | then-is_full_row w ↦ record {
        found = ap (λ v. v.items) w.numbers-is ∙ row_kept c.args.forest.now c.rows.number c.rows.numbers.items _ c.is_full_row.result w.if-is_full_row.true c.is_full_row.ensures c.rows.invariant.found w.push.ensures.items;
        few = omega (arith, ap (λ v. length v.items) w.numbers-is, w.push.ensures.len);
      }
      | else-is_full_row w ↦ record {
        found = ap (λ v. v.items) w.numbers-is ∙ row_left c.args.forest.now c.rows.number c.rows.numbers.items c.is_full_row.result w.if-is_full_row.false c.is_full_row.ensures c.rows.invariant.found;
        few = omega (arith, ap (λ v. length v.items) w.numbers-is);
      }
    ]
