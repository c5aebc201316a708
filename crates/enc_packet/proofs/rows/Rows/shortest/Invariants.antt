use Rattle.std.specs.List.{Contains}
use Rattle.enc_packet.proofs.rows.Rows.shortest.Given as goal

abbrev pub invariant-rows : goal.invariant-rows
invariant-rows l = Contains l.numbers l.best
