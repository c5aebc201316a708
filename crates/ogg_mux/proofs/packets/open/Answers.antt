use Rattle.std.proofs.Common.{sym}
use Rattle.ogg_mux.proofs.MuxLemmas.{turned, next_page-open, next_page-empty, length-more}
use Rattle.ogg_mux.proofs.packets.open.Goals as goal

pub returns-then-is_closed-clause-open : goal.returns-then-is_closed-clause-open
returns-then-is_closed-clause-open c = rw c.turn.ensures (next_page-open c.args.held.now)

pub returns-then-is_closed-clause-same : goal.returns-then-is_closed-clause-same
returns-then-is_closed-clause-same c last segment more = rw (c.turn.ensures, c.write_reserved.ensures.written) (turned c.args.serial last c.args.held.now c.args.ready.now.items segment more (sym c.if-is_closed.ensures))

pub returns-then-is_closed-clause-turned : goal.returns-then-is_closed-clause-turned
returns-then-is_closed-clause-turned c e =
    let empty = next_page-empty c.args.held.now in
    (rw c.turn.ensures empty.0, rw c.turn.ensures empty.1, length-more c.args.serial 0 c.args.held.now _ _ c.write_reserved.ensures.written)
