use Rattle.std.proofs.Common.{◌≡◌, ◌-◌, arith}
use Rattle.vid_base.proofs.PlaceLemmas.{piece_to_end, piece_within, one_shifted}
use Rattle.vid_base.proofs.reader.piece_at.Goals as goal

pub returns-then-count-room-clause-bits : goal.returns-then-count-room-clause-bits
returns-then-count-room-clause-bits c =
    let none : 8 - c.from-room.result - c.min-count.result ≡ 0 = omega arith in
    rw (one_shifted c.min-count.result 32 (omega arith), c.from.ensures, none)
    (piece_to_end c.args.bytes.now c.args.at c.args.shift c.min-count.result (omega arith) c.requires.at)

pub returns-else-count-room-clause-bits : goal.returns-else-count-room-clause-bits
returns-else-count-room-clause-bits c =
    rw (one_shifted c.min-count.result 32 (omega arith), c.from.ensures)
    (piece_within c.args.bytes.now c.args.at c.args.shift c.min-count.result (8 - c.from-room.result - c.min-count.result) (omega arith) c.requires.at)
