use Rattle.std.proofs.Common.{arith, sym, drop}
use Rattle.std.proofs.lemmas.Grind.{common_steps}
use Rattle.std.proofs.lemmas.List.{take-append-drop}
use Rattle.vid_desk.proofs.mem.calls.MemDeskDesk.append.Goals as goal

pub returns-in-Some-clause-appended : goal.returns-in-Some-clause-appended
returns-in-Some-clause-appended c =
    let part = c.in-Some.part in
    let piece = c.args.piece.now in
    (c.first_bytes.result.now, drop part piece, rw c.first_bytes.ensures (sym (take-append-drop part piece)), grind (arith, common_steps))
