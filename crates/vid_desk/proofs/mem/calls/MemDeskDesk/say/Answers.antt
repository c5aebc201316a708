use Rattle.std.proofs.Common.{rules, sym, take, drop}
use Rattle.std.proofs.lemmas.List.{take-append-drop}
use Rattle.vid_desk.proofs.mem.calls.MemDeskDesk.say.Goals as goal

pub returns-in-Some-clause-said : goal.returns-in-Some-clause-said
returns-in-Some-clause-said c =
    let part = c.in-Some.part in
    let piece = c.args.piece.now in
    (take part piece, drop part piece, sym (take-append-drop part piece), search rules)
