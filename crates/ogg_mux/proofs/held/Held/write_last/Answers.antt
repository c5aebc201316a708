use Rattle.std.proofs.Common.{rules, ◌≡◌, ◌<◌, length}
use Rattle.ogg_mux.proofs.MuxLemmas.{last-none, last-one}
use Rattle.ogg_mux.proofs.held.Held.write_last.Goals as goal

pub returns-then-is_empty-clause-written : goal.returns-then-is_empty-clause-written
returns-then-is_empty-clause-written c =
    let none : length c.args.self.now.lacing ≡ 0 = search rules in
    last-none c.args.serial c.args.flags c.args.self.now c.args.ready.now.items none

pub returns-clause-written : goal.returns-clause-written
returns-clause-written c =
    let some : 0 < length c.args.self.now.lacing = search rules in
    rw (← last-one c.args.serial c.args.flags c.args.self.now some) c.write.ensures.written
