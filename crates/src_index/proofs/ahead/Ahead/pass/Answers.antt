use Rattle.std.proofs.Common.{rules, ◌≤◌, length}
use Rattle.src_index.proofs.AheadLemmas.{bytes_passed}
use Rattle.src_index.proofs.ahead.Ahead.pass.Goals as goal

pub returns-clause-lies : goal.returns-clause-lies
returns-clause-lies c = λ bytes lies.
    let now = c.args.self.now in
    let fits : now.past ≤ length now.buf.items = search rules in
    record { size = lies.size; rest = lies.rest; whole = bytes_passed now.buf.items lies.rest bytes now.at now.first now.past c.args.count c.requires fits lies.whole }
