use Rattle.std.proofs.lemmas.List.{append-nil}
use Rattle.vid_desk.proofs.MeaningLemmas.{reads_one, grown_twice, grown_reads, grown_append}
use Rattle.vid_desk.proofs.tests.append_both.Goals as goal

pub returns-clause-grown : goal.returns-clause-grown
returns-clause-grown g c =
    let old = g.D.Desk.sees c.args.desk.now in
    let once = g.D.Desk.sees c.write.new.desk in
    let looked = g.D.Desk.sees c.size.new.self in
    let new = g.D.Desk.sees c.write-2.new.desk in
    let came = grown_append old once c.args.to c.args.first.now c.in_ok-write.ensures.appended in
    let reads = grown_reads once looked c.args.to (reads_one once looked once.asked c.in_ok-size.ensures.kept) in
    let next = grown_append looked new c.args.to c.args.second.now c.in_ok-write-2.ensures.appended in
    rw append-nil at (grown_twice old looked new c.args.to _ _ (grown_twice old once looked c.args.to _ _ came reads) next)
