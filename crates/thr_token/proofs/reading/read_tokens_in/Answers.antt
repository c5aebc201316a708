use Rattle.std.proofs.Common.{◌∙◌, Ok, ap, arith}
use Rattle.std.proofs.lemmas.Result.{err_from_is_err_and}
use Rattle.thr_token.proofs.ReadingLemmas.{all_read, last_fault, results_is, untouched_is}
use Rattle.vid_geom.specs.CodedOrder.{order_of}
use Rattle.thr_token.proofs.reading.read_tokens_in.Goals as goal

pub returns-in_err-scan_later-clause-value : goal.returns-in_err-scan_later-clause-value
returns-in_err-scan_later-clause-value c =
    let p = err_from_is_err_and c.from_residual-in_err-scan_later.result c.from_residual-in_err-scan_later.ensures.1 in
    let begun = c.begin.ensures in
    let first = rw (c.at.ensures.all, c.at.ensures.place, c.in_ok-first.ensures.trees.0, c.in_ok-first.ensures.trees.1, begun.work, begun.values, begun.counts, untouched_is (order_of c.args.geom.now) c.args.flags.now c.requires.flags) at c.in_ok-run.ensures.value in
    let rest = rw (c.in_ok-later.ensures.trees.0, c.in_ok-later.ensures.trees.1) at c.in_err-scan_later.ensures.value in
    rw (p.1, p.2) (last_fault c.args.forest.now c.args.geom.now c.args.flags.now c.args.r.now.left _ _ _ _ _ _ _ _ c.in_ok-first.ensures.value first c.in_ok-later.ensures.value rest)

pub returns-clause-value : goal.returns-clause-value
returns-clause-value c =
    let begun = c.begin.ensures in
    let first = rw (c.at.ensures.all, c.at.ensures.place, c.in_ok-first.ensures.trees.0, c.in_ok-first.ensures.trees.1, begun.work, begun.values, begun.counts, untouched_is (order_of c.args.geom.now) c.args.flags.now c.requires.flags) at c.in_ok-run.ensures.value in
    let rest = rw (c.in_ok-later.ensures.trees.0, c.in_ok-later.ensures.trees.1) at c.in_ok-scan_later.ensures.value in
    let all = all_read c.args.forest.now c.args.geom.now c.args.flags.now c.args.r.now.left _ _ _ _ _ _ _ _ _ _ c.in_ok-first.ensures.value first c.in_ok-later.ensures.value rest in
    all ∙ ap (λ x. Ok (x, c.scan_later.new.r.left)) (results_is c.args.geom.now c.scan_later.new.work c.scan_later.new.values c.scan_later.new.counts (omega arith) (omega arith) (omega arith))
