use Rattle.std.proofs.lemmas.Result.{err_from_is_err_and}
use Rattle.thr_token.specs.Coefficients.{results_of}
use Rattle.thr_token.proofs.CheckingLemmas.{begun_at}
use Rattle.thr_token.proofs.ReadingLemmas.{ac_fault, all_read, dc_fault, first_fault, last_fault}
use Rattle.thr_token.proofs.checking.check_tokens.Goals as goal

pub returns-in_err-first-clause-value : goal.returns-in_err-first-clause-value
returns-in_err-first-clause-value c =
    let p = err_from_is_err_and c.from_residual.result c.from_residual.ensures.1 in
    rw (p.1, p.2) (dc_fault c.args.forest.now c.args.geom.now c.args.flags.now c.args.r.now.left _ c.in_err-first.ensures.value)

pub returns-in_err-check_place-clause-value : goal.returns-in_err-check_place-clause-value
returns-in_err-check_place-clause-value c =
    let p = err_from_is_err_and c.from_residual-in_err-check_place.result c.from_residual-in_err-check_place.ensures.1 in
    let begun = c.new-waiting.ensures in
    let e = rw (c.at.ensures.all, c.at.ensures.place, c.in_ok-first.ensures.trees.0) at c.in_err-check_place.ensures in
    rw (p.1, p.2) (first_fault c.args.forest.now c.args.geom.now c.args.flags.now c.args.r.now.left _ _ _ c.in_ok-first.ensures.value
    (begun_at _ _ _ _ _ _ begun.all (e.fault begun.lumas begun.chromas begun.waiting_is)))

pub returns-in_err-later-clause-value : goal.returns-in_err-later-clause-value
returns-in_err-later-clause-value c =
    let p = err_from_is_err_and c.from_residual-in_err-later.result c.from_residual-in_err-later.ensures.1 in
    let begun = c.new-waiting.ensures in
    let e = rw (c.at.ensures.all, c.at.ensures.place, c.in_ok-first.ensures.trees.0) at c.in_ok-check_place.ensures in
    let first = e.behind begun.lumas begun.chromas begun.waiting_is in
    rw (p.1, p.2) (ac_fault c.args.forest.now c.args.geom.now c.args.flags.now c.args.r.now.left _ _ _ _ _ _ c.in_ok-first.ensures.value (begun_at _ _ _ _ _ _ begun.all first.same) c.in_err-later.ensures.value)

pub returns-in_err-check_later-clause-value : goal.returns-in_err-check_later-clause-value
returns-in_err-check_later-clause-value c =
    let p = err_from_is_err_and c.from_residual-in_err-check_later.result c.from_residual-in_err-check_later.ensures.1 in
    let begun = c.new-waiting.ensures in
    let e = rw (c.at.ensures.all, c.at.ensures.place, c.in_ok-first.ensures.trees.0) at c.in_ok-check_place.ensures in
    let first = e.behind begun.lumas begun.chromas begun.waiting_is in
    let later = rw (c.in_ok-later.ensures.trees.0) at c.in_err-check_later.ensures in
    rw (p.1, p.2) (last_fault c.args.forest.now c.args.geom.now c.args.flags.now c.args.r.now.left _ _ _ _ _ _ _ _ c.in_ok-first.ensures.value (begun_at _ _ _ _ _ _ begun.all first.same) c.in_ok-later.ensures.value
    (later.fault first.lumas_after first.chromas_after first.waiting_is))

pub returns-clause-value : goal.returns-clause-value
returns-clause-value c =
    let begun = c.new-waiting.ensures in
    let e = rw (c.at.ensures.all, c.at.ensures.place, c.in_ok-first.ensures.trees.0) at c.in_ok-check_place.ensures in
    let first = e.behind begun.lumas begun.chromas begun.waiting_is in
    let later = rw (c.in_ok-later.ensures.trees.0) at c.in_ok-check_later.ensures in
    let last = later.done first.lumas_after first.chromas_after first.waiting_is in
    (results_of last.all, all_read c.args.forest.now c.args.geom.now c.args.flags.now c.args.r.now.left _ _ _ _ _ _ _ _ _ _ c.in_ok-first.ensures.value (begun_at _ _ _ _ _ _ begun.all first.same) c.in_ok-later.ensures.value last.same)
