use Rattle.std.proofs.Common.{◌∙◌, sym, arith}
use Rattle.std.proofs.lemmas.Result.{err_from_is_err_and}
use Rattle.thr_token.specs.Coefficients.{token_in}
use Rattle.thr_token.specs.Standing.{lumas_of, standing}
use Rattle.thr_token.specs.Views.{as_numbers}
use Rattle.thr_token.proofs.PlaceLemmas.{places_fault, places_more}
use Rattle.thr_token.proofs.trees.Trees.scan_later.Goals as goal

pub returns-in_err-run-clause-value : goal.returns-in_err-run-clause-value
returns-in_err-run-clause-value c =
    let p = err_from_is_err_and c.from_residual.result c.from_residual.ensures.1 in
    let s = c.places in
    let trees = c.args.self.now in
    let fault = rw (c.at.ensures.all, c.at.ensures.place) at c.in_err-run.ensures in
    rw (p.1, p.2) (sym s.invariant.same ∙ places_fault (token_in trees.forest.now (as_numbers trees.numbers)) s.place (standing (lumas_of trees.geom.now) s.work s.values s.counts) s.run s.r.left _ (omega arith) fault.value)

pub places-preserved : goal.places-preserved
places-preserved c =
    let s = c.places in
    let trees = c.args.self.now in
    let ensures = rw (c.at.ensures.all, c.at.ensures.place) at c.in_ok-run.ensures in
    let more = places_more (token_in trees.forest.now (as_numbers trees.numbers)) s.place (standing (lumas_of trees.geom.now) s.work s.values s.counts) _ s.run _ s.r.left _ (omega arith) ensures.value in
    record { end = omega (arith, ensures.end); values_are = omega arith; counts_are = omega arith; work_is = omega arith; same = more ∙ s.invariant.same }
