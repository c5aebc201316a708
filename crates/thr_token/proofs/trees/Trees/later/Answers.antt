use Rattle.std.proofs.Common.{◌≡◌, ◌∙◌, ℕ, ◌++◌, length, take, drop, sym, subst, arith, length-append}
use Rattle.std.proofs.lemmas.List.{take-append-le}
use Rattle.std.proofs.lemmas.Result.{err_from_is_err_and}
use Rattle.thr_token.specs.Coefficients.{token_in}
use Rattle.thr_token.specs.Listing.{IsListing, blocks_by}
use Rattle.thr_token.specs.Standing.{lumas_of}
use Rattle.thr_token.specs.Views.{as_numbers}
use Rattle.thr_token.proofs.PlaceLemmas.{places_fault, places_more}
use Rattle.thr_token.proofs.trees.Trees.later.Goals as goal

pub returns-in_err-rest-clause-value : goal.returns-in_err-rest-clause-value
returns-in_err-rest-clause-value c =
    let p = err_from_is_err_and c.from_residual.result c.from_residual.ensures.1 in
    let s = c.places in
    let trees = c.args.self.now in
    let next = token_in trees.forest.now (as_numbers trees.numbers) in
    let fault = rw (c.at.ensures.all, c.at.ensures.place) at c.in_err-rest.ensures in
    rw (p.1, p.2) (sym s.invariant.same ∙ places_fault next s.place (blocks_by (lumas_of trees.geom.now) (take s.open s.list) s.values s.counts) s.run s.r.left _ (omega arith) fault.value)

pub places-preserved : goal.places-preserved
places-preserved c =
    let s = c.places in
    let trees = c.args.self.now in
    let next = token_in trees.forest.now (as_numbers trees.numbers) in
    let lumas = lumas_of trees.geom.now in
    let kept : ℕ = c.in_ok-rest.kept in
    let ensures = rw (c.at.ensures.all, c.at.ensures.place) at c.in_ok-rest.ensures in
    let front : take kept (c.at_place.new.list ++ drop s.open s.list) ≡ take kept c.at_place.new.list = take-append-le kept c.at_place.new.list (drop s.open s.list) (omega arith) in
    let more = places_more next s.place (blocks_by lumas (take s.open s.list) s.values s.counts) _ s.run c.in_ok-rest.rest s.r.left _ (omega arith) ensures.value in
    record {
      end = omega (arith, ensures.end);
      values_are = omega arith;
      counts_are = omega arith;
      low = omega (arith, length-append c.at_place.new.list (drop s.open s.list));
      listing = subst (IsListing (length lumas)) (sym front) ensures.list.1;
      same = rw front (more ∙ s.invariant.same);
    }
