use Rattle.std.proofs.Common.{◌≡◌, ◌∙◌, ◌<◌, ◌++◌, length, replicate, take, drop, pos, Ok, ap, arith}
use Rattle.std.proofs.lemmas.List.{length-replicate, take-append-le}
use Rattle.std.proofs.lemmas.Result.{err_from_is_err_and}
use Rattle.vid_geom.specs.CodedOrder.{order_of}
use Rattle.thr_token.proofs.ReadingLemmas.{all_read, few_blocks, first_listing, last_fault, listed_results_is, listed_untouched_is}
use Rattle.thr_token.proofs.reading.read_tokens_with.Goals as goal

pub begin_listed-open-requires-clause-few : goal.begin_listed-open-requires-clause-few
begin_listed-open-requires-clause-few c = omega (arith, few_blocks c.args.geom.now)

pub at_place-requires-clause-list : goal.at_place-requires-clause-list
at_place-requires-clause-list c =
    rw (c.begin_listed-open.ensures.list, c.at.ensures.all, c.in_ok-first.ensures.trees.1) (first_listing c.args.geom.now c.args.flags.now c.requires.flags)

pub returns-in_err-later-2-clause-value : goal.returns-in_err-later-2-clause-value
returns-in_err-later-2-clause-value c =
    let p = err_from_is_err_and c.from_residual-in_err-later-2.result c.from_residual-in_err-later-2.ensures.1 in
    let begun = c.begin_listed-open.ensures in
    let first = rw (c.at.ensures.all, c.at.ensures.place, c.in_ok-first.ensures.trees.0, c.in_ok-first.ensures.trees.1, begun.list, begun.counts, c.requires.blank, listed_untouched_is c.args.geom.now c.args.flags.now c.requires.flags) at c.in_ok-run.ensures.value in
    let front : take c.in_ok-run.open (c.at_place.new.list ++ drop c.begin_listed-open.result c.begin_listed-open.new.list) ≡ take c.in_ok-run.open c.at_place.new.list = take-append-le c.in_ok-run.open c.at_place.new.list _ (omega (arith, c.in_ok-run.ensures.list.0, c.at_place.auto.list)) in
    let rest = rw (c.in_ok-later.ensures.trees.0, c.in_ok-later.ensures.trees.1, front) at c.in_err-later-2.ensures.value in
    rw (p.1, p.2) (last_fault c.args.forest.now c.args.geom.now c.args.flags.now c.args.r.now.left _ _ _ _ _ _ _ _ c.in_ok-first.ensures.value first c.in_ok-later.ensures.value rest)

pub returns-clause-value : goal.returns-clause-value
returns-clause-value c =
    let begun = c.begin_listed-open.ensures in
    let first = rw (c.at.ensures.all, c.at.ensures.place, c.in_ok-first.ensures.trees.0, c.in_ok-first.ensures.trees.1, begun.list, begun.counts, c.requires.blank, listed_untouched_is c.args.geom.now c.args.flags.now c.requires.flags) at c.in_ok-run.ensures.value in
    let front : take c.in_ok-run.open (c.at_place.new.list ++ drop c.begin_listed-open.result c.begin_listed-open.new.list) ≡ take c.in_ok-run.open c.at_place.new.list = take-append-le c.in_ok-run.open c.at_place.new.list _ (omega (arith, c.in_ok-run.ensures.list.0, c.at_place.auto.list)) in
    let rest = rw (c.in_ok-later.ensures.trees.0, c.in_ok-later.ensures.trees.1, front) at c.in_ok-later-2.ensures.value in
    let all = all_read c.args.forest.now c.args.geom.now c.args.flags.now c.args.r.now.left _ _ _ _ _ _ _ _ _ _ c.in_ok-first.ensures.value first c.in_ok-later.ensures.value rest in
    let long : length c.args.values.now ≡ length (order_of c.args.geom.now) = ap length c.requires.blank ∙ length-replicate (length (order_of c.args.geom.now)) (replicate 64 (pos 0)) in
    all ∙ ap (λ x. Ok (x, c.later.new.r.left)) (listed_results_is c.args.geom.now _ c.later.new.values c.later.new.counts (omega arith) (omega arith))
