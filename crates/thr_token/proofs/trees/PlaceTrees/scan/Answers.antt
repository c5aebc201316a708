use Rattle.std.proofs.Common.{◌≡◌, ◌≢◌, ◌∙◌, ℕ, ◌+◌, ◌-◌, ◌<◌, ◌≤◌, Bool, true, false, cond, List, length, get_or, set, take, drop, arith, refl, sym}
use Rattle.std.proofs.lemmas.List.{length-map}
use mir.Val.{bool_byte}
use Rattle.std.specs.Prelude.{nat_lt}
use Rattle.std.proofs.Math.Dec.{eqb}
use Rattle.std.proofs.lemmas.Bool.{eqb-true, eqb-false, lt-ltb, le-ltb}
use Rattle.std.proofs.lemmas.Result.{err_from_is_err_and}
use Rattle.std.proofs.Math.ListN.{length-set}
use Rattle.vid_geom.specs.CodedOrder.{order_of}
use Rattle.thr_token.specs.Coefficients.{Progress, is_luma, token_in, unended_at}
use Rattle.thr_token.specs.Standing.{lumas_of, standing}
use Rattle.thr_token.specs.Views.{as_numbers}
use Rattle.thr_token.proofs.StandingLemmas.{length_standing, unended_others, unended_set}
use Rattle.thr_token.proofs.PlaceLemmas.{place_done, turn_fault, turn_more, turn_pass}
use Rattle.thr_token.proofs.trees.PlaceTrees.scan.Goals.{then-work-i+in_ok-stands, else-work-i}
use Rattle.thr_token.proofs.trees.PlaceTrees.scan.Goals as goal

-- how many other blocks have not ended
others_are : (place all b : ℕ) (work : List ℕ) → b < length work → place < 64 → get_or work b 0 ≡ place → all ≡ unended_at work → all - 1 ≡ unended_at (take b work) + unended_at (drop (b + 1) work)
others_are place all b work h low is are = omega (arith, unended_others work b h (omega arith))

-- and how many there are when this one stands elsewhere
open_after : (all b stands : ℕ) (work : List ℕ) → b < length work → stands ≤ 64 → all - 1 ≡ unended_at (take b work) + unended_at (drop (b + 1) work) → 0 < all
    → all - bool_byte (eqb stands 64) ≡ unended_at (set work b stands)
open_after all b stands work h small others some = go (eqb stands 64) refl
  where
    go : (t : Bool) → eqb stands 64 ≡ t → all - bool_byte t ≡ unended_at (set work b stands)
    go true e =
        let none : ◌≡◌ {A = ℕ} (cond (nat_lt stands 64) 1 0) 0 = rw (le-ltb stands 64 (omega (arith, eqb-true stands 64 e))) refl in
        let fewer : all - 1 ≡ unended_at (set work b stands) = omega (arith, unended_set work b stands h) in
        fewer
    go false e =
        let apart : stands ≢ 64 = eqb-false stands 64 e in
        let below : stands < 64 = omega arith in
        let one : ◌≡◌ {A = ℕ} (cond (nat_lt stands 64) 1 0) 1 = rw (lt-ltb stands 64 below) refl in
        let as_many : all - 0 ≡ unended_at (set work b stands) = omega (arith, unended_set work b stands h) in
        as_many

-- this one has not ended
some_are : (place all b : ℕ) (work : List ℕ) → b < length work → place < 64 → get_or work b 0 ≡ place → all ≡ unended_at work → 0 < all
some_are place all b work h low is are = omega (arith, unended_others work b h (omega arith))

pub overflow_sub-open : goal.overflow_sub-open
overflow_sub-open c =
    let s = c.order in
    let trees = c.args.self.now in
    some_are trees.place s.open s.b s.work (omega (arith, s.invariant.even.places_are, length-map (order_of trees.all.geom.now) is_luma)) trees.place_is c.if-work-i.true s.invariant.open_are

pub returns-in_err-stands-clause-value : goal.returns-in_err-stands-clause-value
returns-in_err-stands-clause-value c =
    let p = err_from_is_err_and c.from_residual.result c.from_residual.ensures.1 in
    let s = c.order in
    let trees = c.args.self.now in
    let lumas : List Bool = lumas_of trees.all.geom.now in
    let within : s.b < length lumas = omega (arith, length-map (order_of trees.all.geom.now) is_luma) in
    let others = others_are trees.place s.open s.b s.work (omega (arith, s.invariant.even.places_are)) trees.place_is c.if-work-i.true s.invariant.open_are in
    let turned = rw (others, c.is_luma-luma.ensures) at (c.in_err-stands.ensures.value (get_or s.counts s.b 0)) in
    let fault = turn_fault (token_in trees.all.forest.now (as_numbers trees.all.numbers)) trees.place s.b lumas s.work s.values s.counts s.run s.r.left _ s.invariant.even within c.if-work-i.true turned in
    rw (p.1, p.2) (sym s.invariant.same ∙ fault)

pub order-preserved : goal.order-preserved
order-preserved c =
    let s = c.order in
    let trees = c.args.self.now in
    let lumas : List Bool = lumas_of trees.all.geom.now in
    let within : s.b < length lumas = omega (arith, length-map (order_of trees.all.geom.now) is_luma) in
    let long : s.b < length s.work = omega (arith, s.invariant.even.places_are) in
    elim c.if-work-i.branch [
      | then-work-i+in_ok-stands w ↦
          let others = others_are trees.place s.open s.b s.work long trees.place_is w.if-work-i.true s.invariant.open_are in
          let turned = rw (others, w.is_luma-luma.ensures) at (w.in_ok-stands.ensures.value (get_or s.counts s.b 0)) in
          let more = turn_more (token_in trees.all.forest.now (as_numbers trees.all.numbers)) trees.place s.b lumas s.work s.values s.counts s.run _ _ _ s.r.left _ s.invariant.even within w.if-work-i.true turned in
          let places = length-set s.work s.b w.in_ok-stands.stands in
          let blocks = length-set s.values s.b w.turn.new.block in
          let counts = length-set s.counts s.b trees.place in
          rw (w.r-is, w.values-is, w.counts-is, w.work-is, w.run-is, w.open-is) (record {
            end = omega (arith, w.in_ok-stands.ensures.end);
            open_are = rw w.from-open.ensures (open_after s.open s.b w.in_ok-stands.stands s.work long w.in_ok-stands.ensures.small others (some_are trees.place s.open s.b s.work long trees.place_is w.if-work-i.true s.invariant.open_are));
            even = record { places_are = places ∙ s.invariant.even.places_are; values_are = blocks ∙ s.invariant.even.values_are; counts_are = counts ∙ s.invariant.even.counts_are };
            same = more ∙ s.invariant.same;
          })
      | else-work-i w ↦
          let pass = turn_pass (token_in trees.all.forest.now (as_numbers trees.all.numbers)) trees.place s.b lumas s.work s.values s.counts s.run s.r.left s.invariant.even within w.if-work-i.false in
          rw (w.r-is, w.values-is, w.counts-is, w.work-is, w.run-is, w.open-is) (record { end = s.invariant.end; open_are = s.invariant.open_are; even = s.invariant.even; same = pass ∙ s.invariant.same })
    ]

pub returns-clause-value : goal.returns-clause-value
returns-clause-value c =
    let s = c.order in
    let trees = c.args.self.now in
    let lumas : List Bool = lumas_of trees.all.geom.now in
    let all : List Progress = standing lumas s.work s.values s.counts in
    let past : length all ≤ s.b = omega (arith, length_standing lumas s.work s.values s.counts s.invariant.even, length-map (order_of trees.all.geom.now) is_luma) in
    sym s.invariant.same ∙ place_done (token_in trees.all.forest.now (as_numbers trees.all.numbers)) trees.place s.b all s.run s.r.left past
