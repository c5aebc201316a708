use Rattle.std.proofs.Common.{◌≡◌, ◌∙◌, ◌<◌, ◌≤◌, [], arith, refl, sym, ap, set, get_or, length, List, ℤ, Bool}
use Rattle.std.proofs.lemmas.List.{length-map, length-set}
use Rattle.vid_geom.specs.CodedOrder.{order_of}
use Rattle.thr_token.specs.Coefficients.{is_luma}
use Rattle.thr_token.specs.Standing.{lumas_of}
use Rattle.thr_token.specs.Telling.{place_behind}
use Rattle.thr_token.specs.Views.{as_meaning}
use Rattle.thr_token.proofs.TreeLemmas.{luma_at}
use Rattle.thr_token.proofs.TellingLemmas.{any_default, behind_pass, behind_set, low_set, moved, telling_begin, telling_end, telling_more, telling_pass, within}
use Rattle.thr_token.proofs.tokenising.at_place.Goals.{then-work-i+in_ok-run, else-work-i}
use Rattle.thr_token.proofs.tokenising.at_place.Goals as goal

pub next_meaning-meaning-requires-clause-values : goal.next_meaning-meaning-requires-clause-values
next_meaning-meaning-requires-clause-values c = c.requires.small c.order.b [] (omega (arith, c.requires.values, c.blocks-b-end.ensures.value, c.order-test.true))

pub place_behind-requires : goal.place_behind-requires
place_behind-requires c = within (get_or c.args.values.now c.order.b []) c.args.place (as_meaning c.next_meaning-meaning.result) c.next_meaning-meaning.ensures.right

pub order-init : goal.order-init
order-init c = record {
  told = λ whole t. telling_begin whole c.args.place (lumas_of c.args.geom.now) c.args.values.now c.args.work.now c.args.tokens.now.items c.args.held c.requires.place t;
  size = refl;
  low = λ i h. c.requires.low i 0 h;
  behind = λ i h. absurd (omega arith);
  few = omega arith;
  tokens = λ each. each;
}

pub order-preserved : goal.order-preserved
order-preserved c =
    let b = c.order.b in
    let place = c.args.place in
    let lumas : List Bool = lumas_of c.args.geom.now in
    let block : List ℤ = get_or c.args.values.now b [] in
    let there : b < length lumas = omega (arith, length-map (order_of c.args.geom.now) is_luma, c.blocks-b-end.ensures.value, c.order-test.true) in
    let works : b < length c.order.work = omega (arith, c.order.invariant.size, c.requires.work, c.blocks-b-end.ensures.value, c.order-test.true) in
    elim c.if-work-i.branch [
      | then-work-i+in_ok-run w ↦
          let meaning = as_meaning w.next_meaning-meaning.result in
          let right = w.next_meaning-meaning.ensures.right in
          let far : place < place_behind place meaning = moved block place meaning c.requires.place w.next_meaning-meaning.ensures.sayable in
          let work : c.if-work-i.work ≡ set c.order.work b (place_behind place meaning) = w.work-is ∙ ap (set c.order.work b) w.place_behind.ensures in
          record {
            told = λ whole t. rw (work, w.tokens-is, w.run-is)
                (telling_more whole place b lumas c.args.values.now c.order.work c.order.tokens.items w.add.new.tokens.items c.order.run w.in_ok-run.run' (is_luma w.at.result) meaning
                there w.if-work-i.true (sym (luma_at c.args.geom.now b w.at.result w.at.ensures.value)) c.requires.place w.next_meaning-meaning.ensures.size right
                (λ rest next. w.in_ok-run.ensures.told whole rest next) (c.order.invariant.told whole t));
            size = rw work (length-set c.order.work b (place_behind place meaning) ∙ c.order.invariant.size);
            low = rw work (low_set place b (place_behind place meaning) c.order.work c.order.invariant.low works far);
            behind = rw work (behind_set place b (place_behind place meaning) c.order.work c.order.invariant.behind works far);
            few = rw (w.tokens-is, w.run-is) (omega (arith, w.in_ok-run.ensures.few, c.order.invariant.few));
            tokens = λ each. rw w.tokens-is (w.in_ok-run.ensures.tokens (c.order.invariant.tokens each));
          }
      | else-work-i w ↦
          record {
            told = λ whole t. rw (w.work-is, w.tokens-is, w.run-is)
                (telling_pass whole place b lumas c.args.values.now c.order.work c.order.tokens.items c.order.run there w.if-work-i.false (c.order.invariant.told whole t));
            size = rw w.work-is c.order.invariant.size;
            low = rw w.work-is c.order.invariant.low;
            behind = rw w.work-is (behind_pass place b c.order.work c.order.invariant.behind (c.order.invariant.low b works) w.if-work-i.false);
            few = rw (w.tokens-is, w.run-is) (omega (arith, c.order.invariant.few));
            tokens = λ each. rw w.tokens-is (c.order.invariant.tokens each);
          }
    ]

pub returns : goal.returns
returns c =
    let all : length (lumas_of c.args.geom.now) ≤ c.order.b = omega (arith, length-map (order_of c.args.geom.now) is_luma, c.blocks-b-end.ensures.value, c.order-test.false) in
    record {
      told = λ whole t. telling_end whole c.args.place c.order.b (lumas_of c.args.geom.now) c.args.values.now c.order.work c.order.tokens.items c.order.run all (c.order.invariant.told whole t);
      low = λ i d h.
          let here : c.args.place < get_or c.order.work i 0 = c.order.invariant.behind i (omega (arith, c.order.invariant.size, c.requires.work, c.blocks-b-end.ensures.value, c.order-test.false)) in
          omega (arith, any_default c.order.work i d 0 h);
      few = omega (arith, c.order.invariant.few, c.blocks-b-end.ensures.value, c.order.auto.b-end);
      tokens = λ each. c.order.invariant.tokens each;
    }
