use Rattle.std.proofs.Common.{arith}
use Rattle.std.proofs.lemmas.Result.{err_from_is_err_and}
use Rattle.thr_token.proofs.CheckingLemmas.{come_all, come_fault, come_more, come_none}
use Rattle.thr_token.proofs.trees.Trees.check_later.Goals as goal

pub places-init : goal.places-init
places-init c = record { end = omega arith; come = λ lumas chromas w. come_none _ lumas chromas c.args.run.now c.args.r.now.left c.args.waiting.now w }

pub places-preserved : goal.places-preserved
places-preserved c =
    let s = c.places in
    let ensures = rw (c.at.ensures.all, c.at.ensures.place) at c.in_ok-check_place.ensures in
    record {
      end = omega (arith, s.invariant.end, ensures.end);
      come = λ lumas chromas w.
          let h = s.invariant.come lumas chromas w in
          come_more _ s.place lumas chromas _ _ s.waiting _ _ _ _ _ (omega arith) h (ensures.behind h.lumas_now h.chromas_now h.waiting_is);
    }

pub returns-in_err-check_place-clause-fault : goal.returns-in_err-check_place-clause-fault
returns-in_err-check_place-clause-fault c =
    let p = err_from_is_err_and c.from_residual.result c.from_residual.ensures.1 in
    let s = c.places in
    let ensures = rw (c.at.ensures.all, c.at.ensures.place) at c.in_err-check_place.ensures in
    rw (p.1, p.2) (λ lumas chromas w.
    let h = s.invariant.come lumas chromas w in
    come_fault _ s.place lumas chromas _ _ s.waiting _ _ _ (omega arith) h (ensures.fault h.lumas_now h.chromas_now h.waiting_is))

pub returns : goal.returns
returns c =
    let s = c.places in
    record {
      done = λ lumas chromas w. come_all _ s.place lumas chromas _ _ s.waiting _ _ (omega arith) (s.invariant.come lumas chromas w);
      fault = tt;
      end = s.invariant.end;
    }
