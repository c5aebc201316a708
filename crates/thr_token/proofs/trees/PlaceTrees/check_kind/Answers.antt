use Rattle.std.proofs.Common.{◌≡◌, ◌∙◌, ℕ, ◌<◌, List, get_or, ap, subst, arith}
use Rattle.std.proofs.lemmas.Result.{err_from_is_err_and}
use Rattle.thr_token.specs.Checking.{AreCounted, count_at}
use Rattle.thr_token.specs.Coefficients.{Progress, token_in}
use Rattle.thr_token.specs.Views.{as_numbers}
use Rattle.thr_token.proofs.CheckingLemmas.{IsMidway, asked_all, asked_fault, asked_more, asked_none, has_moved, next_is}
use Rattle.thr_token.proofs.trees.PlaceTrees.check_kind.Goals as goal

-- the number of turns
count_here : (place at : ℕ) (blocks : List Progress) (waits : List ℕ) → place < 64 → at ≡ place → AreCounted place waits blocks → get_or waits at 0 ≡ count_at place blocks
count_here place at blocks waits low is counted = ap (λ k. get_or waits k 0) is ∙ counted place (omega arith) low

pub turns-init : goal.turns-init
turns-init c = rw c.copy-bits.ensures (record {
  end = omega arith;
  long = c.told-waits;
  midway = λ before blocks behind s. asked_none _ c.args.self.now.place c.args.luma before blocks behind c.args.run.now c.args.r.now.left c.args.waits.now c.args.unended.now s;
})

pub turns-preserved : goal.turns-preserved
turns-preserved c =
    let s = c.turns in
    let place : ℕ = c.args.self.now.place in
    record {
      end = omega (arith, s.invariant.end, c.in_ok-stands.ensures.end);
      long = c.stand.array_long;
      midway = λ before blocks behind h.
          let m = s.invariant.midway before blocks behind h in
          let more : s.counter < count_at place blocks = omega (arith, count_here c.args.self.now.place c.from.result blocks c.args.waits.now c.args.self.now.place_is c.from.ensures h.counted) in
          let n = next_is _ place c.args.luma s.counter before blocks behind c.args.run.now c.args.r.now.left s.waits s.unended s.run s.bits.left m c.args.self.now.place_is more in
          asked_more _ place c.args.luma s.counter before blocks behind c.args.run.now c.args.r.now.left s.waits s.unended s.run s.bits.left m n
          _ s.block c.turn.new.block 0 _ c.in_ok-stands.stands c.turn.new.run c.turn.new.r.left c.stand.new.waits c.stand.new.unended
          (λ some. omega (arith, some)) h.few (c.in_ok-stands.ensures.value 0)
          (λ some. has_moved place s.waits s.unended c.in_ok-stands.stands c.stand.new.waits c.stand.new.unended s.invariant.long c.stand.ensures.stays c.stand.ensures.ends some);
    }

pub returns-in_err-stands-clause-fault : goal.returns-in_err-stands-clause-fault
returns-in_err-stands-clause-fault c =
    let p = err_from_is_err_and c.from_residual.result c.from_residual.ensures.1 in
    let s = c.turns in
    let place : ℕ = c.args.self.now.place in
    rw (p.1, p.2) (λ before blocks behind h.
    let m = s.invariant.midway before blocks behind h in
    let more : s.counter < count_at place blocks = omega (arith, count_here c.args.self.now.place c.from.result blocks c.args.waits.now c.args.self.now.place_is c.from.ensures h.counted) in
    let n = next_is _ place c.args.luma s.counter before blocks behind c.args.run.now c.args.r.now.left s.waits s.unended s.run s.bits.left m c.args.self.now.place_is more in
    asked_fault _ place c.args.luma s.counter before blocks behind c.args.run.now c.args.r.now.left s.waits s.unended s.run s.bits.left m n
    _ s.block 0 _ (λ some. omega (arith, some)) (c.in_err-stands.ensures.value 0))

pub returns : goal.returns
returns c =
    let s = c.turns in
    let place : ℕ = c.args.self.now.place in
    record {
      asked = λ before blocks behind h.
          let all : s.counter ≡ count_at place blocks = omega (arith, count_here c.args.self.now.place c.from.result blocks c.args.waits.now c.args.self.now.place_is c.from.ensures h.counted) in
          asked_all _ place c.args.luma before blocks behind c.args.run.now c.args.r.now.left s.waits s.unended s.run s.bits.left
          (subst (λ k. IsMidway (token_in c.args.self.now.all.forest.now (as_numbers c.args.self.now.all.numbers)) place c.args.luma k before blocks behind c.args.run.now c.args.r.now.left s.waits s.unended s.run s.bits.left) all (s.invariant.midway before blocks behind h));
      fault = tt;
      end = s.invariant.end;
    }
