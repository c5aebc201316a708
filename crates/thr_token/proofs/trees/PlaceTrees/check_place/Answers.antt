use Rattle.std.proofs.Common.{ℕ, [], refl}
use Rattle.std.proofs.lemmas.Result.{err_from_is_err_and}
use Rattle.thr_token.proofs.CheckingLemmas.{both_kinds, first_fault, first_kind, second_kind}
use Rattle.thr_token.proofs.trees.PlaceTrees.check_place.Goals as goal

pub returns-in_err-check_kind-clause-fault : goal.returns-in_err-check_kind-clause-fault
returns-in_err-check_kind-clause-fault c =
    let p = err_from_is_err_and c.from_residual.result c.from_residual.ensures.1 in
    rw (p.1, p.2) (λ lumas chromas w. c.in_err-check_kind.ensures.fault [] lumas chromas (first_kind c.args.self.now.place c.args.waiting.now lumas chromas w))

pub returns-in_err-check_kind-2-clause-fault : goal.returns-in_err-check_kind-2-clause-fault
returns-in_err-check_kind-2-clause-fault c =
    let p = err_from_is_err_and c.from_residual-in_err-check_kind-2.result c.from_residual-in_err-check_kind-2.ensures.1 in
    let place : ℕ = c.args.self.now.place in
    rw (p.1, p.2) (λ lumas chromas w.
    let a = c.in_ok-check_kind.ensures.asked [] lumas chromas (first_kind place c.args.waiting.now lumas chromas w) in
    let s = second_kind _ place c.args.waiting.now lumas chromas _ _ _ _ _ _ w a in
    first_fault _ place c.args.waiting.now lumas chromas _ _ _ _ _ _ _ a (c.in_err-check_kind-2.ensures.fault a.after chromas [] s))

pub returns-clause-behind : goal.returns-clause-behind
returns-clause-behind c = λ lumas chromas w.
    let place : ℕ = c.args.self.now.place in
    let a = c.in_ok-check_kind.ensures.asked [] lumas chromas (first_kind place c.args.waiting.now lumas chromas w) in
    let b = c.in_ok-check_kind-2.ensures.asked a.after chromas [] (second_kind _ place c.args.waiting.now lumas chromas _ _ _ _ _ _ w a) in
    both_kinds _ place c.args.waiting.now lumas chromas _ _ _ _ _ _ _ _ _ w a b refl
