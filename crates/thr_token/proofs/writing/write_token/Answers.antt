use Rattle.std.proofs.Common.{arith}
use Rattle.std.proofs.lemmas.Result.{on_ok_weaker}
use Rattle.thr_token.proofs.WritingLemmas.{longer_by}
use Rattle.thr_token.proofs.writing.write_token.Goals as goal

pub returns-clause-few : goal.returns-clause-few
returns-clause-few c =
    on_ok_weaker c.put-in-Some.result
    (λ written. omega (arith, longer_by _ _ _ _ written, longer_by _ _ _ _ c.in_ok-put-in-Some.ensures.written, c.further_bits.ensures.few, c.in-Some.code.short, c.from.ensures)) c.put-in-Some.ensures.written
